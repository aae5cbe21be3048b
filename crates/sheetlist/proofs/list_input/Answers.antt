-- What was read has the text of the whole input: it is the whole, or too long as the whole is. What is written is that text.
use Rattle.std.proofs.Common.{inl, inr, ◌≡◌, ℕ, ◌<◌, ◌≤◌, List, ◌++◌, None, Some, Result, Ok, Err, OnOk, IfSome, arith, rules, length, take, sym, ap, ◌∙◌, subst, append-nil, length-append, length-take-le}
use Rattle.std.proofs.Math.Nat.{eq-or-lt_of_le}
use Rattle.std.proofs.Math.Seq.{take-append_seam}
use Rattle.std.specs.declared.option.Option.{Option}
use Rattle.std.specs.Io.KnownBytes.{Appends, Consumes, IsAtEnd}
use Rattle.listing.specs.Listing.{file_text, listed}
use Rattle.listing.specs.declared.listing.Listing.{Listing}
use Rattle.listing.proofs.Laws.Listing.{size_inside, too_long}
use Rattle.sheetlist.proofs.list_input.Goals as goal

listed_text : (file : List ℕ) (r : Listing) → r ≡ listed file → take r.size r.text ≡ file_text file
unfolding listed
listed_text file r e = rw (e, take-append_seam)

front_text : (file front left : List ℕ) → length front ≤ 65537 → file ≡ front ++ left → (length front < 65537 → IsAtEnd (Some left))
    → file_text front ≡ file_text file
front_text file front left fits parts whole =
    elim (eq-or-lt_of_le fits) [
      | inl full ↦ too_long front (omega arith) ∙ sym (too_long file (omega (arith, ap length parts, length-append front left)))
      | inr less ↦ ap file_text (sym (parts ∙ ap (λ (l : List ℕ). front ++ l) (whole less) ∙ append-nil front))
    ]

-- what was read of an input, and its text written
written : {T E : Type 0} (known rest old new : Option (List ℕ)) (r : Result T E) (front text : List ℕ)
    → length front ≤ 65537 → Consumes known rest front → (length front < 65537 → IsAtEnd rest) → text ≡ file_text front
    → OnOk r (Appends old new text) → OnOk r (IfSome known (λ file. Appends old new (file_text file)))
written known rest old new (Err e) front text fits read whole is put = tt
written None rest old new (Ok x) front text fits read whole is put = tt
written (Some file) None old new (Ok x) front text fits read whole is put = absurd read
written (Some file) (Some left) old new (Ok x) front text fits read whole is put =
    subst (Appends old new) (is ∙ front_text file front left fits read whole) put

pub shared_ref_as_front-write_all : goal.shared_ref_as_front-write_all
shared_ref_as_front-write_all g c =
    let room : length c.list-listing.result.text ≡ 8192 = search rules in omega (arith, room, size_inside _ _ c.list-listing.ensures)

pub slice_bounds-write_all-end : goal.slice_bounds-write_all-end
slice_bounds-write_all-end g c = sym (length-take-le _ _ (size_inside _ _ c.list-listing.ensures))

pub returns : goal.returns
returns g c =
    let read = c.in_ok-n.ensures in
    let size : length (take c.in_ok-n.n c.read_full.new.buf) ≡ c.in_ok-n.n = length-take-le _ _ read.bound in
    let room : length c.read_full.new.buf ≡ 65537 = omega (arith, c.read_full.auto.buf, c.file_buffer-file.ensures) in
    written _ _ _ _ _ _ _
    (omega (arith, read.bound))
    read.bytes
    (λ less. read.whole (omega arith))
    (listed_text _ _ c.list-listing.ensures)
    c.write_all.ensures.bytes
