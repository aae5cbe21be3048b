-- The text of a sheet from what the sheet hands out, and of a file from how it is read; a text in its buffer.
use Rattle.std.proofs.Common.{ℕ, ◌+◌, ◌-◌, ◌<◌, ◌≤◌, ◌≡◌, refl, sym, ap, ◌∙◌, List, ◌++◌, arith, lt-ltb, le-ltb, eq-eqb, ne_eqb, length, replicate, length-append, drop_at}
use lib.ListN.{length-replicate, replicate-append-replicate}
use lib.Seq.{sets, sets-eq}
use Rattle.script.specs.Text.{ascii}
use Rattle.sheet.specs.Sheet.{length_of, standing_of}
use Rattle.sheet.specs.Calls.{reported}
use Rattle.sheet.specs.declared.sheet.Sheet.{Sheet}
use Rattle.sheet.proofs.Laws.Report.{given, handed_out}
use Rattle.dayfile.specs.Reading.{read_of}
use Rattle.dayfile.specs.declared.reading.Reading.{Reading}
use Rattle.listing.specs.Lines.{figure_line, space_lines, refusal_line}
use Rattle.listing.specs.Listing.{most_bytes, sheet_text, file_text, listed}
use Rattle.listing.specs.declared.listing.Listing.{Listing}

-- what a sheet that can be reported hands out is what its text is made of
pub text_handed_out : (s : Sheet) (justified : ℕ) → (reported s justified).number ≡ 0
    → figure_line (ascii "LENGTH") (length_of s).0
    ++ space_lines (standing_of s)
    ++ figure_line (ascii "GROSS") (reported s justified).gross
    ++ figure_line (ascii "NET") (reported s justified).net
    ≡ sheet_text s
unfolding sheet_text
text_handed_out s justified e =
    let g = given s justified (reported s justified) refl e in
    let h = handed_out s g.is_usable in
    rw (h.length_is, h.standing_are, g.gross_is, g.net_is)

-- what a file's text is, by its size and by how it was read
pub too_long : (file : List ℕ) → most_bytes < length file → file_text file ≡ refusal_line 16 0
unfolding file_text
too_long file h = rw (lt-ltb most_bytes (length file) h)

module _ (file : List ℕ) (r : Reading) (is : r ≡ read_of file) where
  pub refused_text : length file ≤ most_bytes → (r.number ≡ 0 → ⊥) → file_text file ≡ refusal_line r.number r.position
  unfolding file_text
  refused_text h e = rw (le-ltb most_bytes (length file) h, ← is, ne_eqb r.number 0 e)

  pub read_text_lem : length file ≤ most_bytes → r.number ≡ 0 → file_text file ≡ sheet_text r.sheet
  unfolding file_text
  read_text_lem h e = rw (le-ltb most_bytes (length file) h, ← is, eq-eqb r.number 0 e)

abbrev zeros : ℕ → List ℕ
zeros n = replicate n 0

-- a text at the front of so many zeros
pub text_over_zeros : (room : ℕ) (buffer bytes : List ℕ) → buffer ≡ zeros room → length bytes ≤ room
    → sets buffer 0 bytes ≡ bytes ++ zeros (room - length bytes)
text_over_zeros room buffer bytes blank fits =
    let rest = zeros (room - length bytes) in
    let e : length bytes + (room - length bytes) ≡ room = omega arith in
    let parts : buffer ≡ zeros (length bytes) ++ rest =
    blank ∙ sym (ap zeros e) ∙ sym (replicate-append-replicate (length bytes) (room - length bytes) 0) in
    let long : length buffer ≡ room = ap length blank ∙ length-replicate room 0 in
    let z : 0 + length bytes ≡ length bytes = omega arith in
    sets-eq bytes buffer 0 (omega (arith, long))
    ∙ rw (z, parts, drop_at (zeros (length bytes)) rest (length bytes) (length-replicate (length bytes) 0))

-- the size counts bytes of the text
pub size_inside : (file : List ℕ) (r : Listing) → r ≡ listed file → r.size ≤ length r.text
unfolding listed
size_inside file r e = rw (e, length-append) (omega arith)
