-- `put_fields` meets its contract: each field stored leaves one field less to store.
use Rattle.std.proofs.Common.{ℕ, ◌≡◌, ◌+◌, ◌-◌, ◌≤◌, List, [], ◌∷◌, ◌++◌, length, get_or, take, drop, arith, sym, ap₂, ◌∙◌, length-append, length-take, length-drop, drop_of_length-le}
use Rattle.dayfile.specs.Numbers.{bytes_of}
use Rattle.dayfile.proofs.Laws.Numbers.{length_bytes}
use Rattle.std.proofs.lemmas.Slice.Zip.{zip_turn, zip_end}
use Rattle.std.proofs.Math.Seq.{sets}
use Rattle.dayfile.specs.Fields.{encoded}
use Rattle.dayfile.proofs.Laws.Stores.{stored_part}
use Rattle.dayfile.proofs.Laws.Fields.{size_step, encoded_step}
use Rattle.dayfile.proofs.fields.put_fields.Goals as goal

pub loop-width-preserved : goal.loop-width-preserved
loop-width-preserved c =
    let a = c.args in
    let l = c.loop-width in
    let i = length l.yielded in
    let w = get_or a.widths.now i 0 in
    let n = get_or a.numbers.now i 0 in
    let (h, k, width, number) = zip_turn a.widths.now a.numbers.now l.yielded _ l.width-iterator c.next.new.self c.next.result (cc) (cc) l.yielded_by _ c.in-Some.is c.next.ensures.steps in
    let one : length (l.yielded ++ ((c.in-Some.width, c.in-Some.number) ∷ [])) ≡ i + 1 = length-append l.yielded ((c.in-Some.width, c.in-Some.number) ∷ []) in
    let wide : c.from.result ≡ w = c.from.ensures ∙ width 0 in
    let room : l.at + w ≤ length l.buf = omega (arith, size_step a.widths.now i h) in
    let part : length (take (l.at + c.from.result - l.at) (drop l.at l.buf)) ≡ w = simp (length-take, length-drop) (omega (arith, wide, room)) in
    let stored = stored_part l.buf _ (bytes_of w n) l.at (l.at + c.from.result - l.at) (c.put_number.ensures ∙ ap₂ bytes_of part (number 0)) (omega (arith, wide, length_bytes w n)) (omega (arith, room, length_bytes w n)) in
    let rest = encoded (drop (i + 1) a.widths.now) (drop (i + 1) a.numbers.now) in
    record {
      fields_left = rw one (omega (arith, size_step a.widths.now i h, wide, l.invariant.fields_left));
      stored = rw one
          (ap₂ (λ (d : List ℕ) (k : ℕ). sets d (l.at + k) rest) stored wide
          ∙ sym (encoded_step l.buf a.widths.now a.numbers.now l.at i h k)
          ∙ l.invariant.stored);
    }

pub returns : goal.returns
returns c =
    let a = c.args in
    let l = c.loop-width in
    let i = length l.yielded in
    let all = zip_end a.widths.now a.numbers.now l.yielded _ l.width-iterator c.next.new.self c.next.result (cc) (cc) l.yielded_by c.in-None.is c.next.ensures.steps in
    let none : drop i a.widths.now ≡ [] = drop_of_length-le a.widths.now {i = i} (omega arith) in
    rw none at l.invariant.stored
