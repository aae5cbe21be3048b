-- `write_records` meets its contract: each record stored leaves one record less to store.
use Rattle.std.proofs.Common.{ℕ, ◌+◌, ◌*◌, ◌-◌, ◌<◌, ◌≤◌, ◌≡◌, List, ◌++◌, length, take, drop, get_or, arith, sym, ap, ap₂, ◌∙◌}
use Rattle.std.proofs.Math.Seq.{sets}
use Rattle.spaces.specs.Space.{empty_space}
use Rattle.dayfile.specs.Record.{record_size, record_bytes, records}
use Rattle.dayfile.proofs.Laws.Stores.{stored_in_part}
use Rattle.dayfile.proofs.Laws.Record.{one_more_record, record_within, record_stored}
use Rattle.dayfile.proofs.record.write_records.Goals as goal

pub loop-i-preserved : goal.loop-i-preserved
loop-i-preserved c =
    let l = c.loop-i in
    let a = c.args in
    let f = a.form in
    let i = l.i in
    let at = c.record_size-size.result * i in
    let at_is : at ≡ record_size f * i = ap (λ (size : ℕ). size * i) c.record_size-size.ensures.0 in
    let x = get_or a.spaces.now i empty_space in
    let h : i < length a.spaces.now = omega arith in
    let within : at ≤ length l.buf = omega (arith, at_is, record_within (record_size f) i (length a.spaces.now) h) in
    let stored =
    ap (λ (d : List ℕ). take at l.buf ++ (d ++ drop (length l.buf - at) (drop at l.buf))) c.write_record.ensures
    ∙ stored_in_part l.buf (record_bytes f x) at within
    ∙ ap (λ (at : ℕ). sets l.buf at (record_bytes f x)) at_is in
    ap₂ (λ (d : List ℕ) (at : ℕ). sets d at (records f (drop (i + 1) a.spaces.now))) stored (sym (one_more_record (record_size f) i))
    ∙ sym (record_stored f l.buf a.spaces.now (record_size f * i) i empty_space h)
    ∙ l.invariant
