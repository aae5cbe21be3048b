-- `read_records` meets its contract: each space read leaves one record less to read.
use Rattle.std.proofs.Common.{ℕ, ◌≡◌, ◌+◌, ◌*◌, ◌-◌, ◌++◌, take, drop, rules, sym, ap, ap₂, ◌∙◌, set}
use Rattle.spaces.specs.declared.space.Space.{Space}
use Rattle.dayfile.specs.Record.{record_size, record_numbers, records_in}
use Rattle.dayfile.specs.Handed.{read_as, each_read_as}
use Rattle.dayfile.proofs.Laws.Stores.{lent_part}
use Rattle.dayfile.proofs.Laws.Record.{one_more_record, record_read}
use Rattle.dayfile.proofs.record.read_records.Goals as goal

pub loop-i-preserved : goal.loop-i-preserved
loop-i-preserved c =
    let l = c.loop-i in
    let a = c.args in
    let f = a.form in
    let i = l.i in
    let at = c.record_size-size.result * i in
    let at_is : at ≡ record_size f * i = ap (λ (size : ℕ). size * i) c.record_size-size.ensures.0 in
    let read : c.space_of.result ≡ read_as f (record_numbers f (drop (record_size f * i) a.bytes.now)) =
    c.space_of.ensures
    ∙ ap (read_as f) (c.read_record.ensures ∙ ap (record_numbers f) (lent_part a.bytes.now at ∙ ap (λ (at : ℕ). drop at a.bytes.now) at_is)) in
    ap₂ (λ (x : Space) (at : ℕ). take (i + 1) (set l.x-items i x) ++ each_read_as f (records_in f (a.count - (i + 1)) (drop at a.bytes.now))) read (sym (one_more_record (record_size f) i))
    ∙ record_read f l.x-items a.bytes.now (record_size f * i) a.count i (search rules) (search rules)
    ∙ l.invariant
