-- `write_record` meets its contract: its widths are those of the form.
use Rattle.std.proofs.Common.{ℕ, ◌≡◌, ap₂, ◌∙◌, List, [], ◌∷◌}
use lib.Seq.{sets}
use Rattle.dayfile.specs.Fields.{encoded}
use Rattle.dayfile.specs.Record.{numbers_of}
use Rattle.dayfile.proofs.record.write_record.Goals as goal

pub returns : goal.returns
returns c =
    let a = c.args in
    let numbers : (c.from.result ∷ c.from-2.result ∷ c.from-3.result ∷ c.from-4.result ∷ 0 ∷ c.from-5.result ∷ c.from-6.result ∷ c.from-7.result ∷ 0 ∷ []) ≡ numbers_of a.x = cc in
    c.put_fields.ensures
    ∙ ap₂ (λ (widths numbers : List ℕ). sets a.buf.now 0 (encoded widths numbers)) c.record_widths.ensures numbers
