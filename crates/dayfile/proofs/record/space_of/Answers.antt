-- `space_of` meets its contract: the ranges are those of the form.
use Rattle.std.proofs.Common.{ℕ, ◌≡◌, sym, ap, ◌∙◌, Bool, cond, [], ◌∷◌}
use Rattle.spaces.specs.Space.{empty_space}
use Rattle.dayfile.specs.Fields.{each, in_ranges, fitting}
use Rattle.dayfile.specs.Record.{record_fields, space_of}
use Rattle.dayfile.specs.Handed.{read_as}
use Rattle.dayfile.proofs.record.space_of.Goals.{After-in_ranges}
use Rattle.dayfile.proofs.record.space_of.Goals as goal

-- the ranges judged by are those of the form
judged : (c : After-in_ranges)
    → (let a = c.args in c.in_ranges.result ≡ fitting (record_fields a.form) a.numbers)
judged c =
    c.in_ranges.ensures
    ∙ ap (λ (deck : ℕ). in_ranges (each (λ x. x.least) (record_fields c.args.form)) (9999 ∷ 65535 ∷ 5 ∷ 4 ∷ 0 ∷ 100000000 ∷ 150000 ∷ deck ∷ 0 ∷ []) c.args.numbers) c.greatest_in-deck.ensures

pub returns-then-in_ranges : goal.returns-then-in_ranges
unfolding read_as
returns-then-in_ranges c =
    let v = c.args.numbers in
    sym (ap (λ (t : Bool). cond t (space_of v) empty_space) (sym (judged (goal.at.returns-then-in_ranges c).After-in_ranges) ∙ c.if-in_ranges.true))

pub returns : goal.returns
unfolding read_as
returns c =
    let v = c.args.numbers in
    c.empty.ensures ∙ sym (ap (λ (t : Bool). cond t (space_of v) empty_space) (sym (judged (goal.at.returns c).After-in_ranges) ∙ c.if-in_ranges.false))
