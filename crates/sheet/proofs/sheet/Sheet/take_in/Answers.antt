-- `Sheet::take_in` meets its contract: the tests of 1 to 10 and 19, the entry made and noted, its roundings passed on, and the enclosing
-- spaces visited.
use Rattle.std.proofs.Common.{Result, Ok, Err, MatchResult, ◌≡◌, sym, ap, ap₂, ◌∙◌, Bool, true, cond, not, List, [], ◌∷◌, ◌++◌, ℕ, arith, ne_eqb, eqb-true, eqb, rules}
use Rattle.std.specs.Result.{IsOkAnd}
use Rattle.measure.specs.Kinds.{kind_of}
use Rattle.measure.specs.Refusals.{first_of}
use Rattle.measure.specs.Offsets.{m_of}
use Rattle.measure.specs.Roundings.{passed_on, measured_offsets}
use Rattle.measure.specs.Ends.{ends_of, end_areas}
use Rattle.measure.specs.declared.kinds.Kind.{Kind}
use Rattle.measure.specs.declared.offsets.Measured.{Measured}
use Rattle.measure.specs.declared.offsets.MeasuredOffsets.{MeasuredOffsets}
use Rattle.measure.specs.declared.refusals.Refusal.{Refusal}
use Rattle.measure.specs.declared.roundings.Roundings.{Roundings}
use Rattle.measure.proofs.Laws.Refusals.{spliced}
use Rattle.measure.proofs.Laws.Roundings.{measured_of, roundings_of}
use Rattle.spaces.proofs.Laws.Cases.{by_test}
use Rattle.standard.specs.Rules.{entry_tests, entry_number, entry_ruling}
use Rattle.standard.specs.declared.rules.EntryRuling.{EntryRuling}
use Rattle.spaces.specs.declared.space.Space.{Space}
use Rattle.sheet.specs.Sheet.{standing, usable}
use Rattle.sheet.specs.Ends.{pointed_with_area}
use Rattle.sheet.specs.Calls.{answered, changed, entry_of, space_of, measured_for, misstated, entered, visited_for, entering, entry_refused}
use Rattle.sheet.specs.declared.changes.Change.TheVariants.{Entered}
use Rattle.sheet.specs.Handed.{answer_of, entry_answer}
use Rattle.sheet.specs.declared.calls.Changed.{Changed}
use Rattle.sheet.specs.declared.sheet.Sheet.{Sheet}
use Rattle.sheet.specs.declared.calls.Entry.{Entry}
use Rattle.sheet.proofs.Laws.Calls.{passed, after_call, is_open, ruling_visits, entry_refused_is}
use Rattle.sheet.proofs.Laws.Ends.{by_its_ends}
use Rattle.sheet.proofs.Laws.Sheet.{stand}
use Rattle.sheet.proofs.sheet.Sheet.take_in.Goals.{After-judged-number}
use Rattle.sheet.proofs.sheet.Sheet.take_in.Goals as goal

module _ (s : Sheet) (e : Entry) (hs bs : List ℕ) where
  abbrev x : Space
  x = space_of s.length e hs bs

  -- the tests behind those of measuring, and behind that of 1
  abbrev from_4 : List (Bool × ℕ)
  from_4 = entry_tests s.length (standing s) x ++ ((pointed_with_area e (ends_of hs bs), 19) ∷ [])

  abbrev from_2 : List (Bool × ℕ)
  from_2 = let n = (measured_for s e hs bs).number in (misstated e, 2) ∷ (not (eqb n 0), n) ∷ from_4

  -- those behind measuring as the code has them, where r is the number by the spaces that stand
  abbrev ruled_with : ℕ → List (Bool × ℕ)
  ruled_with r = (not (eqb r 0), r) ∷ (pointed_with_area e (end_areas s.length e.length hs bs), 19) ∷ []

  -- what is answered beside a change: of a refused one no rounding
  refusing : {k v : ℕ} {after : Sheet} → (k ≡ 0 → ⊥) → record { number = k; sheet = after } ≡ entered s e hs bs → v ≡ visited_for s x
      → entry_refused k v after ≡ entering s e hs bs
  unfolding entering
  refusing some change walked = simp (sym change, ne_eqb _ 0 some, walked)

  accepting : {r : Roundings} {v : ℕ} {after : Sheet} → record { number = 0; sheet = after } ≡ entered s e hs bs
      → r ≡ passed_on (kind_of e.kind) s.length e.length hs → v ≡ visited_for s x
      → record { number = 0; roundings = r; visited = v; sheet = after } ≡ entering s e hs bs
  unfolding entering
  accepting change rounded walked = simp (sym change, rounded, walked)

  -- by the outcome of the change, and what is told of it: the roundings where it is accepted
  telling : (outcome : Result (Unit {0}) Refusal) (told : Result Roundings Refusal) {P : Unit {0} → Roundings → Type 0} {k v : ℕ} {r : Roundings} {after : Sheet}
      → MatchResult outcome (λ _. k ≡ 0) (λ _. k ≡ 0 → ⊥)
      → MatchResult outcome (λ x. IsOkAnd told (P x)) (λ e. told ≡ Err e) → ((x : Unit {0}) (y : Roundings) → P x y → y ≡ r)
      → k ≡ (entered s e hs bs).number → answer_of outcome after ≡ entered s e hs bs → (k ≡ 0 → r ≡ passed_on (kind_of e.kind) s.length e.length hs)
      → v ≡ visited_for s x → entry_answer told v after ≡ entering s e hs bs
  telling (Ok x) (Ok y) none mapped same _ change rounded walked = accepting change (same x y mapped ∙ rounded none) walked
  telling (Ok _) (Err _) none never same _ change rounded walked = absurd never
  telling (Err r) told {v} {after} some mapped same is change rounded walked =
      rw mapped
      (entry_refused_is r v after
      ∙ refusing (λ z. some (is ∙ sym (ap (λ (a : Changed). a.number) change) ∙ z)) change walked)

  -- on an open sheet: measuring answered `offsets`, y is the record that is made of it, and the entry is judged
  record Judging (offsets : MeasuredOffsets) (parts : ℕ) (y : Space) (ruling : EntryRuling) (k : ℕ) : Type 0 where
    on : usable s ≡ true
    offsets_are : offsets ≡ measured_offsets e.kind s.length e.length hs bs
    m_is : parts ≡ m_of (kind_of e.kind) hs
    made_of : y ≡ entry_of e parts offsets.measured.tonnage
    ruled : ruling ≡ entry_ruling (entry_number s.length (standing s) y) (standing s) y
    first : let n = offsets.measured.number in k ≡ first_of ((misstated e, 2) ∷ (not (eqb n 0), n) ∷ ruled_with ruling.number)

  module _ {offsets : MeasuredOffsets} {parts : ℕ} {y : Space} {ruling : EntryRuling} {k : ℕ} (j : Judging offsets parts y ruling k) where
    measuring : offsets.measured ≡ measured_for s e hs bs
    measuring = ap (λ (q : MeasuredOffsets). q.measured) j.offsets_are ∙ measured_of e.kind s.length e.length hs bs

    same : y ≡ x
    same = j.made_of ∙ ap₂ (λ (i : ℕ) (q : Measured). entry_of e i q.tonnage) j.m_is measuring

    -- where its offsets are refused, nothing behind them is asked
    from_measures : let n = (measured_for s e hs bs).number in
        cond (not (eqb n 0)) n (first_of (ruled_with (entry_number s.length (standing s) x))) ≡ cond (not (eqb n 0)) n (first_of from_4)
    unfolding entry_number
    from_measures =
        by_test (eqb (measured_for s e hs bs).number 0)
        (λ t.
        rw (t, by_its_ends e s.length hs bs (eqb-true _ 0 t))
        (spliced (entry_tests s.length (standing s) x) ((pointed_with_area e (ends_of hs bs), 19) ∷ []) (omega arith)))
        (λ f. rw f)

    number_is : k ≡ first_of ((not (usable s), 1) ∷ from_2)
    number_is =
        j.first
        ∙ rw (measuring, j.ruled, same) (ap (λ (i : ℕ). cond (misstated e) 2 i) from_measures)
        ∙ sym (is_open s from_2 j.on)

    change_is : answered k s (changed (Entered y) s) ≡ entered s e hs bs
    unfolding entered
    change_is = ap₂ (λ (i : ℕ) (z : Space). answered i s (changed (Entered z) s)) number_is same

    visited_is : ruling.visited ≡ visited_for s x
    visited_is = ruling_visits s j.on j.ruled same

    -- none of its numbers is given, so none by its offsets
    passed_on_is : k ≡ 0 → offsets.roundings ≡ passed_on (kind_of e.kind) s.length e.length hs
    passed_on_is none =
        let n = offsets.measured.number in
        let from_3 = (passed (misstated e) 2 ((not (eqb n 0), n) ∷ ruled_with ruling.number) (sym j.first ∙ none) (λ z. omega arith)).1 in
        let taken = sym (ap (λ (q : Measured). q.number) measuring) ∙ (after_call n (ruled_with ruling.number) from_3).0 in
        ap (λ (q : MeasuredOffsets). q.roundings) j.offsets_are ∙ roundings_of e.kind s.length e.length hs bs taken

pub returns-in-Err : goal.returns-in-Err
unfolding entered entering
returns-in-Err c = let off = c.in-Err.ensures in rw (off.0, off.1)

judging : (c : After-judged-number) → let a = c.args in
    Judging a.self.now a.entry a.heights.now a.breadths.now c.measure_offsets-offsets.result c.m_of.result c.space-x.result c.entry_ruling-ruling.result c.judged-number.result
judging c = let o = c.in_default.ensures in record {
  on = o.usable_is;
  offsets_are = c.measure_offsets-offsets.ensures;
  m_is = c.m_of.ensures ∙ ap (λ (k : Kind). m_of k c.args.heights.now) c.kind_of.ensures;
  made_of = c.space-x.ensures;
  ruled = rw (c.standing.ensures.spaces ∙ stand o) at c.entry_ruling-ruling.ensures;
  first = c.judged-number.ensures;
}

pub returns : goal.returns
returns c =
    let a = c.args in
    let j = judging (goal.at.returns c).After-judged-number in
    let change = change_is a.self.now a.entry a.heights.now a.breadths.now j in
    telling a.self.now a.entry a.heights.now a.breadths.now c.change-outcome.result c.map.result c.change-outcome.ensures.ruled c.map.ensures.cases (λ x y q. search rules)
    (ap (λ (d : Changed). d.number) change)
    (c.change-outcome.ensures.answer ∙ change)
    (passed_on_is a.self.now a.entry a.heights.now a.breadths.now j)
    (visited_is a.self.now a.entry a.heights.now a.breadths.now j)
