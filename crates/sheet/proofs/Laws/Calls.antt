-- How a call's number follows from its tests, and what is answered with it.
use Rattle.std.proofs.Common.{◌≡◌, refl, sym, ap, ◌∙◌, Bool, true, false, cond, not, List, ◌∷◌, ℕ, Err, ne_eqb, eqb-true, eqb}
use borrow.Author.Tests.{eqb-false}
use Rattle.measure.specs.Refusals.{first_of}
use Rattle.spaces.specs.declared.space.Space.{Space}
use Rattle.spaces.proofs.Laws.Cases.{by_test}
use Rattle.standard.specs.Rules.{entry_ruling}
use Rattle.standard.specs.declared.rules.EntryRuling.{EntryRuling}
use Rattle.sheet.specs.Sheet.{standing, usable}
use Rattle.sheet.specs.Changes.{made, noted}
use Rattle.sheet.specs.Calls.{answered, changed, visited_for, entry_refused}
use Rattle.sheet.specs.Handed.{entry_answer}
use Rattle.sheet.specs.declared.changes.Change.{Change}
use Rattle.sheet.specs.declared.sheet.Sheet.{Sheet}
use Rattle.sheet.specs.declared.calls.Changed.{Changed}
use Rattle.measure.specs.declared.refusals.Refusal.{Refusal}

-- the first test applies, or is passed over
pub applies : (b : Bool) (n : ℕ) (tests : List (Bool × ℕ)) → b ≡ true → first_of ((b, n) ∷ tests) ≡ n
applies b n tests e = ap (λ (t : Bool). cond t n (first_of tests)) e

pub passes : (b : Bool) (n : ℕ) (tests : List (Bool × ℕ)) → b ≡ false → first_of ((b, n) ∷ tests) ≡ first_of tests
passes b n tests e = ap (λ (t : Bool). cond t n (first_of tests)) e

-- where no number is given, the first test didn't apply, and the others give none
pub passed : (b : Bool) (n : ℕ) (tests : List (Bool × ℕ)) → first_of ((b, n) ∷ tests) ≡ 0 → (n ≡ 0 → ⊥) → (b ≡ false) × (first_of tests ≡ 0)
passed true n tests e h = absurd (h e)
passed false n tests e h = (refl, e)

-- where a refused call's number is the first test's, and no number is given, that call is accepted and no other test applies
pub after_call : (n : ℕ) (tests : List (Bool × ℕ)) → first_of ((not (eqb n 0), n) ∷ tests) ≡ 0 → (n ≡ 0) × (first_of tests ≡ 0)
after_call n tests e =
    by_test (eqb n 0)
    (λ t. (eqb-true n 0 t, rw t at e))
    (λ f. let z : n ≡ 0 = rw f at e in absurd (eqb-false n 0 f z))

-- of a usable sheet what the other tests give
pub is_open : (s : Sheet) (tests : List (Bool × ℕ)) → usable s ≡ true → first_of ((not (usable s), 1) ∷ tests) ≡ first_of tests
is_open s tests e = passes (not (usable s)) 1 tests (ap not e)

-- and behind 2, where what is said is within its range
pub within : (s : Sheet) (out : Bool) (tests : List (Bool × ℕ)) → usable s ≡ true → out ≡ false
    → first_of ((not (usable s), 1) ∷ (out, 2) ∷ tests) ≡ first_of tests
within s out tests on e = is_open s ((out, 2) ∷ tests) on ∙ passes out 2 tests e

-- a number that isn't 0 is answered with the sheet as it came
pub refused : (k : ℕ) (s next : Sheet) → (k ≡ 0 → ⊥) → ◌≡◌ {A = Changed} (record { number = k; sheet = s }) (answered k s next)
refused k s next h = ap (λ (t : Bool). record { number = k; sheet = cond t next s }) (sym (ne_eqb k 0 h))

-- and 0 with the change made and noted
pub accepted : (k : ℕ) (s : Sheet) (c : Change) (after next : Sheet) → k ≡ 0 → after ≡ made c s → next ≡ noted c after
    → ◌≡◌ {A = Changed} (record { number = 0; sheet = next }) (answered k s (changed c s))
accepted k s c after next zero is_made is-noted =
    ap (λ (t : Sheet). record { number = 0; sheet = t }) (is-noted ∙ ap (noted c) is_made) ∙ ap (λ (n : ℕ). answered n s (changed c s)) (sym zero)

-- a refused entry's outcome tells its number, no rounding and the sheet as it came
pub entry_refused_is : (r : Refusal) (visited : ℕ) (s : Sheet) → entry_answer (Err r) visited s ≡ entry_refused r.0 visited s
entry_refused_is r visited s = refl

-- a ruling on an open sheet has the enclosing spaces visited where its space is entered
pub ruling_visits : (s : Sheet) {x y : Space} {n : ℕ} {ruling : EntryRuling} → usable s ≡ true → ruling ≡ entry_ruling n (standing s) y → y ≡ x
    → ruling.visited ≡ visited_for s x
ruling_visits s on is same = ap (λ (r : EntryRuling). r.visited) is ∙ rw (same, on)
