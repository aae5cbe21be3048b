-- What a usable sheet's counts are.
use Rattle.std.proofs.Common.{◌≡◌, true, ◌&&◌, ◌-◌, ◌≤◌, leb-true, le-leb, eqb, leb, length, List}
use Rattle.measure.proofs.Laws.Tests.{and_left, and_right}
use Rattle.sheet.specs.Sheet.{standing, standing_of, usable}
use Rattle.spaces.specs.declared.space.Space.{Space}
use Rattle.spaces.proofs.Laws.Cases.{by_test}
use Rattle.sheet.specs.Changes.{fitted}
use Rattle.sheet.specs.Handed.{Open}
use Rattle.sheet.specs.declared.sheet.Sheet.{Sheet}

pub record Counts (s : Sheet) : Type 0 where
  pub opened : eqb s.opened 1 ≡ true
  pub places : s.count ≤ 200
  pub undoable : s.undoable ≤ 64
  pub redoable : s.redoable ≤ 64 - s.undoable

pub usable_counts : (s : Sheet) → usable s ≡ true → Counts s
unfolding usable
usable_counts s e =
    let a = eqb s.opened 1 && leb s.count 200 in
    let b = a && leb s.undoable 64 in
    let h = and_left b (leb s.redoable (64 - s.undoable)) e in
    let g = and_left a (leb s.undoable 64) h in
    record {
      opened = and_left (eqb s.opened 1) (leb s.count 200) g;
      places = leb-true _ _ (and_right (eqb s.opened 1) (leb s.count 200) g);
      undoable = leb-true _ _ (and_right a (leb s.undoable 64) h);
      redoable = leb-true _ _ (and_right b (leb s.redoable (64 - s.undoable)) e);
    }

-- what a usable sheet hands the functions inside
pub opened : (s : Sheet) → usable s ≡ true → Open s
opened s on =
    let u = usable_counts s on in
    record { usable_is = on; count = u.places; undoable = u.undoable; redoable = u.redoable }

-- and what stands on it
pub stand : {s : Sheet} → Open s → standing_of s ≡ standing s
unfolding standing_of
stand o = rw o.usable_is

-- other standing spaces leave it so, and the open changes as they are
pub fitted_open : (xs : List Space) (s : Sheet) → Open s → Open (fitted xs s)
unfolding usable fitted
fitted_open xs s o = opened (fitted xs s)
    (let u = usable_counts s o.usable_is in
    by_test (leb (length xs) 200)
    (λ fits. rw (fits, fits, u.opened, le-leb _ _ u.undoable, le-leb _ _ u.redoable))
    (λ more. rw more o.usable_is))

pub fitted_redoable : (xs : List Space) (s : Sheet) → (fitted xs s).redoable ≡ s.redoable
unfolding fitted
fitted_redoable xs s = by_test (leb (length xs) 200) (λ fits. rw fits) (λ more. rw more)
