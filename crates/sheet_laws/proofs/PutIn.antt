-- A space put in at a place: places that hold it there are those of the sheet with the space inserted. Laws.Changes of `sheet` says so of
-- usable sheets; here it is of any with room, since the other fields neither change nor matter.
use Rattle.std.proofs.Common.{ℕ, ◌+◌, ◌-◌, ◌≤◌, ◌<◌, min, ◌≡◌, refl, ap, ◌∙◌, Bool, true, false, cond, List, ◌∷◌, arith, le-leb, leb, length, drop}
use lib.Seq.{paste}
use Rattle.spaces.specs.declared.space.Space.{Space}
use Rattle.sheet.specs.Sheet.{standing, usable}
use Rattle.sheet.specs.Changes.{inserted, with_standing, fitted}
use Rattle.sheet.specs.Handed.{Open}
use Rattle.sheet.specs.declared.sheet.Sheet.{Sheet}
use Rattle.sheet.proofs.Laws.Changes.{placed, place_in}

-- no more spaces than places
pub record Places (s : Sheet) : Type 0 where
  pub count : s.count ≤ 200
  pub all : length s.spaces ≡ 200

-- the sheet as an open one without open changes, and a sheet with its own fields again
abbrev as_open : Sheet → Sheet
as_open s =
    record {
      opened = 1;
      length = s.length;
      vessel = s.vessel;
      spaces = s.spaces;
      count = s.count;
      changes = s.changes;
      undoable = 0;
      redoable = 0;
    }

abbrev as_it_was : Sheet → Sheet → Sheet
as_it_was s t =
    record {
      opened = s.opened;
      length = t.length;
      vessel = t.vessel;
      spaces = t.spaces;
      count = t.count;
      changes = t.changes;
      undoable = s.undoable;
      redoable = s.redoable;
    }

-- (its counts are those of a usable sheet)
still_open : (s : Sheet) → s.count ≤ 200 → Open (as_open s)
unfolding usable
still_open s h = record { usable_is = rw (le-leb s.count 200 h); count = h; undoable = omega arith; redoable = omega arith }

fitted_alike : (ys : List Space) (s : Sheet) → as_it_was s (fitted ys (as_open s)) ≡ fitted ys s
unfolding fitted
fitted_alike ys s = by (leb (length ys) 200)
  where
    by : (b : Bool) → as_it_was s (cond b (with_standing ys (as_open s)) (as_open s)) ≡ cond b (with_standing ys s) s
    by true = refl
    by false = refl

module _ (s : Sheet) (whole : Places s) where
  -- a row in which the space was put in at that place
  pub put_in : (p : ℕ) (x : Space) → s.count < 200 → (row : List Space)
      → row ≡ paste s.spaces (min p s.count) (x ∷ drop (min p s.count) s.spaces) (s.count + 1 - min p s.count)
      → placed row (s.count + 1) s ≡ fitted (inserted p x (standing s)) s
  put_in p x h row e =
      ap (λ (r : List Space). placed r (s.count + 1) s) e
      ∙ ap (as_it_was s) (place_in (as_open s) (still_open s whole.count) whole.all p x h)
      ∙ fitted_alike (inserted p x (standing s)) s
