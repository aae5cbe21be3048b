-- A sheet: "It holds 200 places for spaces, kept in order of entry", and its open changes.
use Rattle.std.specs.Prelude.{ℕ, ◌-◌, ◌≡◌, refl, Bool, false, cond, ◌&&◌, List, [], eqb, leb, ltb, length, take, get_or, replicate}
use Rattle.measure.specs.Volumes.{hundredths}
use Rattle.measure.specs.declared.units.Hundredths.{Hundredths}
use Rattle.spaces.specs.Space.{empty_space}
use Rattle.spaces.specs.declared.space.Space.{Space}
use Rattle.sheet.specs.declared.changes.Change.{Change}
use Rattle.sheet.specs.declared.changes.Change.TheVariants.{Entered, Withdrawn, Marked}
use Rattle.sheet.specs.declared.changes.OpenChange.{OpenChange}
use Rattle.sheet.specs.declared.sheet.Sheet.{Sheet}

-- the standing spaces, in order of entry; what lies in a free place is never looked at
abbrev pub standing : Sheet → List Space
standing s = take s.count s.spaces

-- open, with counts that a call could have handed back: any other sheet is answered as one not open
unfoldable pub usable : Sheet → Bool
usable s = eqb s.opened 1 && leb s.count 200 && leb s.undoable 64 && leb s.redoable (64 - s.undoable)

-- a change as a sheet keeps it, in numbers; and the change that is kept so
abbrev pub kept : Change → OpenChange
kept (Entered x) = record { made = 0; before = 0; after = 0; place = 0; space = x }
kept (Withdrawn p x) = record { made = 1; before = 0; after = 0; place = p; space = x }
kept (Marked p before after) = record { made = 2; before = before; after = after; place = p; space = empty_space }

unfoldable pub change_of : OpenChange → Change
change_of o =
    cond (eqb o.made 0)
    (Entered o.space)
    (cond (eqb o.made 1)
    (Withdrawn o.place o.space)
    (Marked o.place o.before o.after))

-- nothing of a change is lost
pub kept_whole : (c : Change) → change_of (kept c) ≡ c
unfolding change_of
kept_whole (Entered x) = refl
kept_whole (Withdrawn p x) = refl
kept_whole (Marked p before after) = refl

-- the change of a place that holds none
abbrev pub no_change : OpenChange
no_change = kept (Entered empty_space)

-- a sheet with nothing on it, a tonnage length and a vessel number
unfoldable pub blank : Bool → Hundredths → ℕ → Sheet
blank opened length vessel =
    record {
      opened = cond opened 1 0;
      length = length;
      vessel = vessel;
      spaces = replicate 200 empty_space;
      count = 0;
      changes = replicate 64 no_change;
      undoable = 0;
      redoable = 0;
    }

-- a sheet not open
abbrev pub not_open : Sheet
not_open = blank false (hundredths 0) 0

-- what a sheet hands out: its tonnage length, its vessel number, how many spaces stand, the one at a place, all the places, and those
-- that stand
unfoldable pub length_of : Sheet → Hundredths
length_of s = cond (usable s) s.length (hundredths 0)

unfoldable pub vessel_of : Sheet → ℕ
vessel_of s = cond (usable s) s.vessel 0

unfoldable pub standing_count : Sheet → ℕ
standing_count s = cond (usable s) s.count 0

unfoldable pub space_at : Sheet → ℕ → Space
space_at s place = cond (ltb place (standing_count s)) (get_or s.spaces place empty_space) empty_space

unfoldable pub places_of : Sheet → List Space
places_of s = cond (usable s) s.spaces (replicate 200 empty_space)

unfoldable pub standing_of : Sheet → List Space
standing_of s = cond (usable s) (standing s) []
