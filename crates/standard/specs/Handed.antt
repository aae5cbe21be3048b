-- What the functions inside the crate answer one another. No promise of a public function cites anything here.
use Rattle.std.specs.Prelude.{ℕ, ◌+◌, ◌≡◌, Bool, not, ◌&&◌, ◌||◌, List, [], ◌∷◌, leb, ltb, Option, None, Some, is_some}
use Rattle.measure.specs.Refusals.{first_of}
use Rattle.measure.specs.declared.units.Hundredths.{Hundredths}
use Rattle.spaces.specs.Space.{is_under_deck, is_room, is_plain}
use Rattle.spaces.specs.declared.space.Space.{Space}
use Rattle.spaces.specs.Enclosure.{enclosing}
use Rattle.spaces.specs.Around.{around_of}
use Rattle.spaces.specs.declared.around.Around.{Around}
use Rattle.standard.specs.Standings.{may_take}
use Rattle.standard.specs.Rules.{in_hatchway, no_place}
use Rattle.standard.specs.declared.rules.Seen.{Seen}

-- 9, by the enclosing space and what the entry is added to
abbrev pub overfull_by : Hundredths → Space → Option Space → ℕ → Bool
overfull_by L x None beside = is_under_deck x && ltb L.0 (beside + x.length.0)
overfull_by L x (Some z) beside = ltb z.tonnage (beside + x.tonnage)

-- the tests of whatever is entered, by its enclosing space and what else is around
abbrev pub judged_tests : Space → Option Space → Around → (misplaced overfull full : Bool) → List (Bool × ℕ)
judged_tests x o a misplaced overfull full =
    (ltb x.id 1 || ltb 9999 x.id || a.taken, 4)
    ∷ (is_room x && not (is_some o), 5)
    ∷ (misplaced, 6)
    ∷ (leb 8 a.levels, 7)
    ∷ (not (is_plain x) && not a.plain, 8)
    ∷ (overfull, 9)
    ∷ (full, 10)
    ∷ []

unfoldable pub judged_number : Space → Option Space → Around → (misplaced overfull full : Bool) → ℕ
judged_number x o a misplaced overfull full = first_of (judged_tests x o a misplaced overfull full)

-- 6 of an entry, by its enclosing space
abbrev pub misplaced_by : Space → Option Space → Bool
misplaced_by x o = not (may_take x.kind x.standing) || in_hatchway o

-- the number of an entry, by its enclosing space and what else is around
abbrev pub entry_number_by : Hundredths → Space → Option Space → Around → Bool → ℕ
entry_number_by L x o a full = judged_number x o a (misplaced_by x o) (overfull_by L x o a.beside) full

-- all that judging an entry finds on the spaces xs that stand, as the code has it
pub record SeenAs (xs : List Space) (x : Space) (r : Seen) : Type 0 where
  pub found_is : r.found ≡ enclosing xs x
  pub around_is : r.around ≡ around_of xs x
  pub full_is : r.full ≡ no_place xs
