-- The standing spaces in order of entry: finding one by its id, and sums over them.
use Rattle.std.specs.Prelude.{ℕ, suc, ◌+◌, ◌*◌, ◌^◌, ◌≤◌, Bool, cond, ◌&&◌, List, [], ◌∷◌, eqb, Option, None, Some, is_some, unwrap_or}
use Rattle.spaces.specs.Space.{empty_space, is_under_deck, is_hatchway, is_room, is_hull}
use Rattle.spaces.specs.declared.space.Space.{Space}
use Rattle.spaces.specs.declared.sums.Amount.{Amount}
use Rattle.spaces.specs.declared.sums.Amount.TheVariants.{Inside, Rooms, Lengths, Hull, Hatchways, Exempt, Ballast, Deducted, Machinery}
use Rattle.spaces.specs.declared.sums.Totals.{Totals}

-- the standing space with an id
abbrev pub find : ℕ → List Space → Option Space
find id [] = None
find id (x ∷ xs) = cond (eqb x.id id) (Some x) (find id xs)

-- that space, or an empty record where none stands
abbrev pub space_with : Option Space → Space
space_with o = unwrap_or o empty_space

-- the place of the space with an id in the order, from 0; as many as there are spaces where none has the id
abbrev pub place_of : ℕ → List Space → ℕ
place_of id [] = 0
place_of id (x ∷ xs) = cond (eqb x.id id) 0 (suc (place_of id xs))

abbrev pub stands : ℕ → List Space → Bool
stands id xs = is_some (find id xs)

-- a number where a test holds, else 0
abbrev pub only : Bool → ℕ → ℕ
only test n = cond test n 0

-- what a space adds to each sum that the paper takes over the spaces
abbrev pub amount_of : Amount → Space → ℕ
-- the tonnages of the rooms directly inside a space, and how many there are
amount_of (Inside w) x = only (is_room x && eqb x.within w) x.tonnage
amount_of (Rooms w) x = only (is_room x && eqb x.within w) 1
-- "Lengths of all U"
amount_of Lengths x = only (is_under_deck x) x.length.0
-- "T: all U, B and S"; "the sum of all H"
amount_of Hull x = only (is_hull x) x.tonnage
amount_of Hatchways x = only (is_hatchway x) x.tonnage
-- standing 1; standing 2; "D: all with standing 3"; "standing 4, machinery .. Let M be the sum of all such rooms" (T-06 of document 02)
amount_of Exempt x = only (eqb x.standing 1) x.tonnage
amount_of Ballast x = only (eqb x.standing 2) x.tonnage
amount_of Deducted x = only (eqb x.standing 3) x.tonnage
amount_of Machinery x = only (eqb x.standing 4) x.tonnage

abbrev pub sum_by : (Space → ℕ) → List Space → ℕ
sum_by f [] = 0
sum_by f (x ∷ xs) = f x + sum_by f xs

abbrev pub sum_of : Amount → List Space → ℕ
sum_of a xs = sum_by (amount_of a) xs

-- all that a report works with
unfoldable pub totals_of : List Space → Totals
totals_of xs =
    record {
      lengths = sum_of Lengths xs;
      hull = sum_of Hull xs;
      hatchways = sum_of Hatchways xs;
      exempt = sum_of Exempt xs;
      ballast = sum_of Ballast xs;
      deducted = sum_of Deducted xs;
      machinery = sum_of Machinery xs;
    }

-- no sum over 200 places passes this: no tonnage or length has more than 32 bits
abbrev pub most_sum : ℕ
most_sum = 200 * 2 ^ 32

pub record EachAtMost (most : ℕ) (sums : Totals) : Type 0 where
  pub lengths : sums.lengths ≤ most
  pub hull : sums.hull ≤ most
  pub hatchways : sums.hatchways ≤ most
  pub exempt : sums.exempt ≤ most
  pub ballast : sums.ballast ≤ most
  pub deducted : sums.deducted ≤ most
  pub machinery : sums.machinery ≤ most
