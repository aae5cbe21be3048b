-- What holds of an accepted entry, withdrawal and mark: each refusal's opposite as a fact ("Numbers of refusal", 4 to 11).
use Rattle.std.specs.Prelude.{ℕ, ◌+◌, ◌≤◌, ◌<◌, ◌≡◌, true, false, List, eqb, length, None, Some}
use Rattle.measure.specs.declared.units.Hundredths.{Hundredths}
use Rattle.spaces.specs.Space.{is_under_deck, is_hatchway, is_room, is_plain}
use Rattle.standard.specs.Standings.{may_take}
use Rattle.spaces.specs.Row.{find, sum_of}
use Rattle.spaces.specs.Enclosure.{above, level, all_plain, below}
use Rattle.spaces.specs.declared.space.Space.{Space}
use Rattle.spaces.specs.declared.sums.Amount.TheVariants.{Inside, Lengths}
use Rattle.spaces_laws.specs.Above.{◌∈◌}

-- a room's enclosing space: it stands, and is no hatchway
pub record Enclosed (xs : List Space) (x : Space) : Type 0 where
  pub home : Space
  pub home_stands : find x.within xs ≡ Some home
  pub no_hatchway : is_hatchway home ≡ false

-- what the numbers 4 to 10 leave of an entry
pub record Accepted (L : Hundredths) (xs : List Space) (x : Space) : Type 0 where
  pub id_at_least : 1 ≤ x.id
  pub id_at_most : x.id ≤ 9999
  pub id_free : find x.id xs ≡ None
  pub enclosed : is_room x ≡ true → Enclosed xs x
  pub may_take : may_take x.kind x.standing ≡ true
  pub level_at_most : level xs x ≤ 8
  pub plain_above : is_plain x ≡ false → all_plain (above xs x) ≡ true
  pub rooms_fit : (r : is_room x ≡ true) → sum_of (Inside x.within) xs + x.tonnage ≤ (enclosed r).home.tonnage
  pub lengths_fit : is_under_deck x ≡ true → sum_of Lengths xs + x.length.0 ≤ L.0
  pub place_left : length xs < 200

-- a space is no room directly inside the one with an id
abbrev pub Outside : ℕ → Space → Type 0
Outside id y = is_room y ≡ true → y.within ≡ id → ⊥

-- what the numbers 5 and 11 leave of a withdrawal
pub record Withdrawable (xs : List Space) (id : ℕ) : Type 0 where
  pub it : Space
  pub it_stands : find id xs ≡ Some it
  pub no_room_inside : (y : Space) → y ∈ xs → Outside id y

-- what the numbers 5, 6 and 8 leave of a mark
pub record Markable (xs : List Space) (id standing : ℕ) : Type 0 where
  pub it : Space
  pub it_stands : find id xs ≡ Some it
  pub may_take : may_take it.kind standing ≡ true
  pub plain_above : eqb standing 0 ≡ false → all_plain (above xs it) ≡ true
  pub plain_below : eqb standing 0 ≡ false → all_plain (below id xs) ≡ true
