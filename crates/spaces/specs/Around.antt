-- What is around a space, among others in order of entry: all that an entry's rules ask of them.
use Rattle.std.specs.Prelude.{ℕ, ◌-◌, false, cond, List, [], ◌∷◌, ◌++◌, ltb, length, replicate}
use Rattle.spaces.specs.Space.{is_room}
use Rattle.spaces.specs.Row.{place_of, stands, sum_of}
use Rattle.spaces.specs.Enclosure.{above, all_plain}
use Rattle.spaces.specs.declared.space.Space.{Space}
use Rattle.spaces.specs.declared.sums.Amount.TheVariants.{Inside, Lengths}
use Rattle.spaces.specs.declared.around.Around.{Around}

-- the place of the enclosing space, from 0; as many as there are spaces where there is none
abbrev pub enclosing_place : List Space → Space → ℕ
enclosing_place xs x = cond (is_room x) (place_of x.within xs) (length xs)

-- what a space is added to: the rooms directly inside its enclosing space, which is at the place `home`; where it has none, all U
abbrev pub beside_of : ℕ → List Space → Space → ℕ
beside_of home xs x = cond (ltb home (length xs)) (sum_of (Inside x.within) xs) (sum_of Lengths xs)

unfoldable pub around_of : List Space → Space → Around
around_of xs x =
    record {
      taken = stands x.id xs;
      home = enclosing_place xs x;
      levels = length (above xs x);
      plain = all_plain (above xs x);
      beside = beside_of (enclosing_place xs x) xs x;
    }

-- around each of some spaces in order of entry, among those before it, where the spaces xs stand before them all
abbrev pub around_from : List Space → List Space → List Around
around_from xs [] = []
around_from xs (x ∷ rest) = around_of xs x ∷ around_from (xs ++ (x ∷ [])) rest

-- a blank for each free place
abbrev pub blank_around : Around
blank_around = record { taken = false; home = 0; levels = 0; plain = false; beside = 0 }

unfoldable pub each_around : List Space → List Around
each_around xs = around_from [] xs ++ replicate (200 - length xs) blank_around
