-- When the entry of a tank is refused on the spaces that stand (T-01 of document 02): as a room's, and by the U that it names. Everywhere
-- x is the tank's record, a room, and f the distance of its fore end along the U.
use Rattle.std.specs.Prelude.{ℕ, Bool, false, cond, not, ◌&&◌, ◌||◌, List, [], ◌∷◌, ◌++◌, Option, None, Some}
use Rattle.measure.specs.Refusals.{first_of}
use Rattle.measure.specs.Tanks.{passes_end, has_m, measurable}
use Rattle.measure.specs.declared.units.Hundredths.{Hundredths}
use Rattle.spaces.specs.Space.{empty_space, is_under_deck}
use Rattle.spaces.specs.Row.{find, space_with}
use Rattle.spaces.specs.Enclosure.{enclosing}
use Rattle.spaces.specs.declared.space.Space.{Space}
use Rattle.standard.specs.Rules.{misplaced, overfull, tests_of}

-- a space that was looked for, if it is a U; else an empty record
abbrev pub under_deck_in : Option Space → Space
under_deck_in o =
    let z = space_with o in
    cond (is_under_deck z) z empty_space

-- "The tank names its U": the standing U with an id
unfoldable pub under_deck_with : ℕ → List Space → Space
under_deck_with id xs = under_deck_in (find id xs)

-- "6 also if the enclosing space isn't a U"; no more that depends on the U is judged there
abbrev pub in_no_under_deck : Option Space → Bool
in_no_under_deck None = false
in_no_under_deck (Some z) = not (is_under_deck z)

-- "9 also if the tank passes an end of its U"
abbrev pub past_end : Option Space → Space → Hundredths → Bool
past_end o x f =
    let u = under_deck_in o in
    is_under_deck u && passes_end u.length x.length f

-- "in a standing U with m whose ends the tank doesn't pass" 9 is judged "by the tank's tonnage"
abbrev pub measurable_in : Option Space → Space → Hundredths → Bool
measurable_in o x f =
    let u = under_deck_in o in
    measurable u.length u.m x.length f

-- "29, after all the others, if that U has no m"
abbrev pub without_m : Option Space → Bool
without_m o =
    let u = under_deck_in o in
    is_under_deck u && not (has_m u.m)

abbrev pub tank_tests : Hundredths → List Space → Space → Hundredths → List (Bool × ℕ)
tank_tests L xs x f =
    let o = enclosing xs x in
    tests_of xs x
    (misplaced xs x || in_no_under_deck o)
    (past_end o x f || (measurable_in o x f && overfull L xs x))
    ++ ((without_m o, 29) ∷ [])

unfoldable pub tank_number : Hundredths → List Space → Space → Hundredths → ℕ
tank_number L xs x f = first_of (tank_tests L xs x f)
