-- When an entry, a withdrawal and a mark are refused on the spaces that stand ("Numbers of refusal", 4 to 11): the tests in the
-- table's order, and the first that applies.
use Rattle.std.specs.Prelude.{ℕ, ◌+◌, Bool, true, false, not, ◌&&◌, ◌||◌, List, [], ◌∷◌, eqb, ltb, leb, length, Option, None, Some}
use Rattle.measure.specs.Refusals.{first_of}
use Rattle.measure.specs.declared.units.Hundredths.{Hundredths}
use Rattle.spaces.specs.Space.{is_under_deck, is_hatchway, is_room, is_plain}
use Rattle.spaces.specs.Row.{find, place_of, space_with, stands, sum_of}
use Rattle.spaces.specs.Enclosure.{enclosing, above, level, visited, all_plain, below}
use Rattle.spaces.specs.declared.space.Space.{Space}
use Rattle.spaces.specs.declared.sums.Amount.TheVariants.{Inside, Rooms, Lengths}
use Rattle.standard.specs.Standings.{may_take}
use Rattle.standard.specs.declared.rules.EntryRuling.{EntryRuling}
use Rattle.standard.specs.declared.rules.Ruling.{Ruling}

-- 4: "new id outside its range or already standing" ("Id 1 to 9,999")
abbrev pub id_refused : List Space → Space → Bool
id_refused xs x = ltb x.id 1 || ltb 9999 x.id || stands x.id xs

-- 5: a room's "enclosing id isn't standing"
abbrev pub unhoused : List Space → Space → Bool
unhoused xs x = is_room x && not (stands x.within xs)

-- 6: "kind can't take this standing, or the enclosing space is a hatchway"
abbrev pub in_hatchway : Option Space → Bool
in_hatchway None = false
in_hatchway (Some z) = is_hatchway z

abbrev pub misplaced : List Space → Space → Bool
misplaced xs x = not (may_take x.kind x.standing) || in_hatchway (enclosing xs x)

-- 7: "level would pass 8"
abbrev pub too_deep : List Space → Space → Bool
too_deep xs x = ltb 8 (level xs x)

-- 8: "not plain, and a space above .. isn't plain"; nothing is below a new space
abbrev pub off_twice : List Space → Space → Bool
off_twice xs x = not (is_plain x) && not (all_plain (above xs x))

-- 9: "rooms would pass the enclosing tonnage, or U lengths the tonnage length" L
abbrev pub passes_enclosing : List Space → Space → Option Space → Bool
passes_enclosing xs x None = false
passes_enclosing xs x (Some z) = ltb z.tonnage (sum_of (Inside x.within) xs + x.tonnage)

abbrev pub overfull : Hundredths → List Space → Space → Bool
overfull L xs x = passes_enclosing xs x (enclosing xs x) || (is_under_deck x && ltb L.0 (sum_of Lengths xs + x.length.0))

-- 10: "entry where 200 spaces stand"
abbrev pub no_place : List Space → Bool
no_place xs = leb 200 (length xs)

-- the tests of whatever is entered, in the table's order; of 6 and 9 there is more to judge of a tank
abbrev pub tests_of : List Space → Space → (misplaced overfull : Bool) → List (Bool × ℕ)
tests_of xs x misplaced overfull =
    (id_refused xs x, 4)
    ∷ (unhoused xs x, 5)
    ∷ (misplaced, 6)
    ∷ (too_deep xs x, 7)
    ∷ (off_twice xs x, 8)
    ∷ (overfull, 9)
    ∷ (no_place xs, 10)
    ∷ []

abbrev pub entry_tests : Hundredths → List Space → Space → List (Bool × ℕ)
entry_tests L xs x = tests_of xs x (misplaced xs x) (overfull L xs x)

unfoldable pub entry_number : Hundredths → List Space → Space → ℕ
entry_number L xs x = first_of (entry_tests L xs x)

-- with its number the enclosing spaces visited: "accepted or refused" (T-07 of document 02)
abbrev pub entry_ruling : (number : ℕ) → List Space → Space → EntryRuling
entry_ruling number xs x = record { number = number; visited = visited xs x }

-- 11: "withdrawal of a space that encloses a room"
abbrev pub encloses_room : List Space → ℕ → Bool
encloses_room xs id = ltb 0 (sum_of (Rooms id) xs)

abbrev pub withdraw_tests : List Space → ℕ → List (Bool × ℕ)
withdraw_tests xs id = (not (stands id xs), 5) ∷ (encloses_room xs id, 11) ∷ []

unfoldable pub withdraw_number : List Space → ℕ → ℕ
withdraw_number xs id = first_of (withdraw_tests xs id)

-- its number, with the place of the space with the id and that space
unfoldable pub withdraw_ruling : List Space → ℕ → Ruling
withdraw_ruling xs id = record { number = withdraw_number xs id; place = place_of id xs; space = space_with (find id xs) }

-- 6 of a mark: the kind of the space with the id can't take the standing
abbrev pub cannot_take : Option Space → ℕ → Bool
cannot_take None standing = false
cannot_take (Some z) standing = not (may_take z.kind standing)

-- 8 of a mark: "not plain, and a space above or below isn't plain"
abbrev pub plain_above : List Space → Option Space → Bool
plain_above xs None = true
plain_above xs (Some z) = all_plain (above xs z)

abbrev pub marked_twice : List Space → ℕ → ℕ → Bool
marked_twice xs id standing = not (eqb standing 0) && not (plain_above xs (find id xs) && all_plain (below id xs))

abbrev pub mark_tests : List Space → ℕ → ℕ → List (Bool × ℕ)
mark_tests xs id standing =
    (not (stands id xs), 5) ∷ (cannot_take (find id xs) standing, 6) ∷ (marked_twice xs id standing, 8) ∷ []

unfoldable pub mark_number : List Space → ℕ → ℕ → ℕ
mark_number xs id standing = first_of (mark_tests xs id standing)

unfoldable pub mark_ruling : List Space → ℕ → ℕ → Ruling
mark_ruling xs id standing = record { number = mark_number xs id standing; place = place_of id xs; space = space_with (find id xs) }
