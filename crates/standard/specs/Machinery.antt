-- The engine room deduction of a vessel with screws (T-06 of document 02; 46 CFR 69.121(e)(2)), in hundredths of a ton. Everywhere m is
-- M, "the sum of all such rooms". Comparisons are exact.
use Rattle.std.specs.Prelude.{ℕ, ◌*◌, max, Bool, cond, ◌&&◌, leb, ltb}
use Rattle.measure.specs.Rounding.{nearest}

-- "If M is 13% of gross or less"
abbrev pub up_to13 : (m gross : ℕ) → Bool
up_to13 m gross = leb (100 * m) (13 * gross)

-- "over 13% and under 20%"
abbrev pub between13_and20 : (m gross : ℕ) → Bool
between13_and20 m gross = ltb (13 * gross) (100 * m) && ltb (100 * m) (20 * gross)

-- "at 20% or more", and over 13%: where M and gross are both 0, the first class alone applies
abbrev pub from20 : (m gross : ℕ) → Bool
from20 m gross = ltb (13 * gross) (100 * m) && leb (20 * gross) (100 * m)

-- "32/13 of M", "32% of gross", "1.75 times M", which is 7/4 of it; "each to the nearest hundredth"
abbrev pub thirty_two_thirteenths : (m : ℕ) → ℕ
thirty_two_thirteenths m = nearest (32 * m) 13

abbrev pub thirty_two_percent : (gross : ℕ) → ℕ
thirty_two_percent gross = nearest (32 * gross) 100

abbrev pub seven_quarters : (m : ℕ) → ℕ
seven_quarters m = nearest (7 * m) 4

-- "If M is 13% of gross or less the deduction is 32/13 of M; over 13% and under 20%, 32% of gross; at 20% or more, the greater of 32% of
-- gross and 1.75 times M". The three classes are disjoint, and there is no other (spaces_laws, Machinery).
unfoldable pub engine_room_deduction : (m gross : ℕ) → ℕ
engine_room_deduction m gross =
    cond (up_to13 m gross) (thirty_two_thirteenths m)
    (cond (between13_and20 m gross) (thirty_two_percent gross)
    (max (thirty_two_percent gross) (seven_quarters m)))
