-- The deduction for machinery in each of its three classes.
use Rattle.std.proofs.Common.{ℕ, ◌*◌, ◌≤◌, ◌<◌, max, ◌≡◌, le-leb, lt-ltb, le-ltb}
use borrow.Author.Tests.{lt-leb}
use Rattle.standard.specs.Machinery.{thirty_two_thirteenths, thirty_two_percent, seven_quarters, engine_room_deduction}

pub in_first_class : (m gross : ℕ) → 100 * m ≤ 13 * gross → engine_room_deduction m gross ≡ thirty_two_thirteenths m
unfolding engine_room_deduction
in_first_class m gross h = rw (le-leb (100 * m) (13 * gross) h)

pub in_second_class : (m gross : ℕ) → 13 * gross < 100 * m → 100 * m < 20 * gross → engine_room_deduction m gross ≡ thirty_two_percent gross
unfolding engine_room_deduction
in_second_class m gross l h = rw (lt-leb (100 * m) (13 * gross) l, lt-ltb (13 * gross) (100 * m) l, lt-ltb (100 * m) (20 * gross) h)

pub in_third_class : (m gross : ℕ) → 13 * gross < 100 * m → 20 * gross ≤ 100 * m
    → engine_room_deduction m gross ≡ max (thirty_two_percent gross) (seven_quarters m)
unfolding engine_room_deduction
in_third_class m gross l h = rw (lt-leb (100 * m) (13 * gross) l, lt-ltb (13 * gross) (100 * m) l, le-ltb (100 * m) (20 * gross) h)

pub ruleset classes = (in_first_class, in_second_class, in_third_class)
