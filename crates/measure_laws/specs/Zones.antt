-- Zones of influence: what it is that they fill the length, and in which of them a point lies. n and u are the parts and the length of the
-- U, x is a point along it.
use Rattle.std.specs.Prelude.{ℕ, ◌+◌, ◌*◌, ◌≤◌, ◌<◌, ◌≡◌, Bool, true, ◌⊎◌}
use Rattle.measure.specs.Zones.{zone_start, zone_end, Point, meets, end_at, InZone}
use Rattle.measure.specs.declared.units.Hundredths.{Hundredths}

-- "the zones fill the length with no gap", in thirds of an interval, of which the length has 3 n: there are n + 1, and the station of zone
-- k + 1 is 3 k from the fore end
pub record FillTheLength (n : ℕ) : Type 0 where
  pub from_the_fore_end : zone_start n 1 ≡ 0
  pub each_where_one_ends : (k : ℕ) → zone_start n (k + 1) ≡ zone_end n k
  pub to_the_aft_end : zone_end n (n + 1) ≡ 3 * n
  pub none_empty : (k : ℕ) → zone_start n (k + 1) < zone_end n (k + 1)
  pub with_its_station : (k : ℕ) → k ≤ n → InZone n (k + 1) (3 * k) 1

-- x is a point of the U, from its fore end to its aft end
pub record OfU (u : Hundredths) (x : Point) : Type 0 where
  pub has_length : 0 < u.0
  pub a_fraction : 0 < x.under
  pub not_past : x.over ≤ u.0 * x.under

-- it lies in the zone of station k: it is over (3 n) / (u under) thirds of an interval along
abbrev pub LiesIn : ℕ → Hundredths → Point → ℕ → Type 0
LiesIn n u x k = InZone n k (x.over * (3 * n)) (u.0 * x.under)

-- it "equals, as fractions, the end of a zone that isn't the last"
pub record AtInnerEnd (n : ℕ) (u : Hundredths) (x : Point) : Type 0 where
  pub number : ℕ
  pub least : 1 ≤ number
  pub not_last : number ≤ n
  pub equals : meets x (end_at n u number) ≡ true

-- of the zones it lies in k; where it is between two, in the next too; and in no other. `zone_of` and `between` say so of every point of the
-- U, and no others do.
pub record Zoned (n : ℕ) (u : Hundredths) (x : Point) (k : ℕ) (two : Bool) : Type 0 where
  pub is_zone : (1 ≤ k) × (k ≤ n + 1)
  pub in_it : LiesIn n u x k
  pub in_the_next : two ≡ true → (k + 1 ≤ n + 1) × LiesIn n u x (k + 1)
  pub in_no_other : (j : ℕ) → 1 ≤ j → j ≤ n + 1 → LiesIn n u x j → (j ≡ k) ⊎ ((j ≡ k + 1) × (two ≡ true))
