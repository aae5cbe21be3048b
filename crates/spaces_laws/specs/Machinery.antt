-- The engine room deduction of a vessel with screws (T-06 of document 02; 46 CFR 69.121(e)(2)), said of the deduction itself, with nothing
-- worked out. Everywhere m is M, "the total propelling machinery space", in hundredths of a ton as the gross is. "Comparisons are exact": M
-- is so many percent of gross where 100 M is so many times gross.
use Rattle.std.specs.Prelude.{ℕ, ◌*◌, ◌≤◌, ◌<◌, ◌≡◌, true, false, ◌⊎◌}
use Rattle.measure.specs.Rounding.{Nearest}
use Rattle.standard.specs.Machinery.{up_to13, between13_and20, from20}

-- n is "the greater of" a and b: not less than either, and one of the two
pub record Greater (a b n : ℕ) : Type 0 where
  pub not_under_first : a ≤ n
  pub not_under_second : b ≤ n
  pub one_of_them : (n ≡ a) ⊎ (n ≡ b)

-- n is what is deducted for machinery, "to the nearest hundredth". `engine_room_deduction` is, and no other number is (proofs/Machinery).
pub data Deduction (m gross n : ℕ) : Type 0 where
  -- (i) "If the total propelling machinery space is 13 percent or less of the vessel's gross register tonnage, deduct 32/13 times the total
  -- propelling machinery space"
  up_to_13 : 100 * m ≤ 13 * gross → Nearest (32 * m) 13 n → Deduction m gross n
  -- (ii) "If the total propelling machinery space is more than 13 but less than 20 percent of the vessel's gross register tonnage, deduct 32
  -- percent of the vessel's gross register tonnage"
  between_13_and_20 : 13 * gross < 100 * m → 100 * m < 20 * gross → Nearest (32 * gross) 100 n → Deduction m gross n
  -- (iii) "If the total propelling machinery space is 20 percent or more of the vessel's gross register tonnage, deduct either 32 percent of the
  -- vessel's gross register tonnage or 1.75 times the total propelling machinery space, whichever the vessel owner elects"; T-06 takes "the
  -- greater". Where M and gross are both 0, M is 13 percent or less and not of this class: so that it is over 13 percent is said too.
  from_20 : {a b : ℕ} → 13 * gross < 100 * m → 20 * gross ≤ 100 * m → Nearest (32 * gross) 100 a → Nearest (7 * m) 4 b → Greater a b n
      → Deduction m gross n

-- the three classes are disjoint and cover everything: just one of them applies
pub data OneClass (m gross : ℕ) : Type 0 where
  only_first : up_to13 m gross ≡ true → between13_and20 m gross ≡ false → from20 m gross ≡ false → OneClass m gross
  only_second : up_to13 m gross ≡ false → between13_and20 m gross ≡ true → from20 m gross ≡ false → OneClass m gross
  only_third : up_to13 m gross ≡ false → between13_and20 m gross ≡ false → from20 m gross ≡ true → OneClass m gross
