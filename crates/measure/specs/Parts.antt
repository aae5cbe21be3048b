-- How many parts a length or a depth is divided into ("Parts of a length"; "U"). Lengths and depths are in hundredths of a foot.
use Rattle.std.specs.Prelude.{ℕ, ◌*◌, ◌≤◌, ◌<◌, ◌≡◌, List, [], ◌∷◌, cond, leb, ltb, eqb}
use Rattle.measure.specs.Rounding.{apart}
use Rattle.measure.specs.declared.units.Hundredths.{Hundredths}
use Rattle.measure.specs.declared.kinds.Kind.{Kind}
use Rattle.measure.specs.declared.kinds.Kind.TheVariants.{UnderDeck, BetweenDeck, Superstructure, Hatchway, Room, NoKind}

-- "The table of 69.109(g): up to 50 ft 6 parts; over 50 to 100, 8; to 150, 10; to 200, 12; to 250, 14; over 250, 16."
unfoldable pub table_parts : Hundredths → ℕ
table_parts l =
    cond (leb l.0 5000) 6
    (cond (leb l.0 10000) 8
    (cond (leb l.0 15000) 10
    (cond (leb l.0 20000) 12
    (cond (leb l.0 25000) 14
    16))))

-- The same, a row at a time: the length l has n parts. `table_parts` is such a number, and no other is (measure_laws, Classes).
pub data ByTable (l : Hundredths) : ℕ → Type 0 where
  up_to_50 : l.0 ≤ 5000 → ByTable l 6
  over_50_to_100 : 5000 < l.0 → l.0 ≤ 10000 → ByTable l 8
  over_100_to_150 : 10000 < l.0 → l.0 ≤ 15000 → ByTable l 10
  over_150_to_200 : 15000 < l.0 → l.0 ≤ 20000 → ByTable l 12
  over_200_to_250 : 20000 < l.0 → l.0 ≤ 25000 → ByTable l 14
  over_250 : 25000 < l.0 → ByTable l 16

-- "a part made by a step: 20 ft or under, two parts; over 20 and under 40, four; 40 or over, the table" (69.109(m)(1))
unfoldable pub step_parts : Hundredths → ℕ
step_parts l = cond (leb l.0 2000) 2 (cond (ltb l.0 4000) 4 (table_parts l))

-- the same, a class at a time
pub data ByStep (l : Hundredths) : ℕ → Type 0 where
  of_20_or_under : l.0 ≤ 2000 → ByStep l 2
  over_20_under_40 : 2000 < l.0 → l.0 < 4000 → ByStep l 4
  of_40_or_over : {n : ℕ} → 4000 ≤ l.0 → ByTable l n → ByStep l n

-- "A U whose length is the tonnage length uses it [the table]. Any other U is a part made by a step."
unfoldable pub under_deck_parts : Hundredths → Hundredths → ℕ
under_deck_parts t l = cond (eqb l.0 t.0) (table_parts l) (step_parts l)

-- "The depth at the middle station fixes m for all stations: 4 if 16 ft or less, else 6." (69.109(h)(4)(i))
unfoldable pub depth_parts : Hundredths → ℕ
depth_parts middle = cond (leb middle.0 1600) 4 6

-- the even numbers from 2 to 16, which every number of parts is
pub data EvenParts : ℕ → Type 0 where
  p2 : EvenParts 2
  p4 : EvenParts 4
  p6 : EvenParts 6
  p8 : EvenParts 8
  p10 : EvenParts 10
  p12 : EvenParts 12
  p14 : EvenParts 14
  p16 : EvenParts 16

-- the interval l / k is this far from the interval t / n, in parts of 1 / (k n)
unfoldable pub distance : Hundredths → ℕ → Hundredths → ℕ → ℕ
distance t n l k = apart (l.0 * n) (t.0 * k)

-- of two numbers of parts the one whose interval of l is nearer to t / n as exact fractions, the second on a tie:
-- distance k / (k n) ≤ distance b / (b n), without the divisors
unfoldable pub nearer : Hundredths → ℕ → Hundredths → ℕ → ℕ → ℕ
nearer t n l b k = cond (leb (distance t n l k * b) (distance t n l b * k)) k b

-- of a list of numbers of parts the nearest, the later on a tie: of one that one, of more the nearer of the first and the nearest of the
-- later ones (of none, 0)
abbrev pub nearest_of : Hundredths → ℕ → Hundredths → List ℕ → ℕ
nearest_of t n l [] = 0
nearest_of t n l (k ∷ []) = k
nearest_of t n l (k ∷ j ∷ later) = nearer t n l k (nearest_of t n l (j ∷ later))

-- from 2 to 16, rising: of two of them the later is the greater
abbrev pub even_numbers : List ℕ
even_numbers = 2 ∷ 4 ∷ 6 ∷ 8 ∷ 10 ∷ 12 ∷ 14 ∷ 16 ∷ []

-- "the even number from 2 to 16 whose interval is nearest, as exact fractions, to" t / n; "on a tie, the greater number"
unfoldable pub nearest_parts : Hundredths → ℕ → Hundredths → ℕ
nearest_parts t n l = nearest_of t n l even_numbers

-- The same said of every even number from 2 to 16: p is one of them, none is nearer, and none as near is greater.
-- `nearest_parts` is such a number, and no other is (measure_laws, Parts).
pub record NearestEven (t : Hundredths) (n : ℕ) (l : Hundredths) (p : ℕ) : Type 0 where
  pub even : EvenParts p
  pub nearest_of : (k : ℕ) → EvenParts k → distance t n l p * k ≤ distance t n l k * p
  pub greater_of : (k : ℕ) → EvenParts k → distance t n l p * k ≡ distance t n l k * p → k ≤ p

-- "An S takes the even number from 2 to 16 whose interval is nearest .. to the tonnage length divided by its number" (69.113(b)(2))
unfoldable pub superstructure_parts : Hundredths → Hundredths → ℕ
superstructure_parts t l = nearest_parts t (table_parts t) l

-- the parts of a space's length, where t is the tonnage length: "A B takes the number that the table gives the tonnage length."
-- An H or an R isn't divided.
abbrev pub parts_of : Kind → Hundredths → Hundredths → ℕ
parts_of UnderDeck t l = under_deck_parts t l
parts_of BetweenDeck t l = table_parts t
parts_of Superstructure t l = superstructure_parts t l
parts_of Hatchway t l = 0
parts_of Room t l = 0
parts_of NoKind t l = 0
