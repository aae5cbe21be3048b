-- What the functions inside the crate ask of their callers. No promise of a public function cites anything here.
use Rattle.std.specs.Prelude.{ℕ, ◌+◌, ◌*◌, ◌≤◌, ◌<◌, ◌≡◌, true, List, [], ◌∷◌, length, Result, Ok, Err}
use Rattle.measure.specs.Parts.{EvenParts}
use Rattle.measure.specs.Sections.{layout_of, sections}
use Rattle.measure.specs.Offsets.{in_range, counted}
use Rattle.measure.specs.Tanks.{lay_out_number}
use Rattle.measure.specs.declared.units.Hundredths.{Hundredths}
use Rattle.measure.specs.declared.kinds.Kind.{Kind}
use Rattle.measure.specs.declared.offsets.Offsets.{Offsets}
use Rattle.measure.specs.declared.refusals.Refusal.{Refusal}
use Rattle.measure.specs.declared.sections.Layout.{Layout}

-- the greatest tonnage that a record holds, "which no entry from offsets in range can pass" ("The file")
abbrev pub most_tons : ℕ
most_tons = 100000000

-- no value of the list is over b
pub data AllAtMost (b : ℕ) : List ℕ → Type 0 where
  none : AllAtMost b []
  more : {x : ℕ} {xs : List ℕ} → x ≤ b → AllAtMost b xs → AllAtMost b (x ∷ xs)

-- a station of a depth in m parts
pub record StationHanded (m : ℕ) (d : Hundredths) (breadths : List ℕ) : Type 0 where
  pub parts : EvenParts m
  pub deep : d.0 ≤ 20000
  pub count : length breadths ≡ m + 1
  pub broad : AllAtMost 30000 breadths

-- sections in m parts of depth: a U's stations, at most 17, or a tank's sections, at most two for each of so many stations
pub record SectionsHanded (m : ℕ) (depths breadths : List ℕ) : Type 0 where
  pub depth_parts : EvenParts m
  pub few : length depths ≤ 34
  pub count : length breadths ≡ length depths * (m + 1)
  pub deep : AllAtMost 20000 depths
  pub broad : AllAtMost 30000 breadths

-- the greatest area of a section: 30,000 by 20,000, and what the rounding of the third interval adds
abbrev pub most_area : ℕ
most_area = 600720000

-- the areas at the stations of a length in n parts
pub record AreasHanded (l : Hundredths) (n : ℕ) (areas : List ℕ) : Type 0 where
  pub parts : EvenParts n
  pub long : l.0 ≤ 150000
  pub stations : length areas ≡ n + 1
  pub broad : AllAtMost most_area areas

-- a U in n parts of length and m of depth
pub record UnderDeckHanded (l : Hundredths) (n m : ℕ) (depths breadths : List ℕ) : Type 0 where
  pub parts : EvenParts n
  pub long : l.0 ≤ 150000
  pub stations : length depths ≡ n + 1
  pub sections : SectionsHanded m depths breadths

-- a layout whose parts are as many as parts can be
pub record Laid (a : Layout) : Type 0 where
  pub of_u : a.n ≤ 16
  pub of_tank : EvenParts a.p

-- how a tank lies along its U of length u, or the number, not 0, with which it is refused
abbrev pub LaidOrRefused : Hundredths → Hundredths → Hundredths → Hundredths → Result Layout Refusal → Type 0
LaidOrRefused t u l f (Ok a) = (lay_out_number t u l f ≡ 0) × (a ≡ layout_of t u l f) × Laid a
LaidOrRefused t u l f (Err refusal) = (lay_out_number t u l f ≡ refusal.0) × (0 < refusal.0)

-- a tank with as many sections as are asked
pub record TankHanded (a : Layout) (m : ℕ) (depths breadths : List ℕ) : Type 0 where
  pub long : a.l.0 ≤ 150000
  pub asked : length depths ≡ sections a
  pub given : SectionsHanded m depths breadths

-- a B or an S in n parts
pub record LevelHanded (l : Hundredths) (n : ℕ) (heights breadths : List ℕ) : Type 0 where
  pub parts : EvenParts n
  pub long : l.0 ≤ 150000
  pub stations : length heights ≡ n + 1
  pub count : length breadths ≡ n + 1
  pub high : AllAtMost 20000 heights
  pub broad : AllAtMost 30000 breadths

-- an H or an R
pub record BoxHanded (l : Hundredths) (heights breadths : List ℕ) : Type 0 where
  pub long : l.0 ≤ 150000
  pub stations : 0 < length heights
  pub count : 0 < length breadths
  pub high : AllAtMost 20000 heights
  pub broad : AllAtMost 30000 breadths

-- of offsets what a definition says of their parts
abbrev pub of_offsets : {A : Type 0} → (Kind → Hundredths → Hundredths → List ℕ → List ℕ → A) → Offsets → A
of_offsets f o = f o.kind o.tonnage_length o.length o.heights.now o.breadths.now

-- offsets of which neither 2 nor 3 applies
pub record Taken (k : Kind) (t l : Hundredths) (hs bs : List ℕ) : Type 0 where
  pub ranged : in_range k t l hs bs ≡ true
  pub numbered : counted k t l hs bs ≡ true
