-- Tanks: how many stations are doubled, and what is answered.
use Rattle.std.specs.Prelude.{ℕ, ◌+◌, ◌≡◌, Bool, true, false, cond, List, [], ◌∷◌}
use Rattle.measure.specs.Sections.{layout_of}
use Rattle.measure.specs.Volumes.{tons}
use Rattle.measure.specs.Tanks.{tank_volume, tank_in_range, passes_end, has_m, all_sections}
use Rattle.measure.specs.declared.units.Hundredths.{Hundredths}
use Rattle.measure.specs.declared.offsets.Measured.{Measured}

-- so many of the list are true
abbrev pub how_many : List Bool → ℕ
how_many [] = 0
how_many (b ∷ bs) = cond b 1 0 + how_many bs

-- What a tank is answered by its tests: all measures are in range, the tank passes an end of its U, the U has an m, and no section or
-- breadth is missing or extra; 3 is judged only where neither 9 nor 29 applies. `measured_tank` is such an answer, and no other is.
pub data TankAnswer (ranged passing known complete : Bool) (tons : ℕ) : Measured → Type 0 where
  with_2 : ranged ≡ false → TankAnswer ranged passing known complete tons (record { number = 2; tonnage = 0 })
  with_9 : ranged ≡ true → passing ≡ true → TankAnswer ranged passing known complete tons (record { number = 9; tonnage = 0 })
  with_29 : ranged ≡ true → passing ≡ false → known ≡ false → TankAnswer ranged passing known complete tons (record { number = 29; tonnage = 0 })
  with_3 : ranged ≡ true → passing ≡ false → known ≡ true → complete ≡ false
      → TankAnswer ranged passing known complete tons (record { number = 3; tonnage = 0 })
  with_0 : ranged ≡ true → passing ≡ false → known ≡ true → complete ≡ true
      → TankAnswer ranged passing known complete tons (record { number = 0; tonnage = tons })

abbrev pub AnsweredTank : Hundredths → Hundredths → ℕ → Hundredths → Hundredths → List ℕ → List ℕ → Measured → Type 0
AnsweredTank t u m l f depths breadths =
    let a = layout_of t u l f in
    TankAnswer (tank_in_range l f depths breadths) (passes_end u l f) (has_m m) (all_sections a m depths breadths) (tons (tank_volume a m depths breadths))
