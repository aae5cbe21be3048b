-- The entry of a tank (T-01 of document 02): "Add an under-deck tank entry by 69.117(g)(3)".
use Rattle.std.specs.Prelude.{ℕ, Bool, not, ◌&&◌, List, ◌∷◌}
use Rattle.measure.specs.Refusals.{first_of}
use Rattle.measure.specs.Sections.{layout_of}
use Rattle.measure.specs.Tanks.{tank_in_range, measurable, all_sections, measured_tank}
use Rattle.measure.specs.declared.units.Hundredths.{Hundredths}
use Rattle.measure.specs.declared.offsets.Measured.{Measured}
use Rattle.spaces.specs.declared.space.Space.{Space}
use Rattle.standard.specs.Tanks.{under_deck_with, tank_tests}
use Rattle.sheet.specs.Sheet.{standing, usable}
use Rattle.sheet.specs.Calls.{answered, changed, out_of_range, visited_for}
use Rattle.sheet.specs.declared.changes.Change.TheVariants.{Entered}
use Rattle.sheet.specs.declared.sheet.Sheet.{Sheet}
use Rattle.sheet.specs.declared.tanks.Tank.{Tank}
use Rattle.sheet.specs.declared.tanks.TankEntering.{TankEntering}
use Rattle.sheet.specs.declared.calls.Changed.{Changed}

-- the record of a tank with its tonnage: "The result is a room directly inside that U."
unfoldable pub tank_of : Tank → (tonnage : ℕ) → Space
tank_of k tonnage =
    record {
      id = k.id;
      within = k.within;
      kind = 5;
      standing = k.standing;
      m = 0;
      deck = k.deck;
      tonnage = tonnage;
      length = k.length;
    }

-- a tank measured in the U that it names, where L is the tonnage length and the spaces xs stand
abbrev pub tank_measured : Hundredths → List Space → Tank → List ℕ → List ℕ → Measured
tank_measured L xs k depths breadths =
    let u = under_deck_with k.within xs in
    measured_tank L u.length u.m k.length k.fore depths breadths

-- and the space that it becomes
abbrev pub tank_in : Hundredths → List Space → Tank → List ℕ → List ℕ → Space
tank_in L xs k depths breadths = tank_of k (tank_measured L xs k depths breadths).tonnage

-- 3 where it applies: "a section or breadth is missing or extra", "judged only in a standing U with m whose ends the tank doesn't pass"
abbrev pub sections_wrong : Hundredths → List Space → Tank → List ℕ → List ℕ → Bool
sections_wrong L xs k depths breadths =
    let u = under_deck_with k.within xs in
    measurable u.length u.m k.length k.fore
    && not (all_sections (layout_of L u.length k.length k.fore) u.m depths breadths)

abbrev pub enter_tank_number : Sheet → Tank → List ℕ → List ℕ → ℕ
enter_tank_number s k depths breadths =
    let L = s.length in
    let xs = standing s in
    first_of
    -- 1; 2: standing or deck outside its range, then a measure; 3; then 4 to 10, and 29
    ((not (usable s), 1)
    ∷ (out_of_range k.standing k.deck, 2)
    ∷ (not (tank_in_range k.length k.fore depths breadths), 2)
    ∷ (sections_wrong L xs k depths breadths, 3)
    ∷ tank_tests L xs (tank_in L xs k depths breadths) k.fore)

unfoldable pub tank_entered : Sheet → Tank → List ℕ → List ℕ → Changed
tank_entered s k depths breadths =
    answered (enter_tank_number s k depths breadths) s (changed (Entered (tank_in s.length (standing s) k depths breadths)) s)

-- with the change the enclosing spaces visited, whatever the number: a tank is a room (T-07)
unfoldable pub tank_entering : Sheet → Tank → List ℕ → List ℕ → TankEntering
tank_entering s k depths breadths =
    let change = tank_entered s k depths breadths in
    record {
      number = change.number;
      visited = visited_for s (tank_in s.length (standing s) k depths breadths);
      sheet = change.sheet;
    }
