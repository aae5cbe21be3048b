-- What an accepted entry leaves on a sheet and passes on, and how gross and net follow from the tonnages.
use Rattle.std.specs.Prelude.{ℕ, ◌+◌, ◌*◌, ◌≡◌, cond, List, [], ◌∷◌, ◌++◌}
use Rattle.measure.specs.Rounding.{Nearest}
use Rattle.measure.specs.Parts.{under_deck_parts}
use Rattle.measure.specs.Thirds.{third_of_length}
use Rattle.measure.specs.Multipliers.{weighted_from}
use Rattle.measure.specs.Roundings.{no_roundings, measured_offsets}
use Rattle.measure.specs.Ends.{section_areas, ends_of, FirstAndLast}
use Rattle.spaces.specs.Row.{sum_of}
use Rattle.standard.specs.Gross.{all_exempt}
use Rattle.spaces.specs.declared.space.Space.{Space}
use Rattle.spaces.specs.declared.sums.Amount.TheVariants.{Deducted, Machinery}
use Rattle.spaces_laws.specs.Machinery.{Deduction}
use Rattle.spaces_laws.specs.Gross.{GrossLess}
use Rattle.spaces_laws.specs.Tanks.{AcceptedTank}
use Rattle.sheet.specs.Sheet.{standing}
use Rattle.sheet.specs.Ends.{is_pointed}
use Rattle.sheet.specs.Calls.{space_of, measured_for, entered, entering}
use Rattle.sheet.specs.Tanks.{tank_measured, tank_in, tank_entered}
use Rattle.sheet.specs.declared.sheet.Sheet.{Sheet}
use Rattle.sheet.specs.declared.calls.Entry.{Entry}
use Rattle.sheet.specs.declared.tanks.Tank.{Tank}

-- an accepted entry puts the space with that tonnage last, and leaves the others as they are
pub record EnteredLast (s : Sheet) (e : Entry) (heights breadths : List ℕ) : Type 0 where
  pub offsets_accepted : (measured_for s e heights breadths).number ≡ 0
  pub stands_last : standing (entered s e heights breadths).sheet ≡ standing s ++ (space_of s.length e heights breadths ∷ [])
  pub with_its_tonnage : (space_of s.length e heights breadths).tonnage ≡ (measured_for s e heights breadths).tonnage

-- T-04: entering makes that change, and with it passes on the roundings of an accepted space; none where it is refused
pub record PassesOn (s : Sheet) (e : Entry) (heights breadths : List ℕ) : Type 0 where
  pub same_number : (entering s e heights breadths).number ≡ (entered s e heights breadths).number
  pub same_sheet : (entering s e heights breadths).sheet ≡ (entered s e heights breadths).sheet
  pub accepted : (entered s e heights breadths).number ≡ 0
      → (entering s e heights breadths).roundings ≡ (measured_offsets e.kind s.length e.length heights breadths).roundings
  pub refused : ((entered s e heights breadths).number ≡ 0 → ⊥) → (entering s e heights breadths).roundings ≡ no_roundings

-- what a section at an end adds to a volume: nothing where the end is said to be pointed
abbrev pub unless_pointed : (end area : ℕ) → ℕ
unless_pointed end area = cond (is_pointed end) 0 area

-- of an accepted U: "a pointed end must have area 0", and "its tonnage is that of its other sections"
pub record PointedEnds (s : Sheet) (e : Entry) (depths breadths : List ℕ) : Type 0 where
  pub none_fore : e.fore_end ≡ 3 → (ends_of depths breadths).fore ≡ 0
  pub none_aft : e.aft_end ≡ 3 → (ends_of depths breadths).aft ≡ 0
  -- its sections are those at its ends and those between
  pub sections : FirstAndLast (section_areas depths breadths) (ends_of depths breadths)
  pub other_sections : let a = ends_of depths breadths in let n = under_deck_parts s.length e.length in
      Nearest
      ((unless_pointed e.fore_end a.fore + weighted_from n 2 sections.between + unless_pointed e.aft_end a.aft) * (third_of_length e.length n).0)
      (100 * 100 * 1000)
      (measured_for s e depths breadths).tonnage

-- an accepted tank is put last in the same way: "The result is a room directly inside that U", which has m and whose ends it doesn't pass
pub record TankEnteredLast (s : Sheet) (k : Tank) (depths breadths : List ℕ) : Type 0 where
  pub inside_its_U : AcceptedTank s.length (standing s) (tank_in s.length (standing s) k depths breadths) k.fore
  pub sections_accepted : (tank_measured s.length (standing s) k depths breadths).number ≡ 0
  pub stands_last : standing (tank_entered s k depths breadths).sheet ≡ standing s ++ (tank_in s.length (standing s) k depths breadths ∷ [])
  pub with_its_tonnage : (tank_in s.length (standing s) k depths breadths).tonnage ≡ (tank_measured s.length (standing s) k depths breadths).tonnage

-- "gross and net follow from them": from the recorded tonnages of the spaces xs, with nothing cut off but the excess
pub record GrossAndNet (xs : List Space) (gross net : ℕ) : Type 0 where
  -- "Let G = T − E. .. Gross = G + excess", part by part
  pub gross_is : GrossLess (all_exempt xs) xs gross
  -- the deduction that 69.121(e)(2) gives for M (T-06 of document 02)
  pub deduction : ℕ
  pub deduction_is : Deduction (sum_of Machinery xs) gross deduction
  -- "net = gross − D"; "Net is gross less D less this deduction"
  pub net_is : net + (sum_of Deducted xs + deduction) ≡ gross
