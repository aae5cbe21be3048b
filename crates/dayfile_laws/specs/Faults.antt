-- 17 as a statement on the records: "with the position, from 1, of the first such record". dayfile/specs/Reading says what a faulty
-- record is.
use Rattle.std.specs.Prelude.{ℕ, ◌-◌, ◌<◌, ◌≤◌, ◌≡◌, Bool, true, false, List, [], ◌↔◌, length, take, get_or}
use Rattle.measure.specs.declared.units.Hundredths.{Hundredths}
use Rattle.dayfile.specs.Record.{spaces_of}
use Rattle.dayfile.specs.Reading.{faulty}
use Rattle.dayfile.specs.declared.forms.Form.{Form}

-- the record at a position, from 1, is faulty after the spaces of those before it, where f is the form and L the tonnage length
abbrev pub faulty_at : Form → Hundredths → List (List ℕ) → ℕ → Bool
faulty_at f L records position = faulty f L (spaces_of (take (position - 1) records)) (get_or records (position - 1) [])

-- the first faulty record stands at this position
pub record FirstFault (f : Form) (L : Hundredths) (records : List (List ℕ)) (position : ℕ) : Type 0 where
  pub at_least_1 : 1 ≤ position
  pub at_most_all : position ≤ length records
  pub faulty_there : faulty_at f L records position ≡ true
  pub none_before : (i : ℕ) → 1 ≤ i → i < position → faulty_at f L records i ≡ false

-- no record is faulty after those before it
abbrev pub NoFault : Form → Hundredths → List (List ℕ) → Type 0
NoFault f L records = (i : ℕ) → 1 ≤ i → i ≤ length records → faulty_at f L records i ≡ false

-- a position is that of the first faulty record, and 0 where there is none
pub record FaultExactly (f : Form) (L : Hundredths) (records : List (List ℕ)) (position : ℕ) : Type 0 where
  pub first_exactly : (p : ℕ) → 0 < p → (position ≡ p) ↔ FirstFault f L records p
  pub none_exactly : (position ≡ 0) ↔ NoFault f L records
