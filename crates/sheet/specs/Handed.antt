-- What the functions inside the crate ask of a sheet and hand one another. No promise of a public function cites anything here.
use Rattle.std.specs.Prelude.{ℕ, ◌-◌, ◌≤◌, ◌≡◌, true, Result, Ok, Err}
use Rattle.std.specs.Result.{result_unwrap_or}
use Rattle.sheet.specs.Sheet.{usable}
use Rattle.measure.specs.declared.refusals.Refusal.{Refusal}
use Rattle.measure.specs.declared.roundings.Roundings.{Roundings}
use Rattle.measure.specs.Roundings.{no_roundings}
use Rattle.sheet.specs.declared.calls.Changed.{Changed}
use Rattle.sheet.specs.declared.calls.Entering.{Entering}
use Rattle.sheet.specs.declared.calls.Figures.{Figures}
use Rattle.sheet.specs.declared.sheet.Sheet.{Sheet}
use Rattle.sheet.specs.declared.tanks.TankEntering.{TankEntering}

-- a usable sheet, and what that says of its counts
pub record Open (s : Sheet) : Type 0 where
  pub usable_is : usable s ≡ true
  pub count : s.count ≤ 200
  pub undoable : s.undoable ≤ 64
  pub redoable : s.redoable ≤ 64 - s.undoable

-- the refusal with a number
abbrev pub refusal : ℕ → Refusal
refusal number = record { 0 = number }

-- the paper's number of an outcome, 0 where accepted
abbrev pub number_of : {A : Type 0} → Result A Refusal → ℕ
number_of (Ok x) = 0
number_of (Err r) = r.0

-- what a call answers, by its outcome, with the sheet after it
abbrev pub answer_of : Result (Unit {0}) Refusal → Sheet → Changed
answer_of outcome s = record { number = number_of outcome; sheet = s }

-- of an entry with the roundings that it passes on, none where refused, and the enclosing spaces visited
abbrev pub entry_answer : Result Roundings Refusal → ℕ → Sheet → Entering
entry_answer outcome visited s =
    record { number = number_of outcome; roundings = result_unwrap_or outcome no_roundings; visited = visited; sheet = s }

abbrev pub tank_answer : Result (Unit {0}) Refusal → ℕ → Sheet → TankEntering
tank_answer outcome visited s = record { number = number_of outcome; visited = visited; sheet = s }

-- gross and net, or 0 and 0 where refused
abbrev pub told : Result (ℕ × ℕ) Refusal → Figures
told outcome =
    let figures = result_unwrap_or outcome (0, 0) in
    record { number = number_of outcome; gross = figures.0; net = figures.1 }
