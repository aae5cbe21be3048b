-- What holds after any run of calls. From a sheet just opened or just read it always does (proofs/AnyRun).
use Rattle.std.specs.Prelude.{ℕ, ◌+◌, ◌≤◌, ◌≡◌, true, false, List, [], length}
use Rattle.measure.specs.declared.units.Hundredths.{Hundredths}
use Rattle.spaces.specs.Space.{is_plain}
use Rattle.spaces.specs.Row.{sum_of}
use Rattle.standard.specs.Gross.{gross, deductions}
use Rattle.spaces.specs.declared.space.Space.{Space}
use Rattle.spaces.specs.declared.sums.Amount.TheVariants.{Hull}
use Rattle.spaces_laws.specs.Above.{◌∈◌, Above}
use Rattle.spaces_laws.specs.Gross.{taken_off}
use Rattle.sheet.specs.Sheet.{standing, usable}
use Rattle.sheet.specs.Calls.{undone, redone, counted, reported}
use Rattle.standard.specs.Records.{first_refused}
use Rattle.sheet.specs.declared.sheet.Sheet.{Sheet}
use Rattle.sheet.specs.declared.calls.Reported.{Reported}
use Rattle.sheet_laws.specs.Run.{Call, after, Log, replay, log_of, OpenChanges, counts_of}

-- 12 where the count is nil, and else accepted
pub record RefusedAtNil (count number : ℕ) : Type 0 where
  pub at_nil : count ≡ 0 → number ≡ 12
  pub else_accepted : (count ≡ 0 → ⊥) → number ≡ 0

-- The history of the sheet s after a run that has this log and these counts, where L is the tonnage length and the spaces `start` stood
-- at first. It is the same under any rules of what may stand (proofs/Runs).
pub record HistoryHolds (L : Hundredths) (start : List Space) (s : Sheet) (log : Log) (k : OpenChanges) : Type 0 where
  -- "the spaces standing are exactly those that the accepted changes not undone would leave if made in order"
  pub standing_is : standing s ≡ replay log.not_undone start
  -- the sheet has the paper's counts, and they are those told
  pub undoable_is : s.undoable ≡ k.undoable
  pub redoable_is : s.redoable ≡ k.redoable
  pub counts_told : counted s ≡ record { undoable = k.undoable; redoable = k.redoable; sheet = s }
  -- "undo or redo is refused only when the paper's count of open changes is nil"
  pub undo_refused : RefusedAtNil k.undoable (undone s).number
  pub redo_refused : RefusedAtNil k.redoable (redone s).number
  -- it is still an open sheet with its tonnage length and its places
  pub is_usable : usable s ≡ true
  pub length_kept : s.length ≡ L
  pub places : length s.spaces ≡ 200
  pub open_places : length s.changes ≡ 64

-- "Net is gross less D less this deduction" (T-06 of document 02) with nothing cut off: gross less these isn't below 0
pub record Within (xs : List Space) (r : Reported) : Type 0 where
  pub gross_is : r.gross ≡ gross xs
  pub net_and_deductions : r.net + deductions xs ≡ r.gross
  pub net_at_most_gross : r.net ≤ r.gross

-- and all that holds under the paper's rules
pub record Holds (L : Hundredths) (start : List Space) (s : Sheet) (log : Log) (k : OpenChanges) : Type 0 where
  pub history : HistoryHolds L start s log k
  -- each space standing, in order, is accepted as a record after those before it
  pub none_refused : (first_refused L [] (standing s)).number ≡ 0
  -- "no volume is taken off twice": "of two standing spaces that aren't plain neither is anywhere above the other", and it "now asks that
  -- E + D + M is not more than T" (T-06)
  pub neither_above : (y z : Space) → y ∈ standing s → z ∈ standing s → is_plain y ≡ false → is_plain z ≡ false
      → (Above (standing s) y z → ⊥) × (Above (standing s) z y → ⊥)
  pub taken_off_at_most_whole : taken_off (standing s) ≤ sum_of Hull (standing s)
  -- "when a report is given, net is neither below zero nor above gross"; "demand 3's floor of zero now rests on a refusal" (T-06), 21
  pub report_within : (justified : ℕ) → (reported s justified).number ≡ 0 → Within (standing s) (reported s justified)

-- all of that after any calls on the sheet `first`
abbrev pub AfterAnyRun : Hundredths → List Space → Sheet → Type 0
AfterAnyRun L start first = (calls : List Call) → Holds L start (after calls first) (log_of L calls first) (counts_of calls first)

-- no call on the sheet changes its vessel number: "the vessel number is given at opening" (T-05 of document 02)
abbrev pub VesselKept : Sheet → Type 0
VesselKept first = (calls : List Call) → (after calls first).vessel ≡ first.vessel
