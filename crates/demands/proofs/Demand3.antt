-- Demand 3: "Start from a sheet just opened or just read. After any run of entries, marks, withdrawals, undos, redos and refused calls,
-- the spaces standing are exactly those that the accepted changes not undone would leave if made in order, and undo or redo is refused
-- only when the paper's count of open changes is nil. Of every sheet so reached, no volume is taken off twice, and when a report is
-- given, net is neither below zero nor above gross."
-- First the whole of it, then clause by clause. The runs are those of specs/Reached; the log of accepted changes, what they leave and
-- the paper's counts are defined in sheet_laws/specs/Run; what is above in spaces_laws/specs/Above. Stands on Reached.
use Rattle.std.proofs.Common.{ℕ, ◌+◌, ◌≤◌, ◌≡◌, ◌∙◌, false, List, eqb-true, eqb}
use borrow.Author.Tests.{eqb-false}
use Rattle.measure.specs.declared.units.Hundredths.{Hundredths}
use Rattle.spaces.specs.Space.{is_plain}
use Rattle.spaces.specs.Row.{sum_of}
use Rattle.standard.specs.Gross.{deductions}
use Rattle.spaces.specs.declared.space.Space.{Space}
use Rattle.spaces.specs.declared.sums.Amount.TheVariants.{Hull}
use Rattle.spaces.proofs.Laws.Cases.{by_test}
use Rattle.spaces_laws.specs.Above.{◌∈◌, Above}
use Rattle.spaces_laws.specs.Gross.{taken_off, WithoutMachinery}
use Rattle.sheet.specs.Sheet.{standing, vessel_of}
use Rattle.sheet.specs.Calls.{opened_with, undone, redone, reported}
use Rattle.sheet.specs.declared.sheet.Sheet.{Sheet}
use Rattle.sheet_laws.specs.Run.{replay, log_of, counts_of}
use Rattle.sheet_laws.specs.Holds.{RefusedAtNil, Holds}
use Rattle.sheet_laws.specs.AsBefore.{ReportAsBefore}
use Rattle.sheet_laws.proofs.AsBefore.{report_as_before}
use Rattle.sheet_laws.proofs.Runs.{vessel_kept}
use Rattle.sheet_laws.proofs.Resumable.{opened_of_records, opened_vessel}
use Rattle.sheet_laws.proofs.AnyRun.{after_any_run_from_records}
use Rattle.demands.specs.Reached.{Begun, DayCall, after_day, without_writes, Reached, reached}
use Rattle.demands.proofs.Reached.{begun_of_records, writes_change_nothing, reached_resumable}

-- for every list of calls, reports, counts and writes among them. The log of changes has no bound
pub after_any_run : {L : Hundredths} {start : List Space} {first : Sheet} → Begun L start first → (calls : List DayCall)
    → Holds L start (after_day calls first) (log_of L (without_writes calls) first) (counts_of (without_writes calls) first)
after_any_run {first = first} begun calls =
    rw (writes_change_nothing calls first) (after_any_run_from_records (begun_of_records begun) (without_writes calls))

-- ---- "After any run .."

-- "the spaces standing are exactly those that the accepted changes not undone would leave if made in order"
pub standing_is : {L : Hundredths} {start : List Space} {first : Sheet} → Begun L start first → (calls : List DayCall)
    → standing (after_day calls first) ≡ replay (log_of L (without_writes calls) first).not_undone start
standing_is begun calls = (after_any_run begun calls).history.standing_is

only_at_nil : {count number : ℕ} → RefusedAtNil count number → (number ≡ 0 → ⊥) → count ≡ 0
only_at_nil {count} r refused = by_test (eqb count 0) (eqb-true _ _) (λ f. absurd (refused (r.else_accepted (eqb-false _ _ f))))

-- "and undo or redo is refused only when the paper's count of open changes is nil": with any number
pub undo_refused_only_at_nil : {L : Hundredths} {start : List Space} {first : Sheet} → Begun L start first → (calls : List DayCall)
    → ((undone (after_day calls first)).number ≡ 0 → ⊥) → (counts_of (without_writes calls) first).undoable ≡ 0
undo_refused_only_at_nil begun calls = only_at_nil (after_any_run begun calls).history.undo_refused

pub redo_refused_only_at_nil : {L : Hundredths} {start : List Space} {first : Sheet} → Begun L start first → (calls : List DayCall)
    → ((redone (after_day calls first)).number ≡ 0 → ⊥) → (counts_of (without_writes calls) first).redoable ≡ 0
redo_refused_only_at_nil begun calls = only_at_nil (after_any_run begun calls).history.redo_refused

-- no call changes the vessel number
pub vessel_number_kept : (first : Sheet) (calls : List DayCall) → (after_day calls first).vessel ≡ first.vessel
vessel_number_kept first calls = rw (writes_change_nothing calls first) (vessel_kept first (without_writes calls))

-- "the vessel number is given at opening": after any calls it is the one that `vessel` tells
pub vessel_as_opened : (L : Hundredths) (vessel : ℕ) → (opened_with L vessel).number ≡ 0 → (calls : List DayCall)
    → vessel_of (after_day calls (opened_with L vessel).sheet) ≡ vessel
unfolding vessel_of
vessel_as_opened L vessel z calls =
    let first = (opened_with L vessel).sheet in
    let is_usable = (after_any_run_from_records (opened_of_records L vessel z) (without_writes calls)).history.is_usable in
    rw (writes_change_nothing calls first, is_usable) (vessel_kept first (without_writes calls) ∙ opened_vessel L vessel z)

-- ---- "Of every sheet so reached"

-- "no volume is taken off twice", which "means: of two standing spaces that aren't plain neither is anywhere above the other,"
pub neither_above : {s : Sheet} → Reached s → (y z : Space) → y ∈ standing s → z ∈ standing s → is_plain y ≡ false → is_plain z ≡ false
    → (Above (standing s) y z → ⊥) × (Above (standing s) z y → ⊥)
neither_above (reached begun calls) = (after_any_run begun calls).neither_above

-- "and E + D is not more than T"; since T-06 of document 02 it "asks that E + D + M is not more than T"
pub taken_off_at_most_whole : {s : Sheet} → Reached s → taken_off (standing s) ≤ sum_of Hull (standing s)
taken_off_at_most_whole (reached begun calls) = (after_any_run begun calls).taken_off_at_most_whole

-- "and when a report is given, net is neither below zero": "Net is gross less D less this deduction" with nothing cut off, and "demand 3's floor
-- of zero now rests on a refusal", 21
pub net_not_below_zero : {s : Sheet} → Reached s → (justified : ℕ) → (reported s justified).number ≡ 0
    → (reported s justified).net + deductions (standing s) ≡ (reported s justified).gross
net_not_below_zero (reached begun calls) justified given = ((after_any_run begun calls).report_within justified given).net_and_deductions

-- "nor above gross."
pub net_not_above_gross : {s : Sheet} → Reached s → (justified : ℕ) → (reported s justified).number ≡ 0
    → (reported s justified).net ≤ (reported s justified).gross
net_not_above_gross (reached begun calls) justified given = ((after_any_run begun calls).report_within justified given).net_at_most_gross

-- without machinery rooms a report is what it was before T-06, its number too
pub as_before_machinery : {s : Sheet} → Reached s → WithoutMachinery (standing s) → (justified : ℕ) → ReportAsBefore s justified
as_before_machinery {s} r without = report_as_before s (reached_resumable r).resumable.valid without
