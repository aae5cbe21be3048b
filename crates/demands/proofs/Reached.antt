-- What a sheet is that calls can reach: its spaces are all accepted as records, in order, on the 200 places of an open sheet. Stands on
-- sheet_laws, AnyRun.
use Rattle.std.proofs.Common.{◌≤◌, ◌≡◌, refl, sym, ap, ◌∙◌, true, List, [], ◌∷◌}
use Rattle.measure.specs.declared.units.Hundredths.{Hundredths}
use Rattle.spaces.specs.Space.{all_recorded}
use Rattle.spaces.specs.declared.space.Space.{Space}
use Rattle.sheet.specs.Sheet.{standing, usable}
use Rattle.sheet.specs.declared.sheet.Sheet.{Sheet}
use Rattle.sheet_laws.specs.Run.{answer, after}
use Rattle.sheet_laws.specs.Resumable.{OfRecords}
use Rattle.sheet_laws.proofs.Resumable.{resumable_exactly, opened_of_records, resumed_of_records, opened_vessel, resumed_vessel}
use Rattle.sheet_laws.proofs.Runs.{vessel_kept}
use Rattle.sheet_laws.proofs.AnyRun.{after_any_run_from_records}
use Rattle.dayfile.specs.Writing.{written}
use Rattle.dayfile_laws.specs.Day.{ResumableSheet}
use Rattle.dayfile_laws.proofs.Resumed.{standing_same}
use Rattle.dayfile_laws.proofs.ReadWritten.{read_is_writable, read_of_records}
use Rattle.demands.specs.Reached.{Begun, opened, read, of_records, DayCall, call, write, after_day, without_writes, Reached, reached}

-- one that has begun has spaces that are all accepted as records, in order, and no open changes
pub begun_of_records : {L : Hundredths} {start : List Space} {first : Sheet} → Begun L start first → OfRecords L first.vessel start first
begun_of_records (opened L vessel most z) = rw (opened_vessel L vessel z) (opened_of_records L vessel z)
begun_of_records (read file bytes z) = read_of_records file z bytes
begun_of_records (of_records L vessel records most z) = rw (resumed_vessel L vessel records z) (resumed_of_records L vessel records z)

-- and a vessel number of 32 bits
begun_vessel : {L : Hundredths} {start : List Space} {first : Sheet} → Begun L start first → first.vessel ≤ 4294967295
begun_vessel (opened L vessel most z) = rw (opened_vessel L vessel z) most
begun_vessel (read file bytes z) = (read_is_writable file z bytes).sheet.vessel_in_range
begun_vessel (of_records L vessel records most z) = rw (resumed_vessel L vessel records z) most

-- and none of them has m
pub begun_without_m : {L : Hundredths} {start : List Space} {first : Sheet} → Begun L start first → all_recorded (standing first) ≡ standing first
begun_without_m {L} {start} {first} begun =
    let o = begun_of_records begun in
    let same = ap standing o.sheet_is ∙ standing_same L first.vessel start in
    ap all_recorded same ∙ o.without_m ∙ sym same

-- writes leave the sheet to the other calls
pub writes_change_nothing : (calls : List DayCall) (s : Sheet) → after_day calls s ≡ after (without_writes calls) s
unfolding written
writes_change_nothing [] s = refl
writes_change_nothing (call c ∷ calls) s = writes_change_nothing calls (answer c s).sheet
writes_change_nothing (write justified form size at ∷ calls) s = writes_change_nothing calls s

-- after any calls it is still open
pub reached_open : {s : Sheet} → Reached s → usable s ≡ true
reached_open (reached {first = first} begun calls) =
    rw (writes_change_nothing calls first) (after_any_run_from_records (begun_of_records begun) (without_writes calls)).history.is_usable

-- after any calls its spaces are still all accepted as records, in order, on the 200 places of an open sheet
pub reached_resumable : {s : Sheet} → Reached s → ResumableSheet s
reached_resumable (reached {L = L} {first = first} begun calls) =
    let o = begun_of_records begun in
    let h = after_any_run_from_records o (without_writes calls) in
    let long = h.history.length_kept in
    rw (writes_change_nothing calls first)
    (record {
      places = h.history.places;
      vessel_in_range = rw (vessel_kept first (without_writes calls)) (begun_vessel begun);
      length_in_range = rw long o.length_in_range;
      resumable = rw long ((resumable_exactly L _).0 h.none_refused);
    })
