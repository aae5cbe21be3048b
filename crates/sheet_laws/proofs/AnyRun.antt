-- After any run of calls from a sheet just opened or just read: the spaces standing are those that the accepted changes not undone
-- leave if made in order, the counts are the paper's, each space is accepted in order as a record, and no volume is taken off twice.
-- Stands on Accepted.
use Rattle.std.proofs.Common.{ℕ, ◌≡◌, refl, true, List, arith}
use Rattle.measure.specs.declared.units.Hundredths.{Hundredths}
use Rattle.spaces.specs.declared.space.Space.{Space}
use Rattle.spaces_laws.proofs.Twice.{neither_above_the_other, taken_off_at_most_whole}
use Rattle.spaces_laws.proofs.Report.{net_and_deductions, net_at_most_gross}
use Rattle.sheet.specs.Sheet.{standing, blank}
use Rattle.sheet.specs.Changes.{with_standing}
use Rattle.sheet.specs.Calls.{reported}
use Rattle.sheet.specs.declared.sheet.Sheet.{Sheet}
use Rattle.sheet.proofs.Laws.Report.{given}
use Rattle.sheet_laws.specs.Run.{after}
use Rattle.sheet_laws.specs.Resumable.{Resumable, OfRecords}
use Rattle.sheet_laws.specs.Holds.{Within, AfterAnyRun}
use Rattle.sheet_laws.proofs.Resumable.{resumable_exactly}
use Rattle.sheet_laws.proofs.Runs.{history_after_any_run}
use Rattle.sheet_laws.proofs.Accepted.{paper_rules}

-- a given report is gross and net of the spaces standing, and no deductions pass gross where it isn't refused with 21
given_within : (s : Sheet) (justified : ℕ) → (reported s justified).number ≡ 0 → Within (standing s) (reported s justified)
given_within s justified z =
    let g = given s justified (reported s justified) refl z in
    record {
      gross_is = g.gross_is;
      net_and_deductions = omega (arith, g.net_is, g.gross_is, net_and_deductions (standing s) g.none_pass);
      net_at_most_gross = omega (arith, g.net_is, g.gross_is, net_at_most_gross (standing s));
    }

-- from the sheet of some recorded spaces, each accepted in order
pub after_any_run_from_records : {L : Hundredths} {vessel : ℕ} {records : List Space} {first : Sheet} → OfRecords L vessel records first
    → AfterAnyRun L records first
after_any_run_from_records {L} {vessel} {records} o calls =
    let (history, now) = history_after_any_run Resumable paper_rules L records vessel o.resumable calls in
    let v = now.valid in
    rw o.sheet_is
    (record {
      history = history;
      none_refused = (resumable_exactly L _).1 now;
      neither_above = λ y z m n p q. neither_above_the_other v m n p q;
      taken_off_at_most_whole = taken_off_at_most_whole v;
      report_within = given_within (after calls (with_standing records (blank true L vessel)));
    })
