-- "For every input, refusals too, each public promise determines the answer, the sheet handed back and each byte of a lent buffer.
-- Prove that no second answer could satisfy it": a theorem for every public function of every library, the calls that are exported
-- to C and Rust too, about the contract that the check proved of it. What `One` and `OneBy` say is in specs/OneAnswer: whatever is
-- given, nothing is asked of it, and two ends that the contract allows are one, in the answer and in every value left in what was lent
-- to change. Every contract says `.. ≡ definition`, so the idea of each proof is that two things equal to a third are equal.
-- tools/promises.py writes the rows, and fails where a public function has none or where a row says anything else. (`input::read_full`
-- has none: what is read is for the reader to say that is handed over.)
use Rattle.std.proofs.Common.{◌≡◌, refl, sym, ap, ◌∙◌}
use Rattle.demands.specs.OneAnswer.{One, OneBy}
use Rattle.dayfile.proofs as dayfile
use Rattle.dayfile.specs.contracts as dayfile'
use Rattle.fummidrake.proofs as fummidrake
use Rattle.fummidrake.specs.contracts as fummidrake'
use Rattle.listing.proofs as listing
use Rattle.listing.specs.contracts as listing'
use Rattle.measure.proofs as measure
use Rattle.measure.specs.contracts as measure'
use Rattle.script.proofs as script
use Rattle.script.specs.contracts as script'
use Rattle.sheet.proofs as sheet
use Rattle.sheet.specs.contracts as sheet'
use Rattle.spaces.proofs as spaces
use Rattle.spaces.specs.contracts as spaces'
use Rattle.standard.proofs as standard
use Rattle.standard.specs.contracts as standard'

agree : {A : Type 0} {x y z : A} → x ≡ z → y ≡ z → x ≡ y
agree p q = p ∙ sym q

-- ---- the rows

-- measure
pub measure_hatchway_allowance :
    One measure'.allowances.hatchway_allowance.ended measure.allowances.hatchway_allowance.Reads.Asked measure.allowances.hatchway_allowance.Reads.Learnt
measure_hatchway_allowance _ = record { nothing_asked = tt; one_answer = agree; one_left = λ p q. refl }

pub measure_hatchway_excess :
    One measure'.allowances.hatchway_excess.ended measure.allowances.hatchway_excess.Reads.Asked measure.allowances.hatchway_excess.Reads.Learnt
measure_hatchway_excess _ = record { nothing_asked = tt; one_answer = agree; one_left = λ p q. refl }

pub measure_ballast_over :
    One measure'.allowances.ballast_over.ended measure.allowances.ballast_over.Reads.Asked measure.allowances.ballast_over.Reads.Learnt
measure_ballast_over _ = record { nothing_asked = tt; one_answer = agree; one_left = λ p q. refl }

pub measure_end_areas :
    One measure'.ends.end_areas.ended measure.ends.end_areas.Reads.Asked measure.ends.end_areas.Reads.Learnt
measure_end_areas _ = record { nothing_asked = tt; one_answer = agree; one_left = λ p q. refl }

pub measure_kind_of :
    One measure'.kinds.kind_of.ended measure.kinds.kind_of.Reads.Asked measure.kinds.kind_of.Reads.Learnt
measure_kind_of _ = record { nothing_asked = tt; one_answer = agree; one_left = λ p q. refl }

pub measure_offsets :
    One measure'.offsets.measure_offsets.ended measure.offsets.measure_offsets.Reads.Asked measure.offsets.measure_offsets.Reads.Learnt
measure_offsets _ = record { nothing_asked = tt; one_answer = agree; one_left = λ p q. refl }

pub measure_stations :
    One measure'.offsets.stations.ended measure.offsets.stations.Reads.Asked measure.offsets.stations.Reads.Learnt
measure_stations _ = record { nothing_asked = tt; one_answer = agree; one_left = λ p q. refl }

pub measure_breadths_at_station :
    One measure'.offsets.breadths_at_station.ended measure.offsets.breadths_at_station.Reads.Asked measure.offsets.breadths_at_station.Reads.Learnt
measure_breadths_at_station _ = record { nothing_asked = tt; one_answer = agree; one_left = λ p q. refl }

pub measure_m_of :
    One measure'.offsets.m_of.ended measure.offsets.m_of.Reads.Asked measure.offsets.m_of.Reads.Learnt
measure_m_of _ = record { nothing_asked = tt; one_answer = agree; one_left = λ p q. refl }

pub measure_tonnage_length_fits :
    One measure'.ranges.tonnage_length_fits.ended measure.ranges.tonnage_length_fits.Reads.Asked measure.ranges.tonnage_length_fits.Reads.Learnt
measure_tonnage_length_fits _ = record { nothing_asked = tt; one_answer = agree; one_left = λ p q. refl }

pub measure_length_fits :
    One measure'.ranges.length_fits.ended measure.ranges.length_fits.Reads.Asked measure.ranges.length_fits.Reads.Learnt
measure_length_fits _ = record { nothing_asked = tt; one_answer = agree; one_left = λ p q. refl }

pub measure_nearest :
    One measure'.rounding.nearest.ended measure.rounding.nearest.Reads.Asked measure.rounding.nearest.Reads.Learnt
measure_nearest _ = record { nothing_asked = tt; one_answer = agree; one_left = λ p q. refl }

pub measure_none :
    One measure'.roundings.none.ended measure.roundings.none.Reads.Asked measure.roundings.none.Reads.Learnt
measure_none _ = record { nothing_asked = tt; one_answer = agree; one_left = λ p q. refl }

pub measure_tank :
    One measure'.tanks.measure_tank.ended measure.tanks.measure_tank.Reads.Asked measure.tanks.measure_tank.Reads.Learnt
measure_tank _ = record { nothing_asked = tt; one_answer = agree; one_left = λ p q. refl }

pub measure_passes_end :
    One measure'.tanks.passes_end.ended measure.tanks.passes_end.Reads.Asked measure.tanks.passes_end.Reads.Learnt
measure_passes_end _ = record { nothing_asked = tt; one_answer = agree; one_left = λ p q. refl }

pub measure_has_m :
    One measure'.tanks.has_m.ended measure.tanks.has_m.Reads.Asked measure.tanks.has_m.Reads.Learnt
measure_has_m _ = record { nothing_asked = tt; one_answer = agree; one_left = λ p q. refl }

pub measure_lay_out :
    One measure'.tanks.lay_out.ended measure.tanks.lay_out.Reads.Asked measure.tanks.lay_out.Reads.Learnt
measure_lay_out _ = record { nothing_asked = tt; one_answer = agree; one_left = λ p q. refl }

pub measure_section_station :
    One measure'.tanks.section_station.ended measure.tanks.section_station.Reads.Asked measure.tanks.section_station.Reads.Learnt
measure_section_station _ = record { nothing_asked = tt; one_answer = agree; one_left = λ p q. refl }

pub measure_divided :
    One measure'.thirds.divided.ended measure.thirds.divided.Reads.Asked measure.thirds.divided.Reads.Learnt
measure_divided _ = record { nothing_asked = tt; one_answer = agree; one_left = λ p q. refl }

-- spaces
pub spaces_around_space :
    One spaces'.row.Row.around_space.ended spaces.row.Row.around_space.Reads.Asked spaces.row.Row.around_space.Reads.Learnt
spaces_around_space _ = record { nothing_asked = tt; one_answer = agree; one_left = λ p q. refl }

pub spaces_around_each :
    One spaces'.row.Row.around_each.ended spaces.row.Row.around_each.Reads.Asked spaces.row.Row.around_each.Reads.Learnt
spaces_around_each _ = record { nothing_asked = tt; one_answer = agree; one_left = λ p q. refl }

pub spaces_all_above :
    One spaces'.row.Row.all_above.ended spaces.row.Row.all_above.Reads.Asked spaces.row.Row.all_above.Reads.Learnt
spaces_all_above _ = record { nothing_asked = tt; one_answer = agree; one_left = λ p q. refl }

pub spaces_plain_below :
    One spaces'.row.Row.plain_below.ended spaces.row.Row.plain_below.Reads.Asked spaces.row.Row.plain_below.Reads.Learnt
spaces_plain_below _ = record { nothing_asked = tt; one_answer = agree; one_left = λ p q. refl }

pub spaces_of :
    OneBy spaces'.row.Row.of.ended spaces.row.Row.of.Reads.Asked spaces.row.Row.of.Reads.Learnt (λ lives. (λ x. x.spaces.now))
spaces_of _ = record { nothing_asked = tt; one_answer = agree; one_left = λ p q. refl }

pub spaces_find :
    One spaces'.row.Row.find.ended spaces.row.Row.find.Reads.Asked spaces.row.Row.find.Reads.Learnt
spaces_find _ = record { nothing_asked = tt; one_answer = agree; one_left = λ p q. refl }

pub spaces_place_of :
    One spaces'.row.Row.place_of.ended spaces.row.Row.place_of.Reads.Asked spaces.row.Row.place_of.Reads.Learnt
spaces_place_of _ = record { nothing_asked = tt; one_answer = agree; one_left = λ p q. refl }

pub spaces_stands :
    One spaces'.row.Row.stands.ended spaces.row.Row.stands.Reads.Asked spaces.row.Row.stands.Reads.Learnt
spaces_stands _ = record { nothing_asked = tt; one_answer = agree; one_left = λ p q. refl }

pub spaces_empty :
    One spaces'.space.empty.ended spaces.space.empty.Reads.Asked spaces.space.empty.Reads.Learnt
spaces_empty _ = record { nothing_asked = tt; one_answer = agree; one_left = λ p q. refl }

pub spaces_sum :
    One spaces'.row.Row.sum.ended spaces.row.Row.sum.Reads.Asked spaces.row.Row.sum.Reads.Learnt
spaces_sum _ = record { nothing_asked = tt; one_answer = λ p q. agree p.0 q.0; one_left = λ p q. refl }

pub spaces_total_up :
    One spaces'.row.Row.total_up.ended spaces.row.Row.total_up.Reads.Asked spaces.row.Row.total_up.Reads.Learnt
spaces_total_up _ = record { nothing_asked = tt; one_answer = λ p q. agree p.0 q.0; one_left = λ p q. refl }

-- standard
pub standard_reckon :
    One standard'.gross.reckon.ended standard.gross.reckon.Reads.Asked standard.gross.reckon.Reads.Learnt
standard_reckon _ = record { nothing_asked = tt; one_answer = agree; one_left = λ p q. refl }

pub standard_first_refused :
    One standard'.records.first_refused.ended standard.records.first_refused.Reads.Asked standard.records.first_refused.Reads.Learnt
standard_first_refused _ = record { nothing_asked = tt; one_answer = agree; one_left = λ p q. refl }

pub standard_entry_ruling :
    One standard'.rules.entry_ruling.ended standard.rules.entry_ruling.Reads.Asked standard.rules.entry_ruling.Reads.Learnt
standard_entry_ruling _ = record { nothing_asked = tt; one_answer = agree; one_left = λ p q. refl }

pub standard_withdraw_ruling :
    One standard'.rules.withdraw_ruling.ended standard.rules.withdraw_ruling.Reads.Asked standard.rules.withdraw_ruling.Reads.Learnt
standard_withdraw_ruling _ = record { nothing_asked = tt; one_answer = agree; one_left = λ p q. refl }

pub standard_mark_ruling :
    One standard'.rules.mark_ruling.ended standard.rules.mark_ruling.Reads.Asked standard.rules.mark_ruling.Reads.Learnt
standard_mark_ruling _ = record { nothing_asked = tt; one_answer = agree; one_left = λ p q. refl }

pub standard_may_take :
    One standard'.standings.may_take.ended standard.standings.may_take.Reads.Asked standard.standings.may_take.Reads.Learnt
standard_may_take _ = record { nothing_asked = tt; one_answer = agree; one_left = λ p q. refl }

pub standard_under_deck_with :
    One standard'.tanks.under_deck_with.ended standard.tanks.under_deck_with.Reads.Asked standard.tanks.under_deck_with.Reads.Learnt
standard_under_deck_with _ = record { nothing_asked = tt; one_answer = agree; one_left = λ p q. refl }

pub standard_tank_ruling :
    One standard'.tanks.tank_ruling.ended standard.tanks.tank_ruling.Reads.Asked standard.tanks.tank_ruling.Reads.Learnt
standard_tank_ruling _ = record { nothing_asked = tt; one_answer = agree; one_left = λ p q. refl }

-- sheet
pub sheet_open :
    One sheet'.sheet.Sheet.open.ended sheet.sheet.Sheet.open.Reads.Asked sheet.sheet.Sheet.open.Reads.Learnt
sheet_open _ = record { nothing_asked = tt; one_answer = agree; one_left = λ p q. refl }

pub sheet_enter :
    One sheet'.sheet.Sheet.enter.ended sheet.sheet.Sheet.enter.Reads.Asked sheet.sheet.Sheet.enter.Reads.Learnt
sheet_enter _ = record { nothing_asked = tt; one_answer = agree; one_left = λ p q. refl }

pub sheet_withdraw :
    One sheet'.sheet.Sheet.withdraw.ended sheet.sheet.Sheet.withdraw.Reads.Asked sheet.sheet.Sheet.withdraw.Reads.Learnt
sheet_withdraw _ = record { nothing_asked = tt; one_answer = agree; one_left = λ p q. refl }

pub sheet_mark :
    One sheet'.sheet.Sheet.mark.ended sheet.sheet.Sheet.mark.Reads.Asked sheet.sheet.Sheet.mark.Reads.Learnt
sheet_mark _ = record { nothing_asked = tt; one_answer = agree; one_left = λ p q. refl }

pub sheet_undo :
    One sheet'.sheet.Sheet.undo.ended sheet.sheet.Sheet.undo.Reads.Asked sheet.sheet.Sheet.undo.Reads.Learnt
sheet_undo _ = record { nothing_asked = tt; one_answer = agree; one_left = λ p q. refl }

pub sheet_redo :
    One sheet'.sheet.Sheet.redo.ended sheet.sheet.Sheet.redo.Reads.Asked sheet.sheet.Sheet.redo.Reads.Learnt
sheet_redo _ = record { nothing_asked = tt; one_answer = agree; one_left = λ p q. refl }

pub sheet_counts :
    One sheet'.sheet.Sheet.counts.ended sheet.sheet.Sheet.counts.Reads.Asked sheet.sheet.Sheet.counts.Reads.Learnt
sheet_counts _ = record { nothing_asked = tt; one_answer = agree; one_left = λ p q. refl }

pub sheet_report :
    One sheet'.sheet.Sheet.report.ended sheet.sheet.Sheet.report.Reads.Asked sheet.sheet.Sheet.report.Reads.Learnt
sheet_report _ = record { nothing_asked = tt; one_answer = agree; one_left = λ p q. refl }

pub sheet_figures :
    One sheet'.sheet.Sheet.figures.ended sheet.sheet.Sheet.figures.Reads.Asked sheet.sheet.Sheet.figures.Reads.Learnt
sheet_figures _ = record { nothing_asked = tt; one_answer = agree; one_left = λ p q. refl }

pub sheet_resume :
    One sheet'.sheet.Sheet.resume.ended sheet.sheet.Sheet.resume.Reads.Asked sheet.sheet.Sheet.resume.Reads.Learnt
sheet_resume _ = record { nothing_asked = tt; one_answer = agree; one_left = λ p q. refl }

pub sheet_closed :
    One sheet'.sheet.Sheet.closed.ended sheet.sheet.Sheet.closed.Reads.Asked sheet.sheet.Sheet.closed.Reads.Learnt
sheet_closed _ = record { nothing_asked = tt; one_answer = agree; one_left = λ p q. refl }

pub sheet_tonnage_length :
    One sheet'.sheet.Sheet.tonnage_length.ended sheet.sheet.Sheet.tonnage_length.Reads.Asked sheet.sheet.Sheet.tonnage_length.Reads.Learnt
sheet_tonnage_length _ = record { nothing_asked = tt; one_answer = agree; one_left = λ p q. refl }

pub sheet_vessel :
    One sheet'.sheet.Sheet.vessel.ended sheet.sheet.Sheet.vessel.Reads.Asked sheet.sheet.Sheet.vessel.Reads.Learnt
sheet_vessel _ = record { nothing_asked = tt; one_answer = agree; one_left = λ p q. refl }

pub sheet_standing_count :
    One sheet'.sheet.Sheet.standing_count.ended sheet.sheet.Sheet.standing_count.Reads.Asked sheet.sheet.Sheet.standing_count.Reads.Learnt
sheet_standing_count _ = record { nothing_asked = tt; one_answer = agree; one_left = λ p q. refl }

pub sheet_space_at :
    One sheet'.sheet.Sheet.space_at.ended sheet.sheet.Sheet.space_at.Reads.Asked sheet.sheet.Sheet.space_at.Reads.Learnt
sheet_space_at _ = record { nothing_asked = tt; one_answer = agree; one_left = λ p q. refl }

pub sheet_places :
    One sheet'.sheet.Sheet.places.ended sheet.sheet.Sheet.places.Reads.Asked sheet.sheet.Sheet.places.Reads.Learnt
sheet_places _ = record { nothing_asked = tt; one_answer = agree; one_left = λ p q. refl }

pub sheet_standing :
    OneBy sheet'.sheet.Sheet.standing.ended sheet.sheet.Sheet.standing.Reads.Asked sheet.sheet.Sheet.standing.Reads.Learnt (λ lives. (λ x. x.spaces.now))
sheet_standing _ = record { nothing_asked = tt; one_answer = λ p q. agree p.0 q.0; one_left = λ p q. refl }

pub sheet_is_open :
    One sheet'.sheet.Sheet.is_open.ended sheet.sheet.Sheet.is_open.Reads.Asked sheet.sheet.Sheet.is_open.Reads.Learnt
sheet_is_open _ = record { nothing_asked = tt; one_answer = agree; one_left = λ p q. refl }

pub sheet_enter_tank :
    One sheet'.sheet.Sheet.enter_tank.ended sheet.sheet.Sheet.enter_tank.Reads.Asked sheet.sheet.Sheet.enter_tank.Reads.Learnt
sheet_enter_tank _ = record { nothing_asked = tt; one_answer = agree; one_left = λ p q. refl }

-- dayfile
pub dayfile_move_last :
    One dayfile'.move_last.ended dayfile.move_last.Reads.Asked dayfile.move_last.Reads.Learnt
dayfile_move_last _ =
    record { nothing_asked = tt; one_answer = λ p q. agree p.0 q.0; one_left = λ p q. ap (λ b. (tt, (tt, (b, (tt, tt))))) (agree p.1 q.1) }

pub dayfile_read :
    One dayfile'.read.ended dayfile.read.Reads.Asked dayfile.read.Reads.Learnt
dayfile_read _ = record { nothing_asked = tt; one_answer = agree; one_left = λ p q. refl }

pub dayfile_read_before :
    One dayfile'.read_before.ended dayfile.read_before.Reads.Asked dayfile.read_before.Reads.Learnt
dayfile_read_before _ = record { nothing_asked = tt; one_answer = agree; one_left = λ p q. refl }

pub dayfile_part_from :
    OneBy dayfile'.part_from.ended dayfile.part_from.Reads.Asked dayfile.part_from.Reads.Learnt (λ lives. (λ x. x.now))
dayfile_part_from _ = record { nothing_asked = tt; one_answer = agree; one_left = λ p q. refl }

pub dayfile_part_before :
    OneBy dayfile'.part_before.ended dayfile.part_before.Reads.Asked dayfile.part_before.Reads.Learnt (λ lives. (λ x. x.now))
dayfile_part_before _ = record { nothing_asked = tt; one_answer = agree; one_left = λ p q. refl }

pub dayfile_write :
    One dayfile'.write.ended dayfile.write.Reads.Asked dayfile.write.Reads.Learnt
dayfile_write _ =
    record { nothing_asked = tt; one_answer = λ p q. agree p.0 q.0; one_left = λ p q. ap (λ b. (tt, (tt, (tt, (b, (tt, tt)))))) (agree p.1 q.1) }

-- script
pub script_survey_line :
    One script'.calls.survey_line.ended script.calls.survey_line.Reads.Asked script.calls.survey_line.Reads.Learnt
script_survey_line _ = record { nothing_asked = tt; one_answer = agree; one_left = λ p q. refl }

pub script_figures_line :
    One script'.calls.figures_line.ended script.calls.figures_line.Reads.Asked script.calls.figures_line.Reads.Learnt
script_figures_line _ = record { nothing_asked = tt; one_answer = agree; one_left = λ p q. refl }

pub script_is_hex :
    One script'.hex.is_hex.ended script.hex.is_hex.Reads.Asked script.hex.is_hex.Reads.Learnt
script_is_hex _ = record { nothing_asked = tt; one_answer = agree; one_left = λ p q. refl }

pub script_bytes :
    One script'.hex.bytes.ended script.hex.bytes.Reads.Asked script.hex.bytes.Reads.Learnt
script_bytes _ =
    record { nothing_asked = tt; one_answer = λ p q. agree p.0 q.0; one_left = λ p q. ap (λ b. (tt, (b, tt))) (agree p.1 q.1) }

pub script_digits :
    One script'.hex.digits.ended script.hex.digits.Reads.Asked script.hex.digits.Reads.Learnt
script_digits _ =
    record { nothing_asked = tt; one_answer = λ p q. agree p.0 q.0; one_left = λ p q. ap (λ b. (tt, (b, tt))) (agree p.1 q.1) }

pub script_remark_text :
    One script'.remarks.remark_text.ended script.remarks.remark_text.Reads.Asked script.remarks.remark_text.Reads.Learnt
script_remark_text _ =
    record { nothing_asked = tt; one_answer = λ p q. agree p.0 q.0; one_left = λ p q. ap (λ b. (tt, (b, tt))) (agree p.1 q.1) }

pub script_buffer :
    One script'.text.script_buffer.ended script.text.script_buffer.Reads.Asked script.text.script_buffer.Reads.Learnt
script_buffer _ = record { nothing_asked = tt; one_answer = λ p q. agree p.0 q.0; one_left = λ p q. refl }

pub script_part_at :
    OneBy script'.words.part_at.ended script.words.part_at.Reads.Asked script.words.part_at.Reads.Learnt (λ lives. (λ x. x.now))
script_part_at _ = record { nothing_asked = tt; one_answer = agree; one_left = λ p q. refl }

pub script_marks :
    One script'.words.marks.ended script.words.marks.Reads.Asked script.words.marks.Reads.Learnt
script_marks _ = record { nothing_asked = tt; one_answer = agree; one_left = λ p q. refl }

pub script_word :
    OneBy script'.words.word.ended script.words.word.Reads.Asked script.words.word.Reads.Learnt (λ lives. (λ x. x.now))
script_word _ = record { nothing_asked = tt; one_answer = agree; one_left = λ p q. refl }

pub script_same :
    One script'.words.same.ended script.words.same.Reads.Asked script.words.same.Reads.Learnt
script_same _ = record { nothing_asked = tt; one_answer = agree; one_left = λ p q. refl }

pub script_number_in :
    One script'.words.number_in.ended script.words.number_in.Reads.Asked script.words.number_in.Reads.Learnt
script_number_in _ = record { nothing_asked = tt; one_answer = agree; one_left = λ p q. refl }

pub script_value_in :
    One script'.words.value_in.ended script.words.value_in.Reads.Asked script.words.value_in.Reads.Learnt
script_value_in _ = record { nothing_asked = tt; one_answer = agree; one_left = λ p q. refl }

pub script_id_in :
    One script'.words.id_in.ended script.words.id_in.Reads.Asked script.words.id_in.Reads.Learnt
script_id_in _ = record { nothing_asked = tt; one_answer = agree; one_left = λ p q. refl }

pub script_code_in :
    One script'.words.code_in.ended script.words.code_in.Reads.Asked script.words.code_in.Reads.Learnt
script_code_in _ = record { nothing_asked = tt; one_answer = agree; one_left = λ p q. refl }

pub script_measure_in :
    One script'.words.measure_in.ended script.words.measure_in.Reads.Asked script.words.measure_in.Reads.Learnt
script_measure_in _ = record { nothing_asked = tt; one_answer = agree; one_left = λ p q. refl }

pub script_size_in :
    One script'.words.size_in.ended script.words.size_in.Reads.Asked script.words.size_in.Reads.Learnt
script_size_in _ = record { nothing_asked = tt; one_answer = agree; one_left = λ p q. refl }

pub script_is_empty_list :
    One script'.words.is_empty_list.ended script.words.is_empty_list.Reads.Asked script.words.is_empty_list.Reads.Learnt
script_is_empty_list _ = record { nothing_asked = tt; one_answer = agree; one_left = λ p q. refl }

pub script_measures :
    One script'.words.measures.ended script.words.measures.Reads.Asked script.words.measures.Reads.Learnt
script_measures _ =
    record { nothing_asked = tt; one_answer = λ p q. agree p.0 q.0; one_left = λ p q. ap (λ b. (tt, (b, tt))) (agree p.1 q.1) }

-- listing
pub listing_list :
    One listing'.list.ended listing.list.Reads.Asked listing.list.Reads.Learnt
listing_list _ = record { nothing_asked = tt; one_answer = agree; one_left = λ p q. refl }

-- fummidrake
pub fummidrake_open :
    One fummidrake'.fummidrake_open.ended fummidrake.fummidrake_open.Reads.Asked fummidrake.fummidrake_open.Reads.Learnt
fummidrake_open _ = record { nothing_asked = tt; one_answer = agree; one_left = λ p q. refl }

pub fummidrake_enter :
    One fummidrake'.fummidrake_enter.ended fummidrake.fummidrake_enter.Reads.Asked fummidrake.fummidrake_enter.Reads.Learnt
fummidrake_enter _ = record { nothing_asked = tt; one_answer = agree; one_left = λ p q. refl }

pub fummidrake_enter_tank :
    One fummidrake'.fummidrake_enter_tank.ended fummidrake.fummidrake_enter_tank.Reads.Asked fummidrake.fummidrake_enter_tank.Reads.Learnt
fummidrake_enter_tank _ = record { nothing_asked = tt; one_answer = agree; one_left = λ p q. refl }

pub fummidrake_withdraw :
    One fummidrake'.fummidrake_withdraw.ended fummidrake.fummidrake_withdraw.Reads.Asked fummidrake.fummidrake_withdraw.Reads.Learnt
fummidrake_withdraw _ = record { nothing_asked = tt; one_answer = agree; one_left = λ p q. refl }

pub fummidrake_mark :
    One fummidrake'.fummidrake_mark.ended fummidrake.fummidrake_mark.Reads.Asked fummidrake.fummidrake_mark.Reads.Learnt
fummidrake_mark _ = record { nothing_asked = tt; one_answer = agree; one_left = λ p q. refl }

pub fummidrake_undo :
    One fummidrake'.fummidrake_undo.ended fummidrake.fummidrake_undo.Reads.Asked fummidrake.fummidrake_undo.Reads.Learnt
fummidrake_undo _ = record { nothing_asked = tt; one_answer = agree; one_left = λ p q. refl }

pub fummidrake_redo :
    One fummidrake'.fummidrake_redo.ended fummidrake.fummidrake_redo.Reads.Asked fummidrake.fummidrake_redo.Reads.Learnt
fummidrake_redo _ = record { nothing_asked = tt; one_answer = agree; one_left = λ p q. refl }

pub fummidrake_counts :
    One fummidrake'.fummidrake_counts.ended fummidrake.fummidrake_counts.Reads.Asked fummidrake.fummidrake_counts.Reads.Learnt
fummidrake_counts _ = record { nothing_asked = tt; one_answer = agree; one_left = λ p q. refl }

pub fummidrake_report :
    One fummidrake'.fummidrake_report.ended fummidrake.fummidrake_report.Reads.Asked fummidrake.fummidrake_report.Reads.Learnt
fummidrake_report _ = record { nothing_asked = tt; one_answer = agree; one_left = λ p q. refl }

pub fummidrake_is_open :
    One fummidrake'.fummidrake_is_open.ended fummidrake.fummidrake_is_open.Reads.Asked fummidrake.fummidrake_is_open.Reads.Learnt
fummidrake_is_open _ = record { nothing_asked = tt; one_answer = agree; one_left = λ p q. refl }

pub fummidrake_tonnage_length :
    One fummidrake'.fummidrake_tonnage_length.ended fummidrake.fummidrake_tonnage_length.Reads.Asked fummidrake.fummidrake_tonnage_length.Reads.Learnt
fummidrake_tonnage_length _ = record { nothing_asked = tt; one_answer = agree; one_left = λ p q. refl }

pub fummidrake_vessel :
    One fummidrake'.fummidrake_vessel.ended fummidrake.fummidrake_vessel.Reads.Asked fummidrake.fummidrake_vessel.Reads.Learnt
fummidrake_vessel _ = record { nothing_asked = tt; one_answer = agree; one_left = λ p q. refl }

pub fummidrake_standing_count :
    One fummidrake'.fummidrake_standing_count.ended fummidrake.fummidrake_standing_count.Reads.Asked fummidrake.fummidrake_standing_count.Reads.Learnt
fummidrake_standing_count _ = record { nothing_asked = tt; one_answer = agree; one_left = λ p q. refl }

pub fummidrake_space_at :
    One fummidrake'.fummidrake_space_at.ended fummidrake.fummidrake_space_at.Reads.Asked fummidrake.fummidrake_space_at.Reads.Learnt
fummidrake_space_at _ = record { nothing_asked = tt; one_answer = agree; one_left = λ p q. refl }

pub fummidrake_stations :
    One fummidrake'.fummidrake_stations.ended fummidrake.fummidrake_stations.Reads.Asked fummidrake.fummidrake_stations.Reads.Learnt
fummidrake_stations _ = record { nothing_asked = tt; one_answer = agree; one_left = λ p q. refl }

pub fummidrake_breadths_at_station :
    One fummidrake'.fummidrake_breadths_at_station.ended fummidrake.fummidrake_breadths_at_station.Reads.Asked fummidrake.fummidrake_breadths_at_station.Reads.Learnt
fummidrake_breadths_at_station _ = record { nothing_asked = tt; one_answer = agree; one_left = λ p q. refl }

pub fummidrake_lay_out :
    One fummidrake'.fummidrake_lay_out.ended fummidrake.fummidrake_lay_out.Reads.Asked fummidrake.fummidrake_lay_out.Reads.Learnt
fummidrake_lay_out _ = record { nothing_asked = tt; one_answer = agree; one_left = λ p q. refl }

pub fummidrake_section_station :
    One fummidrake'.fummidrake_section_station.ended fummidrake.fummidrake_section_station.Reads.Asked fummidrake.fummidrake_section_station.Reads.Learnt
fummidrake_section_station _ = record { nothing_asked = tt; one_answer = agree; one_left = λ p q. refl }

pub fummidrake_write :
    One fummidrake'.fummidrake_write.ended fummidrake.fummidrake_write.Reads.Asked fummidrake.fummidrake_write.Reads.Learnt
fummidrake_write _ =
    record { nothing_asked = tt; one_answer = λ p q. agree p.0 q.0; one_left = λ p q. ap (λ b. (tt, (tt, (tt, (b, (tt, tt)))))) (agree p.1 q.1) }

pub fummidrake_read :
    One fummidrake'.fummidrake_read.ended fummidrake.fummidrake_read.Reads.Asked fummidrake.fummidrake_read.Reads.Learnt
fummidrake_read _ = record { nothing_asked = tt; one_answer = agree; one_left = λ p q. refl }

pub fummidrake_read_before :
    One fummidrake'.fummidrake_read_before.ended fummidrake.fummidrake_read_before.Reads.Asked fummidrake.fummidrake_read_before.Reads.Learnt
fummidrake_read_before _ = record { nothing_asked = tt; one_answer = agree; one_left = λ p q. refl }

pub fummidrake_move_last :
    One fummidrake'.fummidrake_move_last.ended fummidrake.fummidrake_move_last.Reads.Asked fummidrake.fummidrake_move_last.Reads.Learnt
fummidrake_move_last _ =
    record { nothing_asked = tt; one_answer = λ p q. agree p.0 q.0; one_left = λ p q. ap (λ b. (tt, (tt, (b, (tt, tt))))) (agree p.1 q.1) }

pub fummidrake_list :
    One fummidrake'.fummidrake_list.ended fummidrake.fummidrake_list.Reads.Asked fummidrake.fummidrake_list.Reads.Learnt
fummidrake_list _ = record { nothing_asked = tt; one_answer = agree; one_left = λ p q. refl }
