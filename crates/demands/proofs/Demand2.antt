-- Demand 2: "Each space's tonnage is the one that 46 CFR 69.107 to 69.119 gives from the offsets, as document 01 condenses them, to the
-- nearest hundredth of a ton, and gross and net follow from them. A sheet written and read back has the same spaces in the same order;
-- the sheet read from a file, written again with its mark, gives the bytes it was read from."
-- Stands on Reached. t is the tonnage length and l the space's length; parts, multipliers and areas are defined in measure/specs.
use Rattle.std.proofs.Common.{ℕ, ◌+◌, ◌*◌, ◌≤◌, ◌<◌, ◌≡◌, refl, sym, ap, ◌∙◌, true, false, not, List, [], ◌∷◌, ◌++◌, arith, eq-eqb, ne_eqb, eqb-true, le-leb, eqb, length, take, drop}
use borrow.Author.Tests.{not-true, not-false, eqb-false}
use Rattle.measure.specs.Kinds.{kind_of}
use Rattle.measure.specs.Rounding.{Nearest}
use Rattle.measure.specs.Parts.{table_parts, under_deck_parts, depth_parts, superstructure_parts, NearestEven}
use Rattle.measure.specs.Thirds.{third_of_length, third_of_depth, rounding_of_length, rounding_of_depth, Rounded, SignSays, divided}
use Rattle.measure.specs.Multipliers.{weighted, total}
use Rattle.measure.specs.Ends.{section_areas, ends_of}
use Rattle.measure.specs.Sections.{layout_of, doubled}
use Rattle.measure.specs.Tanks.{taken, passes_end, has_m, tank_volume, measured_tank}
use Rattle.measure.specs.Volumes.{tons, areas, under_deck_volume, level_volume, box_volume}
use Rattle.measure.specs.Offsets.{middle_of, volume, tonnage, measured}
use Rattle.measure.specs.Roundings.{PlaceByPlace, no_depths, passed_on, no_roundings, measured_offsets}
use Rattle.measure.specs.declared.units.Hundredths.{Hundredths}
use Rattle.measure.specs.declared.kinds.Kind.{Kind}
use Rattle.measure.specs.declared.offsets.Measured.{Measured}
use Rattle.measure.specs.declared.kinds.Kind.TheVariants.{UnderDeck, BetweenDeck, Superstructure, Hatchway, Room, NoKind}
use Rattle.measure.proofs.Laws.Tests.{and_left, and_right}
use Rattle.measure.proofs.Laws.Parts.{least, table_even, under_deck_even, superstructure_even}
use Rattle.measure.proofs.Laws.Roundings.{measured_of, roundings_of}
use Rattle.measure_laws.proofs.Rounding.{nearest_is}
use Rattle.measure_laws.proofs.Roundings.{rounded_is, sign_says, length_passed_on, length_alone, depths_passed_on_lem, none_passed_on}
use Rattle.measure_laws.proofs.Parts.{nearest_parts_is}
use Rattle.measure_laws.specs.Tanks.{AnsweredTank, with_2, with_9, with_29, with_3, with_0}
use Rattle.measure_laws.proofs.Offsets.{measured_exactly}
use Rattle.measure_laws.proofs.Ends.{ends_are, accepted_sections, ends_weigh}
use Rattle.measure_laws.proofs.Tanks.{measured_tank_is, measured_tank_only}
use Rattle.spaces.specs.Row.{sum_of}
use Rattle.spaces.specs.declared.space.Space.{Space}
use Rattle.spaces.proofs.Laws.Cases.{by_test}
use Rattle.standard.specs.Rules.{entry_number}
use Rattle.standard.specs.Tanks.{under_deck_with}
use Rattle.standard.specs.Records.{misrecorded}
use Rattle.standard.specs.Machinery.{engine_room_deduction}
use Rattle.standard.specs.Gross.{gross, deductions}
use Rattle.spaces.specs.declared.sums.Amount.TheVariants.{Machinery}
use Rattle.spaces_laws.proofs.Valid.{valid_is_sound}
use Rattle.spaces_laws.proofs.Machinery.{deduction_exactly}
use Rattle.spaces_laws.proofs.Report.{net_and_deductions, gross_exactly}
use Rattle.spaces_laws.proofs.Tests.{and_fails}
use Rattle.spaces_laws.proofs.Tanks.{facts_of_tank, measurable_there, tank_is_room}
use Rattle.sheet.specs.Sheet.{standing}
use Rattle.sheet.specs.Changes.{fitted, noted}
use Rattle.sheet.specs.Calls.{changed, entry_of, space_of, entered, entering, reported}
use Rattle.sheet.specs.Tanks.{tank_of, tank_in, tank_entered}
use Rattle.sheet.specs.declared.sheet.Sheet.{Sheet}
use Rattle.sheet.specs.declared.calls.Entry.{Entry}
use Rattle.sheet.specs.declared.tanks.Tank.{Tank}
use Rattle.sheet.specs.declared.changes.Change.TheVariants.{Entered}
use Rattle.sheet.proofs.Laws.Report.{given}
use Rattle.sheet_laws.proofs.History.{stand_in_places}
use Rattle.sheet_laws.proofs.Runs.{handed_next}
use Rattle.sheet_laws.proofs.Resumable.{resumable_entered, entry_well_recorded, tank_well_recorded}
use Rattle.sheet_laws.proofs.Accepted.{enter_accepted, tank_accepted, a_room}
use Rattle.sheet_laws.proofs.Ends.{no_area}
use Rattle.dayfile.specs.Numbers.{Bytes}
use Rattle.dayfile.specs.Forms.{is_form, form_of}
use Rattle.dayfile.specs.Trailer.{sheet_size}
use Rattle.dayfile.specs.Writing.{sheet_bytes, loses_number, written, written_into}
use Rattle.dayfile.specs.Reading.{accepted_reading, read_of}
use Rattle.dayfile.specs.Moving.{moved, moved_into}
use Rattle.dayfile_laws.specs.Writing.{Untouched, Writes, Zeros}
use Rattle.dayfile_laws.specs.Moving.{Moves, file_moved}
use Rattle.dayfile_laws.specs.Reading.{ReadBack}
use Rattle.dayfile_laws.specs.Day.{Writable}
use Rattle.dayfile_laws.proofs.Forms.{size_of_1, size_of_2}
use Rattle.dayfile_laws.proofs.Lost.{kept_in_form_1, kept_in_form_2}
use Rattle.dayfile_laws.proofs.Writing.{write_accepted, puts_its_bytes}
use Rattle.dayfile_laws.proofs.WrittenRead.{has_places, length_bytes, has_read_back, written_anywhere}
use Rattle.dayfile_laws.proofs.ReadWritten.{written_back}
use Rattle.dayfile_laws.proofs.Moving.{move_accepted, others_untouched, moved_then_read, moved_is_copy, zeros_in_form_1, moves_up, there_and_back}
use Rattle.demands.specs.Reached.{Reached}
use Rattle.demands.specs.Figures.{EnteredLast, PassesOn, unless_pointed, PointedEnds, TankEnteredLast, GrossAndNet}
use Rattle.demands.proofs.Reached.{reached_resumable}

-- ---- third intervals and parts

-- "Third interval of a length L in n parts: 10L/(3n), nearest."
pub third_of_length_lem : (l : Hundredths) (n : ℕ) → 0 < n → Nearest (10 * l.0) (3 * n) (third_of_length l n).0
unfolding third_of_length
third_of_length_lem l n some-parts = nearest_is (10 * l.0) (3 * n) (omega arith)

-- "Of a depth D in m parts: D/(3m), nearest."
pub third_of_depth_lem : (d : Hundredths) (m : ℕ) → 0 < m → Nearest d.0 (3 * m) (third_of_depth d m).0
unfolding third_of_depth
third_of_depth_lem d m some-parts = nearest_is d.0 (3 * m) (omega arith)

-- T-04: "Each third interval now also gives its rounding, as a signed number of parts of its exact divisor: above zero when rounded up, zero
-- when exact, else below." It is over minus a half and at most a half of the divisor, and with it the exact fraction comes back.
pub rounding_of_length_lem : (l : Hundredths) (n : ℕ) → 0 < n
    → let third = (third_of_length l n).0 in
    let z = rounding_of_length l n in
    Rounded (10 * l.0) (3 * n) third z × SignSays (10 * l.0) (3 * n) third z
unfolding third_of_length rounding_of_length
rounding_of_length_lem l n some-parts = (rounded_is (10 * l.0) (3 * n) (omega arith), sign_says (10 * l.0) (3 * n) (omega arith))

pub rounding_of_depth_lem : (d : Hundredths) (m : ℕ) → 0 < m
    → let third = (third_of_depth d m).0 in
    let z = rounding_of_depth d m in
    Rounded d.0 (3 * m) third z × SignSays d.0 (3 * m) third z
unfolding third_of_depth rounding_of_depth
rounding_of_depth_lem d m some-parts = (rounded_is d.0 (3 * m) (omega arith), sign_says d.0 (3 * m) (omega arith))

-- "An S takes the even number from 2 to 16 whose interval is nearest, as exact fractions, to the tonnage length divided by its number;
-- on a tie, the greater number."
pub parts_of_S : (t l : Hundredths) → NearestEven t (table_parts t) l (superstructure_parts t l)
unfolding superstructure_parts
parts_of_S t l = nearest_parts_is t (table_parts t) l

-- ---- tonnages

-- every volume is a fraction
some_under : (k : Kind) (t l : Hundredths) (hs bs : List ℕ) → 0 < (volume k t l hs bs).under
unfolding under_deck_volume level_volume box_volume
some_under UnderDeck t l hs bs = omega arith
some_under BetweenDeck t l hs bs = omega arith
some_under Superstructure t l hs bs = omega arith
some_under Hatchway t l hs bs = omega arith
some_under Room t l hs bs = omega arith
some_under NoKind t l hs bs = omega arith

-- "A space's tonnage is rounded once, from the exact fraction that its offsets and the rounded third intervals give."
pub rounded_once : (code : ℕ) (t l : Hundredths) (hs bs : List ℕ) → (measured code t l hs bs).number ≡ 0
    → let v = volume (kind_of code) t l hs bs in Nearest v.over v.under (measured code t l hs bs).tonnage
unfolding tonnage tons
rounded_once code t l hs bs z =
    let k = kind_of code in
    let m = measured_exactly code t l hs bs in
    let (ranged, numbered) = m.only_0 z in
    rw (m.with_0 ranged numbered) (nearest_is (volume k t l hs bs).over (volume k t l hs bs).under (some_under k t l hs bs))

-- U: "Station area: [the breadths with their multipliers;] the sum times that station's third interval of depth. The same multipliers
-- over the areas, times the third interval of length, give the volume." "The depth at the middle station fixes m for all stations".
pub tonnage_of_U : (t l : Hundredths) (depths breadths : List ℕ) → (measured 1 t l depths breadths).number ≡ 0
    → let n = under_deck_parts t l in
    let m = depth_parts (middle_of depths) in
    Nearest (weighted n (areas m depths breadths) * (third_of_length l n).0) (100 * 100 * 1000) (measured 1 t l depths breadths).tonnage
unfolding kind_of under_deck_volume
tonnage_of_U t l depths breadths z = rounded_once 1 t l depths breadths z

-- B: "The multipliers over the breadths, times the third interval of length, give an area; times the plain mean of the heights gives
-- the volume." "A B takes the number that the table gives the tonnage length."
pub tonnage_of_B : (t l : Hundredths) (heights breadths : List ℕ) → (measured 2 t l heights breadths).number ≡ 0
    → let n = table_parts t in
    Nearest (weighted n breadths * (third_of_length l n).0 * total heights) (100 * 100 * 1000 * (n + 1)) (measured 2 t l heights breadths).tonnage
unfolding kind_of level_volume
tonnage_of_B t l heights breadths z = rounded_once 2 t l heights breadths z

-- S: the same with its own number of parts
pub tonnage_of_S : (t l : Hundredths) (heights breadths : List ℕ) → (measured 3 t l heights breadths).number ≡ 0
    → let n = superstructure_parts t l in
    Nearest (weighted n breadths * (third_of_length l n).0 * total heights) (100 * 100 * 1000 * (n + 1)) (measured 3 t l heights breadths).tonnage
unfolding kind_of level_volume
tonnage_of_S t l heights breadths z = rounded_once 3 t l heights breadths z

-- H and R: "Length times breadth times height." With any other number of heights or breadths they are refused with 3.
pub tonnage_of_H : (t l : Hundredths) (height breadth : ℕ) → (measured 4 t l (height ∷ []) (breadth ∷ [])).number ≡ 0
    → Nearest (l.0 * breadth * height) (100 * 100 * 100) (measured 4 t l (height ∷ []) (breadth ∷ [])).tonnage
unfolding kind_of box_volume
tonnage_of_H t l height breadth z = rounded_once 4 t l (height ∷ []) (breadth ∷ []) z

pub tonnage_of_R : (t l : Hundredths) (height breadth : ℕ) → (measured 5 t l (height ∷ []) (breadth ∷ [])).number ≡ 0
    → Nearest (l.0 * breadth * height) (100 * 100 * 100) (measured 5 t l (height ∷ []) (breadth ∷ [])).tonnage
unfolding kind_of box_volume
tonnage_of_R t l height breadth z = rounded_once 5 t l (height ∷ []) (breadth ∷ []) z

-- a tank: "Its length is divided as an S is, with that U's interval as the reference", of a U of the length u
pub parts_of_tank : (t u l f : Hundredths) → NearestEven u (under_deck_parts t u) l (layout_of t u l f).p
unfolding layout_of
parts_of_tank t u l f = nearest_parts_is u (under_deck_parts t u) l

-- "A section's area is a station's area with the U's m. Of two at one station the larger area is taken"; "the multipliers over the p+1
-- areas, times the third interval of the tank's length in p parts; rounded once". `doubled` says which stations have two sections.
pub tonnage_of_tank : (t u : Hundredths) (m : ℕ) (l f : Hundredths) (depths breadths : List ℕ) → (measured_tank t u m l f depths breadths).number ≡ 0
    → let a = layout_of t u l f in
    Nearest (weighted a.p (taken (doubled a) (areas m depths breadths)) * (third_of_length l a.p).0) (100 * 100 * 1000)
    (measured_tank t u m l f depths breadths).tonnage
unfolding layout_of tank_volume tons
tonnage_of_tank t u m l f depths breadths z = by (measured_tank_is t u m l f depths breadths) z
  where
    by : {r : Measured} → AnsweredTank t u m l f depths breadths r → r.number ≡ 0
        → let a = layout_of t u l f in
        Nearest (weighted a.p (taken (doubled a) (areas m depths breadths)) * (third_of_length l a.p).0) (100 * 100 * 1000) r.tonnage
    by (with_2 _) e = absurd (omega arith)
    by (with_9 _ _) e = absurd (omega arith)
    by (with_29 _ _ _) e = absurd (omega arith)
    by (with_3 _ _ _ _) e = absurd (omega arith)
    by (with_0 _ _ _ _) e = nearest_is _ (100 * 100 * 1000) (omega arith)

-- ---- what the rounding did (T-04)

-- "Tonnages don't change."
pub same_tonnage : (code : ℕ) (t l : Hundredths) (hs bs : List ℕ) → (measured_offsets code t l hs bs).measured ≡ measured code t l hs bs
same_tonnage = measured_of

-- "Each U, B and S passes on the rounding of its length, a U also that of every station's depth."
pub passed_on_by_U : (t l : Hundredths) (depths breadths : List ℕ) → (measured 1 t l depths breadths).number ≡ 0
    → let r = (measured_offsets 1 t l depths breadths).roundings in
    (r.length ≡ rounding_of_length l (under_deck_parts t l)) × PlaceByPlace (depth_parts (middle_of depths)) depths r.depths
unfolding kind_of
passed_on_by_U t l depths breadths z =
    let some : 0 < under_deck_parts t l = omega (arith, least (under_deck_even t l)) in
    rw (roundings_of 1 t l depths breadths z) (length_passed_on UnderDeck t l depths some, depths_passed_on_lem t l depths breadths z)

pub passed_on_by_B : (t l : Hundredths) (heights breadths : List ℕ) → (measured 2 t l heights breadths).number ≡ 0
    → (measured_offsets 2 t l heights breadths).roundings ≡ record { length = rounding_of_length l (table_parts t); depths = no_depths }
unfolding kind_of
passed_on_by_B t l heights breadths z =
    roundings_of 2 t l heights breadths z ∙ length_alone BetweenDeck t l heights refl (omega (arith, least (table_even t)))

pub passed_on_by_S : (t l : Hundredths) (heights breadths : List ℕ) → (measured 3 t l heights breadths).number ≡ 0
    → (measured_offsets 3 t l heights breadths).roundings ≡ record { length = rounding_of_length l (superstructure_parts t l); depths = no_depths }
unfolding kind_of
passed_on_by_S t l heights breadths z =
    roundings_of 3 t l heights breadths z ∙ length_alone Superstructure t l heights refl (omega (arith, least (superstructure_even t l)))

-- an H or R none, which isn't divided
none_of : (code : ℕ) (t l : Hundredths) (hs bs : List ℕ) → passed_on (kind_of code) t l hs ≡ no_roundings → (measured_offsets code t l hs bs).roundings ≡ no_roundings
none_of code t l hs bs none =
    by_test (eqb (measured code t l hs bs).number 0)
    (λ z. roundings_of code t l hs bs (eqb-true _ 0 z) ∙ none)
    (λ some. none_passed_on code t l hs bs (eqb-false _ 0 some))

pub none_by_H : (t l : Hundredths) (heights breadths : List ℕ) → (measured_offsets 4 t l heights breadths).roundings ≡ no_roundings
unfolding kind_of passed_on divided
none_by_H t l heights breadths = none_of 4 t l heights breadths refl

pub none_by_R : (t l : Hundredths) (heights breadths : List ℕ) → (measured_offsets 5 t l heights breadths).roundings ≡ no_roundings
unfolding kind_of passed_on divided
none_by_R t l heights breadths = none_of 5 t l heights breadths refl

-- and refused offsets none
pub none_where_refused : (code : ℕ) (t l : Hundredths) (hs bs : List ℕ) → ((measured code t l hs bs).number ≡ 0 → ⊥)
    → (measured_offsets code t l hs bs).roundings ≡ no_roundings
none_where_refused = none_passed_on

-- on a sheet too
pub entering_passes_on : (s : Sheet) (e : Entry) (heights breadths : List ℕ) → PassesOn s e heights breadths
unfolding entering
entering_passes_on s e heights breadths =
    record {
      same_number = refl;
      same_sheet = refl;
      accepted = λ z. rw (eq-eqb _ 0 z) (sym (roundings_of e.kind s.length e.length heights breadths (enter_accepted s e heights breadths z).offsets));
      refused = λ some. rw (ne_eqb _ 0 some);
    }

-- ---- on a sheet

-- a space that the rules accept is put last
put_last : {s : Sheet} → Reached s → (x : Space) → misrecorded x ≡ false → entry_number s.length (standing s) x ≡ 0
    → standing (changed (Entered x) s) ≡ standing s ++ (x ∷ [])
unfolding fitted noted
put_last {s} r x well accepted =
    let fits = (valid_is_sound (resumable_entered x (reached_resumable r).resumable well accepted).valid).at_most_200 in
    rw (le-leb (length (standing s ++ (x ∷ []))) 200 fits) (stand_in_places (standing s ++ (x ∷ [])) s)

-- an accepted entry puts the space with its tonnage last
pub entered_last : {s : Sheet} → Reached s → (e : Entry) (heights breadths : List ℕ) → (entered s e heights breadths).number ≡ 0
    → EnteredLast s e heights breadths
unfolding entered entry_of
entered_last {s} r e heights breadths z =
    let x = space_of s.length e heights breadths in
    let accepted = enter_accepted s e heights breadths z in
    record {
      offsets_accepted = accepted.offsets;
      stands_last = ap standing (handed_next _ s _ z) ∙ put_last r x (entry_well_recorded s.length e heights breadths accepted.well_said accepted.offsets) accepted.number;
      with_its_tonnage = refl;
    }

-- "a pointed end must have area 0. .. Demand 2 reads with this rule": an accepted U with a pointed end has no area there, and its tonnage is
-- that of its other sections
pub pointed_ends : (s : Sheet) (e : Entry) (depths breadths : List ℕ) → (entered s e depths breadths).number ≡ 0 → e.kind ≡ 1
    → PointedEnds s e depths breadths
pointed_ends s e depths breadths z u =
    let t = s.length in
    let l = e.length in
    let n = under_deck_parts t l in
    let a = ends_of depths breadths in
    let (fore, aft) = no_area s e depths breadths z u in
    let offsets : (measured 1 t l depths breadths).number ≡ 0 = rw u at (enter_accepted s e depths breadths z).offsets in
    let (as_many, some) = accepted_sections t l depths breadths offsets in
    let sections = ends_are depths breadths some in
    let weigh = ends_weigh n (section_areas depths breadths) a sections as_many in
    record {
      none_fore = fore;
      none_aft = aft;
      sections = sections;
      other_sections =
          rw (unless_pointed_lem e.fore_end a.fore fore, unless_pointed_lem e.aft_end a.aft aft, ← weigh, u)
          (tonnage_of_U t l depths breadths offsets);
    }
  where
    unless_pointed_lem : (end area : ℕ) → (end ≡ 3 → area ≡ 0) → unless_pointed end area ≡ area
    unless_pointed_lem end area none = by_test (eqb end 3) (λ t. rw t (sym (none (eqb-true end 3 t)))) (λ f. rw f)

-- an accepted tank is put last too, inside its U
pub tank_entered_last : {s : Sheet} → Reached s → (k : Tank) (depths breadths : List ℕ) → (tank_entered s k depths breadths).number ≡ 0
    → TankEnteredLast s k depths breadths
unfolding tank_entered tank_of
tank_entered_last {s} r k depths breadths z =
    let L = s.length in
    let xs = standing s in
    let x = tank_in L xs k depths breadths in
    let room = a_room L xs k depths breadths in
    let accepted = tank_accepted s k depths breadths z in
    let facts = facts_of_tank L xs x k.fore room accepted.number in
    let last = tank_is_room L xs x k.fore room accepted.number in
    let u = under_deck_with k.within xs in
    let there = measurable_there facts in
    let known = and_left (has_m u.m) (not (passes_end u.length k.length k.fore)) there in
    let inside = not-true _ (and_right (has_m u.m) (not (passes_end u.length k.length k.fore)) there) in
    let complete = not-false _ (and_fails _ _ accepted.sections_right there) in
    let answer = measured_tank_only L u.length u.m k.length k.fore depths breadths _ (with_0 accepted.in_range inside known complete) in
    record {
      inside_its_U = facts;
      sections_accepted = sym (ap (λ (r : Measured). r.number) answer);
      stands_last = ap standing (handed_next _ s _ z) ∙ put_last r x (tank_well_recorded L xs k depths breadths accepted.well_said accepted.in_range) last;
      with_its_tonnage = refl;
    }

-- ---- "and gross and net follow from them"

pub gross_and_net : {s : Sheet} → Reached s → (justified : ℕ) → (reported s justified).number ≡ 0
    → GrossAndNet (standing s) (reported s justified).gross (reported s justified).net
unfolding deductions
gross_and_net {s} r justified z =
    let v = (reached_resumable r).resumable.valid in
    let told = given s justified (reported s justified) refl z in
    let xs = standing s in
    let m = sum_of Machinery xs in
    record {
      gross_is = (gross_exactly v (reported s justified).gross).0 (sym told.gross_is);
      deduction = engine_room_deduction m (gross xs);
      deduction_is = (deduction_exactly m (reported s justified).gross _).0 (ap (engine_room_deduction m) told.gross_is);
      net_is = omega (arith, told.net_is, told.gross_is, net_and_deductions xs told.none_pass);
    }

-- ---- both round trips, over the form

-- "A sheet written and read back has the same spaces in the same order": any sheet that calls can reach, in any form that is accepted, in
-- any buffer, at any place
pub written_and_read_back : {s : Sheet} → Reached s → (justified form at : ℕ) (buffer : List ℕ)
    → (written s justified form (length buffer) at).number ≡ 0
    → ReadBack s justified form at (read_of (take (at + (written s justified form (length buffer) at).bytes) (written_into s justified form at buffer)))
written_and_read_back {s} r justified form at buffer z =
    let a = write_accepted s justified form at buffer z in
    let w : Writable s justified form = record { sheet = reached_resumable r; reports = a.reports; known = a.known; none_lost = a.none_lost } in
    rw (written_anywhere s justified form at buffer w.sheet z) (has_read_back s justified form at w)

-- with its report and room, it is written in a form that loses no number of it
written_in : {s : Sheet} → Reached s → (justified form at : ℕ) (buffer : List ℕ) → (reported s justified).number ≡ 0 → is_form form ≡ true
    → loses_number (form_of form) s ≡ false → at + sheet_size (form_of form) s.count ≤ length buffer
    → Writes (sheet_bytes s justified form) s justified form at buffer
written_in {s} r justified form at buffer z known none_lost room =
    let w : Writable s justified form = record { sheet = reached_resumable r; reports = z; known = known; none_lost = none_lost } in
    puts_its_bytes s justified form at buffer z known none_lost (has_places s justified form w) (omega (arith, room, length_bytes s justified form w))

-- in form 2 nothing refuses it but its report and room
pub written_in_form_2 : {s : Sheet} → Reached s → (justified at : ℕ) (buffer : List ℕ) → (reported s justified).number ≡ 0
    → at + (20 * s.count + 32) ≤ length buffer → Writes (sheet_bytes s justified 2) s justified 2 at buffer
written_in_form_2 {s} r justified at buffer z room =
    written_in r justified 2 at buffer z refl (kept_in_form_2 s) (omega (arith, room, size_of_2 s.count))

-- in form 1 nothing but these, where its decks and its vessel number are 0
pub written_in_form_1 : {s : Sheet} → Reached s → (justified at : ℕ) (buffer : List ℕ) → (reported s justified).number ≡ 0
    → at + (16 * s.count + 28) ≤ length buffer → Zeros s → Writes (sheet_bytes s justified 1) s justified 1 at buffer
written_in_form_1 {s} r justified at buffer z room zeros =
    written_in r justified 1 at buffer z refl ((kept_in_form_1 s).1 zeros) (omega (arith, room, size_of_1 s.count))

-- and there only: what is written in form 1 has no deck and no vessel number
pub only_zeros_written_in_form_1 : (s : Sheet) (justified at : ℕ) (buffer : List ℕ) → (written s justified 1 (length buffer) at).number ≡ 0 → Zeros s
only_zeros_written_in_form_1 s justified at buffer z = (kept_in_form_1 s).0 (write_accepted s justified 1 at buffer z).none_lost

-- "the sheet read from a file, written again with its mark, gives the bytes it was read from", and "that is in the form it was read in": any
-- bytes, wherever there is room
pub read_and_written_again : (file : List ℕ) → Bytes file → (read_of file).number ≡ 0 → (at : ℕ) (buffer : List ℕ)
    → at + length (drop (read_of file).start file) ≤ length buffer
    → Writes (drop (read_of file).start file) (read_of file).sheet (read_of file).justified (read_of file).form at buffer
read_and_written_again file bytes z at buffer room = written_back file z bytes at buffer room

-- ---- moves (T-05)

-- "A move reads the last sheet of one buffer and writes it at a named place in another": what it leaves there is read as the same sheet, with
-- its mark, in the form named
pub moved_and_read : (file : List ℕ) → Bytes file → (form at : ℕ) (buffer : List ℕ) → (moved file form (length buffer) at).number ≡ 0
    → read_of (file_moved file form at buffer) ≡ accepted_reading (read_of file).sheet (read_of file).justified at form
moved_and_read file bytes form at buffer z = moved_then_read file bytes (move_accepted file form at buffer z).is_read form at buffer z

-- "a move in the form it has is a copy of the last sheet's bytes"
pub move_is_copy : (file : List ℕ) → Bytes file → (read_of file).number ≡ 0 → (at : ℕ) (buffer : List ℕ)
    → at + length (drop (read_of file).start file) ≤ length buffer → Moves (drop (read_of file).start file) file (read_of file).form at buffer
move_is_copy = moved_is_copy

-- "Moving a form 1 sheet up gives zeros"
pub up_gives_zeros : (file : List ℕ) → Bytes file → (read_of file).form ≡ 1 → (at : ℕ) (buffer : List ℕ) → (moved file 2 (length buffer) at).number ≡ 0
    → Zeros (read_of (file_moved file 2 at buffer)).sheet
up_gives_zeros file bytes one at buffer z =
    rw (moved_and_read file bytes 2 at buffer z) (zeros_in_form_1 file bytes (move_accepted file 2 at buffer z).is_read one)

-- nothing but reading and room refuses a move into form 2, and it puts there the bytes of the sheet that was read, in form 2
pub move_up : (file : List ℕ) → Bytes file → (read_of file).number ≡ 0 → (at : ℕ) (buffer : List ℕ)
    → at + length (sheet_bytes (read_of file).sheet (read_of file).justified 2) ≤ length buffer
    → Moves (sheet_bytes (read_of file).sheet (read_of file).justified 2) file 2 at buffer
move_up = moves_up

-- "and up and back gives the bytes again", from any form into any other and back
pub up_and_back : (file : List ℕ) → Bytes file → (read_of file).number ≡ 0 → (form at : ℕ) (buffer : List ℕ) → (moved file form (length buffer) at).number ≡ 0
    → (back_at : ℕ) (other : List ℕ) → back_at + length (drop (read_of file).start file) ≤ length other
    → Moves (drop (read_of file).start file) (file_moved file form at buffer) (read_of file).form back_at other
up_and_back = there_and_back

-- what is moved into form 1 has no deck and no vessel number
pub only_zeros_moved_into_form_1 : (file : List ℕ) (at : ℕ) (buffer : List ℕ) → (moved file 1 (length buffer) at).number ≡ 0 → Zeros (read_of file).sheet
only_zeros_moved_into_form_1 file at buffer z = (kept_in_form_1 (read_of file).sheet).0 (move_accepted file 1 at buffer z).none_lost

-- no byte of the other buffer is touched but those that it answers; refused, none
pub move_touches_no_others : (file : List ℕ) → Bytes file → (form at : ℕ) (buffer : List ℕ)
    → Untouched at (moved file form (length buffer) at).bytes buffer (moved_into file form at buffer)
move_touches_no_others = others_untouched
