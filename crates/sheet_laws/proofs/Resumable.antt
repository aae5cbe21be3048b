-- Spaces that `resume` accepts: a valid sheet, and no record that no entry could have made. An accepted entry, withdrawal and mark
-- leave such spaces.
use Rattle.std.proofs.Common.{ℕ, ◌≡◌, refl, sym, ap, ◌∙◌, true, false, not, ◌&&◌, List, [], ◌∷◌, ◌++◌, ◌↔◌, ⊎_elim, arith, eqb-true, eq-eqb, le-ltb, eqb, ltb}
use mathlib.Core.List.Memᴰ
use borrow.Author.Tests.{eqb-false}
use Rattle.measure.specs.Kinds.{kind_of, is_kind}
use Rattle.measure.specs.Ranges.{includes, includes_all, tonnage_lengths, lengths, fores, heights, breadths}
use Rattle.measure.specs.Offsets.{in_range, measured}
use Rattle.measure.specs.Tanks.{tank_in_range}
use Rattle.measure.specs.declared.units.Hundredths.{Hundredths}
use Rattle.measure.specs.declared.kinds.Kind.TheVariants.{UnderDeck, Room}
use Rattle.measure.proofs.Laws.Tests.{and_left, and_right}
use Rattle.measure_laws.proofs.Offsets.{measured_exactly, measured_at_most}
use Rattle.measure_laws.proofs.Tanks.{measured_tank_at_most}
use Rattle.spaces.specs.Space.{all_recorded}
use Rattle.spaces.specs.declared.space.Space.{Space}
use Rattle.standard.specs.Standings.{greatest_standing}
use Rattle.standard.specs.Rules.{entry_tests, entry_number, withdraw_number, mark_number}
use Rattle.standard.specs.Tanks.{under_deck_with}
use Rattle.standard.specs.Valid.{ValidFrom, done, next}
use Rattle.spaces.proofs.Laws.Cases.{by_test, or_fails}
use Rattle.spaces_laws.proofs.Tests.{or_fails_of}
use Rattle.spaces_laws.specs.Above.{◌∈◌}
use Rattle.spaces_laws.proofs.Lists.{all_snoc}
use Rattle.spaces_laws.proofs.Valid.{valid_entered}
use Rattle.spaces_laws.proofs.Recorded.{recorded_twice, first_refused_recorded}
use Rattle.spaces_laws.specs.Changes.{without, marking, marked}
use Rattle.spaces_laws.proofs.Withdraw.{withdrawal_by_id_keeps_valid}
use Rattle.spaces_laws.proofs.Mark.{mark_by_id_keeps_valid}
use Rattle.sheet.specs.Sheet.{blank}
use Rattle.sheet.specs.Calls.{opened_with, entry_of, space_of, out_of_range, misstated}
use Rattle.sheet.specs.Tanks.{tank_of, tank_in}
use Rattle.standard.specs.Records.{misrecorded, record_number, first_refused}
use Rattle.sheet.specs.Resume.{resumed}
use Rattle.sheet.specs.declared.sheet.Sheet.{Sheet}
use Rattle.sheet.specs.declared.calls.Entry.{Entry}
use Rattle.sheet.specs.declared.tanks.Tank.{Tank}
use Rattle.standard.specs.declared.records.RefusedRecord.{RefusedRecord}
use Rattle.sheet.proofs.Laws.Calls.{passes, passed}
pub use Rattle.sheet_laws.specs.Resumable.{Resumable, OfRecords}

-- ---- exactly those spaces of which no record is refused

-- record by record: a number 0 is no 2 and an accepted entry
all_accepted : (L : Hundredths) (pre xs : List Space) → (first_refused L pre xs).number ≡ 0
    → ValidFrom L pre xs × ((y : Space) → y ∈ xs → misrecorded y ≡ false)
unfolding record_number entry_number
all_accepted L pre [] e = (done, λ y m. absurd (Memᴰ.not-nil m))
all_accepted L pre (x ∷ xs) e =
    by_test (eqb (record_number L pre x) 0)
    (λ t.
    let one = passed (misrecorded x) 2 (entry_tests L pre x) (eqb-true _ _ t) (λ w. omega arith) in
    let rest = all_accepted L (pre ++ (x ∷ [])) xs (rw t at e) in (
      next one.1 rest.0,
      λ y m. ⊎_elim (λ (q : y ≡ x). ap misrecorded q ∙ one.0) (λ (k : y ∈ xs). rest.1 y k) (Memᴰ.cases_cons m),
    ))
    (λ f. absurd (eqb-false _ _ f (rw f at e)))

-- and the other way round
none_refused : {L : Hundredths} {pre xs : List Space} → ValidFrom L pre xs → ((y : Space) → y ∈ xs → misrecorded y ≡ false)
    → (first_refused L pre xs).number ≡ 0
unfolding record_number entry_number
none_refused done well = refl
none_refused {L} {pre} (next {x = x} e v) well =
    let number : record_number L pre x ≡ 0 = passes (misrecorded x) 2 (entry_tests L pre x) (well x (Memᴰ.head refl)) ∙ e in
    rw (eq-eqb (record_number L pre x) 0 number) (none_refused v (λ y m. well y (Memᴰ.tail m)))

pub resumable_exactly : (L : Hundredths) (xs : List Space) → ((first_refused L [] xs).number ≡ 0) ↔ Resumable L xs
resumable_exactly L xs = (
  λ e. let r = all_accepted L [] xs e in record { valid = r.0; well_recorded = r.1 },
  λ r. none_refused r.valid r.well_recorded,
)

-- ---- a sheet of recorded spaces, on which no change is open yet

-- one just opened, on which nothing stands
pub opened_of_records : (L : Hundredths) (vessel : ℕ) → (opened_with L vessel).number ≡ 0 → OfRecords L vessel [] (opened_with L vessel).sheet
unfolding opened_with blank
opened_of_records L vessel z =
    by_test (includes tonnage_lengths L.0)
    (λ t. record { length_in_range = t; resumable = (resumable_exactly L []).0 refl; without_m = refl; sheet_is = rw t })
    (λ f. let two : ◌≡◌ {A = ℕ} 2 0 = rw f at z in absurd (omega arith))

-- and one resumed, on which its records stand, their m gone
pub resumed_of_records : (L : Hundredths) (vessel : ℕ) (records : List Space) → (resumed L vessel records).number ≡ 0
    → OfRecords L vessel (all_recorded records) (resumed L vessel records).sheet
unfolding resumed blank
resumed_of_records L vessel records z =
    by_test (includes tonnage_lengths L.0)
    (λ t.
    by_test (eqb (first_refused L [] records).number 0)
    (λ u.
    let none : (first_refused L [] (all_recorded records)).number ≡ 0 = ap (λ (r : RefusedRecord). r.number) (first_refused_recorded L [] records) ∙ eqb-true _ _ u in
    record { length_in_range = t; resumable = (resumable_exactly L (all_recorded records)).0 none; without_m = recorded_twice records; sheet_is = rw (t, u) })
    (λ f. absurd (eqb-false _ _ f (rw (t, f) at z))))
    (λ f. let two : ◌≡◌ {A = ℕ} 2 0 = rw f at z in absurd (omega arith))

-- each has the vessel number that it was given
vessel_of_records : {L : Hundredths} {vessel : ℕ} {records : List Space} {s : Sheet} → OfRecords L vessel records s → s.vessel ≡ vessel
unfolding blank
vessel_of_records o = ap (λ (s : Sheet). s.vessel) o.sheet_is

pub opened_vessel : (L : Hundredths) (vessel : ℕ) → (opened_with L vessel).number ≡ 0 → (opened_with L vessel).sheet.vessel ≡ vessel
opened_vessel L vessel z = vessel_of_records (opened_of_records L vessel z)

pub resumed_vessel : (L : Hundredths) (vessel : ℕ) (records : List Space) → (resumed L vessel records).number ≡ 0
    → (resumed L vessel records).sheet.vessel ≡ vessel
resumed_vessel L vessel records z = vessel_of_records (resumed_of_records L vessel records z)

-- ---- the changes: each keeps the sheet valid, and makes no record that isn't well recorded

pub resumable_entered : {L : Hundredths} {xs : List Space} (x : Space) → Resumable L xs → misrecorded x ≡ false → entry_number L xs x ≡ 0
    → Resumable L (xs ++ (x ∷ []))
resumable_entered {L} {xs} x r well e =
    record {
      valid = valid_entered x r.valid e;
      well_recorded = all_snoc (λ (y : Space). misrecorded y ≡ false) xs x r.well_recorded well;
    }

-- what stands after a withdrawal stood before it
stood_before : (id : ℕ) (xs : List Space) {y : Space} → y ∈ without id xs → y ∈ xs
stood_before id [] m = absurd (Memᴰ.not-nil m)
stood_before id (x ∷ xs) {y} m =
    by_test (eqb x.id id)
    (λ t. Memᴰ.tail (stood_before id xs (rw t at m)))
    (λ f. ⊎_elim (λ (q : y ≡ x). Memᴰ.head q) (λ (k : y ∈ without id xs). Memᴰ.tail (stood_before id xs k)) (Memᴰ.cases_cons (rw f at m)))

pub resumable_withdrawn : {L : Hundredths} {xs : List Space} (id : ℕ) → Resumable L xs → withdraw_number xs id ≡ 0 → Resumable L (without id xs)
resumable_withdrawn {L} {xs} id r e =
    record {
      valid = withdrawal_by_id_keeps_valid id r.valid e;
      well_recorded = λ y m. r.well_recorded y (stood_before id xs m);
    }

pub resumable_marked : {L : Hundredths} {xs : List Space} (id standing : ℕ) → Resumable L xs → mark_number xs id standing ≡ 0
    → Resumable L (marked id standing xs)
resumable_marked {L} {xs} id standing r e =
    record {
      valid = mark_by_id_keeps_valid id standing r.valid e;
      well_recorded = λ y m.
          let (z, k, q) = Memᴰ.of_map (marking id standing) xs m in
          sym (ap misrecorded q) ∙ r.well_recorded z k;
    }

-- "a deck above 99" is refused on entry
deck_fits : (standing deck : ℕ) → out_of_range standing deck ≡ false → ltb 99 deck ≡ false
deck_fits standing deck stated = (or_fails (ltb greatest_standing standing) (ltb 99 deck) stated).1

-- an entry that is well stated and whose offsets are accepted is well recorded: its length and its deck were in range, its tonnage is at most
-- 100,000,000, and an enclosing id is recorded only of a room
pub entry_well_recorded : (t : Hundredths) (e : Entry) (hs bs : List ℕ) → let m = measured e.kind t e.length hs bs in
    misstated e ≡ false → m.number ≡ 0 → misrecorded (space_of t e hs bs) ≡ false
unfolding in_range entry_of
entry_well_recorded t e hs bs stated none =
    let k = kind_of e.kind in
    let l = e.length in
    let m = measured e.kind t l hs bs in
    let deck = deck_fits e.standing e.deck (or_fails (out_of_range e.standing e.deck) _ stated).0 in
    let ranged : in_range k t l hs bs ≡ true = ((measured_exactly e.kind t l hs bs).only_0 none).0 in
    let measures = and_left _ (includes_all (breadths k) bs) ranged in
    let both = and_left _ (includes_all (heights k) hs) measures in
    let long : includes (lengths k) e.length.0 ≡ true = and_right (is_kind k && includes tonnage_lengths t.0) (includes (lengths k) e.length.0) both in
    or_fails_of _ _
    (or_fails_of _ _ (or_fails_of _ _ (le-ltb _ _ (measured_at_most e.kind t l hs bs)) deck) (ap not long))
    (by_test (eqb e.kind 5) (λ r. rw r) (λ r. rw r))

-- and so is a tank whose deck and measures are in range: it is a room
pub tank_well_recorded : (L : Hundredths) (xs : List Space) (k : Tank) (ds bs : List ℕ) → out_of_range k.standing k.deck ≡ false
    → tank_in_range k.length k.fore ds bs ≡ true
    → misrecorded (tank_in L xs k ds bs) ≡ false
unfolding tank_in_range tank_of kind_of
tank_well_recorded L xs k ds bs stated ranged =
    let u = under_deck_with k.within xs in
    let measures = and_left _ (includes_all (breadths UnderDeck) bs) ranged in
    let both = and_left _ (includes_all (heights UnderDeck) ds) measures in
    let long = and_left (includes (lengths Room) k.length.0) (includes fores k.fore.0) both in
    let tons = le-ltb _ _ (measured_tank_at_most L u.length u.m k.length k.fore ds bs) in
    or_fails_of _ _ (or_fails_of _ _ (or_fails_of _ _ tons (deck_fits k.standing k.deck stated)) (ap not long)) refl
