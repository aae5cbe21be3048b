-- The paper's rules: an accepted entry, withdrawal and mark fit the spaces that they were accepted on. Stands on Changes, Resumable,
-- Runs.
use Rattle.std.proofs.Common.{ℕ, ◌≡◌, refl, ◌∙◌, Bool, true, false, not, List, [], ◌∷◌, ◌++◌, arith, eqb, ltb}
use borrow.Author.Tests.{not-false}
use Rattle.measure.specs.declared.units.Hundredths.{Hundredths}
use Rattle.measure.specs.Refusals.{first_of}
use Rattle.measure.specs.Ends.{ends_of}
use Rattle.measure.proofs.Laws.Refusals.{spliced}
use Rattle.spaces.specs.Space.{is_room}
use Rattle.spaces.specs.declared.space.Space.{Space}
use Rattle.standard.specs.Standings.{greatest_standing}
use Rattle.standard.specs.Rules.{entry_tests, entry_number, withdraw_tests, withdraw_number, mark_tests, mark_number}
use Rattle.standard.specs.Tanks.{tank_tests, tank_number}
use Rattle.measure.specs.Tanks.{tank_in_range}
use Rattle.spaces_laws.proofs.Valid.{valid_is_sound}
use Rattle.spaces_laws.specs.Changes.{without, marked as marked_by_id}
use Rattle.spaces_laws.proofs.Withdraw.{facts_of_withdrawal}
use Rattle.spaces_laws.proofs.Mark.{facts_of_mark}
use Rattle.spaces_laws.proofs.Tanks.{tank_is_room}
use Rattle.sheet.specs.Sheet.{standing, usable}
use Rattle.sheet.specs.Ends.{pointed_with_area}
use Rattle.sheet.specs.Calls.{space_of, measured_for, out_of_range, misstated, entered, withdrawn, marked}
use Rattle.sheet.specs.Tanks.{tank_of, tank_in, sections_wrong, tank_entered}
use Rattle.sheet.specs.declared.sheet.Sheet.{Sheet}
use Rattle.sheet.specs.declared.calls.Entry.{Entry}
use Rattle.sheet.specs.declared.tanks.Tank.{Tank}
use Rattle.sheet.proofs.Laws.Calls.{passed, after_call}
use Rattle.sheet_laws.specs.Run.{space_entered, tank_given}
use Rattle.sheet_laws.specs.Resumable.{Resumable}
use Rattle.sheet_laws.proofs.Runs.{Rules}
use Rattle.sheet_laws.proofs.Changes.{entry_leads, withdrawal_leads, mark_leads}
use Rattle.sheet_laws.proofs.Resumable.{resumable_entered, resumable_withdrawn, resumable_marked, entry_well_recorded, tank_well_recorded}

-- ---- what the number 0 says: none of 1 to 3 applied, none of the rules of what stands, and no pointed end has area

pub record EntryAccepted (s : Sheet) (e : Entry) (hs bs : List ℕ) : Type 0 where
  pub is_open : usable s ≡ true
  pub well_said : misstated e ≡ false
  pub offsets : (measured_for s e hs bs).number ≡ 0
  pub number : entry_number s.length (standing s) (space_of s.length e hs bs) ≡ 0
  pub without_area : pointed_with_area e (ends_of hs bs) ≡ false

pub enter_accepted : (s : Sheet) (e : Entry) (hs bs : List ℕ) → (entered s e hs bs).number ≡ 0 → EntryAccepted s e hs bs
unfolding entered entry_number
enter_accepted s e hs bs z =
    let n = (measured_for s e hs bs).number in
    let rules = entry_tests s.length (standing s) (space_of s.length e hs bs) in
    let ends : List (Bool × ℕ) = (pointed_with_area e (ends_of hs bs), 19) ∷ [] in
    let one = passed (not (usable s)) 1 ((misstated e, 2) ∷ (not (eqb n 0), n) ∷ rules ++ ends) z (λ w. omega arith) in
    let two = passed (misstated e) 2 ((not (eqb n 0), n) ∷ rules ++ ends) one.1 (λ w. omega arith) in
    let measures = after_call n (rules ++ ends) two.1 in
    let ruled = after_call (first_of rules) ends (spliced rules ends (omega arith) ∙ measures.1) in
    record {
      is_open = not-false _ one.0;
      well_said = two.0;
      offsets = measures.0;
      number = ruled.0;
      without_area = (passed (pointed_with_area e (ends_of hs bs)) 19 [] ruled.1 (λ w. omega arith)).0;
    }

-- of a tank: its standing, its deck and its measures are in range, its sections and breadths are not wrong, and none of the rules of what
-- stands applies
pub record TankAccepted (s : Sheet) (k : Tank) (ds bs : List ℕ) : Type 0 where
  pub well_said : out_of_range k.standing k.deck ≡ false
  pub in_range : tank_in_range k.length k.fore ds bs ≡ true
  pub sections_right : sections_wrong s.length (standing s) k ds bs ≡ false
  pub number : tank_number s.length (standing s) (tank_in s.length (standing s) k ds bs) k.fore ≡ 0

pub tank_accepted : (s : Sheet) (k : Tank) (ds bs : List ℕ) → (tank_entered s k ds bs).number ≡ 0 → TankAccepted s k ds bs
unfolding tank_entered tank_number
tank_accepted s k ds bs z =
    let ranged = tank_in_range k.length k.fore ds bs in
    let wrong = sections_wrong s.length (standing s) k ds bs in
    let tests = tank_tests s.length (standing s) (tank_in s.length (standing s) k ds bs) k.fore in
    let one = passed (not (usable s)) 1 ((out_of_range k.standing k.deck, 2) ∷ (not ranged, 2) ∷ (wrong, 3) ∷ tests) z (λ w. omega arith) in
    let two = passed (out_of_range k.standing k.deck) 2 ((not ranged, 2) ∷ (wrong, 3) ∷ tests) one.1 (λ w. omega arith) in
    let measures = passed (not ranged) 2 ((wrong, 3) ∷ tests) two.1 (λ w. omega arith) in
    let sections = passed wrong 3 tests measures.1 (λ w. omega arith) in
    record { well_said = two.0; in_range = not-false _ measures.0; sections_right = sections.0; number = sections.1 }

pub a_room : (L : Hundredths) (xs : List Space) (k : Tank) (ds bs : List ℕ) → is_room (tank_in L xs k ds bs) ≡ true
unfolding tank_of
a_room L xs k ds bs = refl

withdraw_accepted : (s : Sheet) (id : ℕ) → (withdrawn s id).number ≡ 0 → withdraw_number (standing s) id ≡ 0
unfolding withdrawn withdraw_number
withdraw_accepted s id z = (passed (not (usable s)) 1 (withdraw_tests (standing s) id) z (λ w. omega arith)).1

mark_accepted : (s : Sheet) (id standing' : ℕ) → (marked s id standing').number ≡ 0 → mark_number (standing s) id standing' ≡ 0
unfolding marked mark_number
mark_accepted s id standing' z =
    let one = passed (not (usable s)) 1 ((ltb greatest_standing standing', 2) ∷ mark_tests (standing s) id standing') z (λ w. omega arith) in
    (passed (ltb greatest_standing standing') 2 (mark_tests (standing s) id standing') one.1 (λ w. omega arith)).1

-- the rules allow what `resume` accepts: each accepted change leaves such spaces
pub paper_rules : Rules Resumable
paper_rules =
    record {
      at_most_200 = λ L xs r. (valid_is_sound r.valid).at_most_200;
      entry_fits = λ s e hs bs r z.
          let x = space_of s.length e hs bs in
          let a = enter_accepted s e hs bs z in
          record {
            then = standing s ++ (x ∷ []);
            allowed = resumable_entered x r (entry_well_recorded s.length e hs bs a.well_said a.offsets) a.number;
            leads = entry_leads x (space_entered x) (standing s) refl;
          };
      tank_fits = λ s k ds bs r z.
          let x = tank_in s.length (standing s) k ds bs in
          let a = tank_accepted s k ds bs z in
          record {
            then = standing s ++ (x ∷ []);
            allowed = resumable_entered x r (tank_well_recorded s.length (standing s) k ds bs a.well_said a.in_range) (tank_is_room s.length (standing s) x k.fore (a_room s.length (standing s) k ds bs) a.number);
            leads = entry_leads x (tank_given s.length k ds bs) (standing s) refl;
          };
      withdrawal_fits = λ s id r z.
          let e = withdraw_accepted s id z in
          record {
            then = without id (standing s);
            allowed = resumable_withdrawn id r e;
            leads = withdrawal_leads r.valid id (facts_of_withdrawal (standing s) id e).it_stands;
          };
      mark_fits = λ s id standing' r z.
          let e = mark_accepted s id standing' z in
          record {
            then = marked_by_id id standing' (standing s);
            allowed = resumable_marked id standing' r e;
            leads = mark_leads r.valid id (facts_of_mark (standing s) id standing' e).it_stands standing';
          };
    }
