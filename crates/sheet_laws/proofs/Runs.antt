-- The history holds after any run of calls, and the vessel number stays, under any rules whose accepted changes fit the spaces that they
-- were accepted on: each call, accepted or refused, keeps it. Stands on History.
use Rattle.std.proofs.Common.{ℕ, ◌-◌, ◌≤◌, ◌<◌, ◌≡◌, refl, sym, ap, ◌∙◌, subst, Bool, true, cond, not, List, [], ◌∷◌, arith, eqb-true, eq-eqb, ne_eqb, eqb, leb, length}
use borrow.Author.Tests.{eqb-false}
use lib.ListN.{length-replicate}
use Rattle.measure.specs.declared.units.Hundredths.{Hundredths}
use Rattle.measure.specs.Refusals.{first_of}
use Rattle.spaces.specs.declared.space.Space.{Space}
use Rattle.spaces.specs.Space.{empty_space}
use Rattle.spaces.proofs.Laws.Cases.{by_test}
use Rattle.sheet.specs.Sheet.{standing, usable, no_change, blank}
use Rattle.sheet.specs.Changes.{with_standing, apply, apply_back, fitted, noted}
use Rattle.sheet.specs.Calls.{answered, changed, space_of, entered, withdrawal, withdrawn, marking, marked, change_at, undone, redone, counted, reported}
use Rattle.sheet.specs.Tanks.{tank_in, tank_entered}
use Rattle.sheet.specs.declared.changes.Change.{Change}
use Rattle.sheet.specs.declared.changes.Change.TheVariants.{Entered}
use Rattle.sheet.specs.declared.sheet.Sheet.{Sheet}
use Rattle.sheet.specs.declared.calls.Entry.{Entry}
use Rattle.sheet.specs.declared.calls.Changed.{Changed}
use Rattle.sheet.specs.declared.tanks.Tank.{Tank}
use Rattle.sheet.proofs.Laws.Calls.{applies, passes, is_open, refused}
use Rattle.sheet_laws.specs.Run.{Call, enter, enter_tank, withdraw, mark, undo, redo, counts, report, answer, after, accepted, ChangeById, space_entered, tank_given, id_withdrawn, id_marked, Log, no_log, log_change, log_after, log_after_all, log_of, OpenChanges, none_open, one_more, counts_after, counts_after_all, counts_of}
use Rattle.sheet_laws.specs.Holds.{RefusedAtNil, HistoryHolds, VesselKept}
use Rattle.sheet_laws.proofs.Undoable.{Leads, older, nothing, replayed}
use Rattle.sheet_laws.proofs.History.{Opened, Kept, kept_usable, kept_with, kept_changed, kept_undone, kept_redone}

-- a change fits the spaces xs: it leads to spaces that are allowed
pub record Fits (Allowed : List Space → Type 0) (c : Change) (by-id : ChangeById) (xs : List Space) : Type 0 where
  pub then : List Space
  pub allowed : Allowed then
  pub leads : Leads c by-id xs then

-- all that the history asks of the rules, where `Allowed L xs` says that the spaces xs may stand with the tonnage length L
pub record Rules (Allowed : Hundredths → List Space → Type 0) : Type 0 where
  pub at_most_200 : (L : Hundredths) (xs : List Space) → Allowed L xs → length xs ≤ 200
  pub entry_fits : (s : Sheet) (e : Entry) (hs bs : List ℕ) → Allowed s.length (standing s) → (entered s e hs bs).number ≡ 0
      → Fits (Allowed s.length) (Entered (space_of s.length e hs bs)) (space_entered (space_of s.length e hs bs)) (standing s)
  pub tank_fits : (s : Sheet) (k : Tank) (ds bs : List ℕ) → Allowed s.length (standing s) → (tank_entered s k ds bs).number ≡ 0
      → Fits (Allowed s.length) (Entered (tank_in s.length (standing s) k ds bs)) (tank_given s.length k ds bs) (standing s)
  pub withdrawal_fits : (s : Sheet) (id : ℕ) → Allowed s.length (standing s) → (withdrawn s id).number ≡ 0
      → Fits (Allowed s.length) (withdrawal s id) (id_withdrawn id) (standing s)
  pub mark_fits : (s : Sheet) (id standing' : ℕ) → Allowed s.length (standing s) → (marked s id standing').number ≡ 0
      → Fits (Allowed s.length) (marking s id standing') (id_marked id standing') (standing s)

-- ---- what is handed back

-- with the number 0, the sheet after the call
pub handed_next : (n : ℕ) (s next : Sheet) → n ≡ 0 → (answered n s next).sheet ≡ next
handed_next n s next z = rw (eq-eqb n 0 z)

handed_back_lem : (n : ℕ) (s next : Sheet) → (n ≡ 0 → ⊥) → (answered n s next).sheet ≡ s
handed_back_lem n s next f = sym (ap (λ (r : Changed). r.sheet) (refused n s next f))

-- "A refused change, undo or redo hands back the sheet as it came", and so does a refused report
pub refused_changes_nothing : (c : Call) (s : Sheet) → ((answer c s).number ≡ 0 → ⊥) → (answer c s).sheet ≡ s
unfolding answer entered tank_entered withdrawn marked undone redone counted reported
refused_changes_nothing (enter e hs bs) s f = handed_back_lem _ s _ f
refused_changes_nothing (enter_tank k ds bs) s f = handed_back_lem _ s _ f
refused_changes_nothing (withdraw id) s f = handed_back_lem _ s _ f
refused_changes_nothing (mark id standing') s f = handed_back_lem _ s _ f
refused_changes_nothing undo s f = handed_back_lem _ s _ f
refused_changes_nothing redo s f = handed_back_lem _ s _ f
refused_changes_nothing counts s f = refl
refused_changes_nothing (report justified) s f = refl

-- the tests of undo and redo, where n is the sheet's count
refused_at_nil : (s : Sheet) (n : ℕ) → usable s ≡ true → RefusedAtNil n (first_of ((not (usable s), 1) ∷ (eqb n 0, 12) ∷ []))
refused_at_nil s n open_now =
    let tests = is_open s ((eqb n 0, 12) ∷ []) open_now in
    record {
      at_nil = λ z. tests ∙ applies (eqb n 0) 12 [] (eq-eqb n 0 z);
      else_accepted = λ f. tests ∙ passes (eqb n 0) 12 [] (ne_eqb n 0 f);
    }

some_left : {count number : ℕ} → RefusedAtNil count number → number ≡ 0 → 0 < count
some_left {count} r z =
    by_test (eqb count 0) (λ t. absurd (omega (arith, r.at_nil (eqb-true _ _ t)))) (λ f. positive (eqb-false _ _ f))
  where
    positive : (count ≡ 0 → ⊥) → 0 < count
    positive h = omega arith

-- ---- L: the tonnage length; start: the spaces that stood before the run
module _ (Allowed : Hundredths → List Space → Type 0) (rules : Rules Allowed) (L : Hundredths) (start : List Space) where
  abbrev KeptSo : Sheet → Log → OpenChanges → Type 0
  KeptSo s log k = Kept (Allowed L) start L s log k

  module _ {s : Sheet} {log : Log} {k : OpenChanges} (h : KeptSo s log k) where
    allowed_now : Allowed L (standing s)
    allowed_now = rw h.stand h.allowed

    allowed_so : Allowed s.length (standing s)
    allowed_so = subst (λ (l : Hundredths). Allowed l (standing s)) (sym h.opened.length_kept) allowed_now

    open_now : usable s ≡ true
    open_now = kept_usable (Allowed L) start h

    -- undo and redo are refused by the sheet's counts, which are the paper's
    undo_as_counted : RefusedAtNil s.undoable (undone s).number
    unfolding undone
    undo_as_counted = refused_at_nil s s.undoable open_now

    redo_as_counted : RefusedAtNil s.redoable (redone s).number
    unfolding redone
    redo_as_counted = refused_at_nil s s.redoable open_now

    counts_as_kept : counted s ≡ record { undoable = k.undoable; redoable = k.redoable; sheet = s }
    unfolding counted
    counts_as_kept =
        ap (λ (t : Bool). record { undoable = cond t s.undoable 0; redoable = cond t s.redoable 0; sheet = s }) open_now
        ∙ ap (λ (n : ℕ). record { undoable = n; redoable = s.redoable; sheet = s }) h.undoable_is
        ∙ ap (λ (n : ℕ). record { undoable = k.undoable; redoable = n; sheet = s }) h.redoable_is

    history_of_kept : HistoryHolds L start s log k
    history_of_kept =
        record {
          standing_is = h.stand ∙ replayed (Allowed L) start h.to_undo;
          undoable_is = h.undoable_is;
          redoable_is = h.redoable_is;
          counts_told = counts_as_kept;
          undo_refused = subst (λ (n : ℕ). RefusedAtNil n (undone s).number) h.undoable_is undo_as_counted;
          redo_refused = subst (λ (n : ℕ). RefusedAtNil n (redone s).number) h.redoable_is redo_as_counted;
          is_usable = open_now;
          length_kept = h.opened.length_kept;
          places = h.opened.places;
          open_places = h.open_places;
        }

    -- an accepted change; what it is by id may hang on the tonnage length
    change_kept : {c : Change} (by-id : Hundredths → ChangeById) → Fits (Allowed s.length) c (by-id s.length) (standing s)
        → KeptSo (changed c s) (log_change (by-id L) log) (one_more k)
    change_kept {c} by-id fits =
        let f = subst (λ (l : Hundredths). Fits (Allowed l) c (by-id l) (standing s)) h.opened.length_kept fits in
        kept_changed (Allowed L) start (rules.at_most_200 L) h f.allowed f.leads

  -- an accepted call: a change as the rules have it, undo and redo under any rules
  accepted_keeps : (c : Call) {s : Sheet} {log : Log} {k : OpenChanges} → KeptSo s log k → (answer c s).number ≡ 0
      → KeptSo (answer c s).sheet (log_after L c log) (counts_after c k)
  unfolding answer entered tank_entered withdrawn marked undone redone counted reported
  accepted_keeps (enter e hs bs) {s} h z =
      rw (handed_next _ s _ z) (change_kept h (λ l. space_entered (space_of l e hs bs)) (rules.entry_fits s e hs bs (allowed_so h) z))
  accepted_keeps (enter_tank k ds bs) {s} h z =
      rw (handed_next _ s _ z) (change_kept h (λ l. tank_given l k ds bs) (rules.tank_fits s k ds bs (allowed_so h) z))
  accepted_keeps (withdraw id) {s} h z = rw (handed_next _ s _ z) (change_kept h (λ l. id_withdrawn id) (rules.withdrawal_fits s id (allowed_so h) z))
  accepted_keeps (mark id standing') {s} h z =
      rw (handed_next _ s _ z) (change_kept h (λ l. id_marked id standing') (rules.mark_fits s id standing' (allowed_so h) z))
  accepted_keeps undo {s} h z = rw (handed_next _ s _ z) (kept_undone (Allowed L) start (rules.at_most_200 L) h (some_left (undo_as_counted h) z))
  accepted_keeps redo {s} h z = rw (handed_next _ s _ z) (kept_redone (Allowed L) start (rules.at_most_200 L) h (some_left (redo_as_counted h) z))
  accepted_keeps counts h z = h
  accepted_keeps (report justified) h z = h

  -- call by call: a refused one leaves the sheet, the log and the counts as they are
  run_keeps : (calls : List Call) {s : Sheet} {log : Log} {k : OpenChanges} → KeptSo s log k
      → KeptSo (after calls s) (log_after_all L (accepted calls s) log) (counts_after_all (accepted calls s) k)
  run_keeps [] h = h
  run_keeps (c ∷ calls) {s} {log} {k} h =
      by_test (eqb (answer c s).number 0)
      (λ t. rw t (run_keeps calls (accepted_keeps c h (eqb-true _ _ t))))
      (λ f. rw f (run_keeps calls (subst (λ (t : Sheet). KeptSo t log k) (sym (refused_changes_nothing c s (eqb-false _ _ f))) h)))

  -- a sheet of these spaces, with no open changes
  at_first : (vessel : ℕ) → Allowed L start → KeptSo (with_standing start (blank true L vessel)) no_log none_open
  unfolding blank
  at_first vessel allowed =
      let o : Opened L (blank true L vessel) = record { is_open = refl; length_kept = refl; places = length-replicate 200 empty_space } in
      kept_with (Allowed L) start (rules.at_most_200 L) o allowed (length-replicate 64 no_change) (omega arith) (older refl) nothing refl refl

  -- from a sheet of spaces that are allowed: the history holds, and the spaces standing are allowed
  pub history_after_any_run : (vessel : ℕ) → Allowed L start → (calls : List Call) → let first = with_standing start (blank true L vessel) in
      HistoryHolds L start (after calls first) (log_of L calls first) (counts_of calls first) × Allowed L (standing (after calls first))
  history_after_any_run vessel allowed calls = let h = run_keeps calls (at_first vessel allowed) in (history_of_kept h, allowed_now h)

-- ---- the vessel number

fitted_vessel : (xs : List Space) (s : Sheet) → (fitted xs s).vessel ≡ s.vessel
unfolding fitted
fitted_vessel xs s = by_test (leb (length xs) 200) (λ t. rw t) (λ f. rw f)

changed_vessel : (c : Change) (s : Sheet) → (changed c s).vessel ≡ s.vessel
unfolding noted
changed_vessel c s = fitted_vessel (apply c (standing s)) s

-- an answer hands back one of two sheets
either_vessel : (r : Changed) (n : ℕ) (s next : Sheet) → r ≡ answered n s next → next.vessel ≡ s.vessel → r.sheet.vessel ≡ s.vessel
either_vessel r n s next is same = ap (λ (x : Changed). x.sheet.vessel) is ∙ by_test (eqb n 0) (λ t. rw t same) (λ f. rw f)

answer_keeps_vessel : (c : Call) (s : Sheet) → (answer c s).sheet.vessel ≡ s.vessel
unfolding answer entered tank_entered withdrawn marked undone redone counted reported
answer_keeps_vessel (enter e hs bs) s = either_vessel (entered s e hs bs) _ s _ refl (changed_vessel (Entered (space_of s.length e hs bs)) s)
answer_keeps_vessel (enter_tank k ds bs) s = either_vessel (tank_entered s k ds bs) _ s _ refl (changed_vessel (Entered (tank_in s.length (standing s) k ds bs)) s)
answer_keeps_vessel (withdraw id) s = either_vessel (withdrawn s id) _ s _ refl (changed_vessel (withdrawal s id) s)
answer_keeps_vessel (mark id standing') s = either_vessel (marked s id standing') _ s _ refl (changed_vessel (marking s id standing') s)
answer_keeps_vessel undo s = either_vessel (undone s) _ s _ refl (fitted_vessel (apply_back (change_at s (s.undoable - 1)) (standing s)) s)
answer_keeps_vessel redo s = either_vessel (redone s) _ s _ refl (fitted_vessel (apply (change_at s s.undoable) (standing s)) s)
answer_keeps_vessel counts s = refl
answer_keeps_vessel (report justified) s = refl

-- no call changes it, on any sheet
pub vessel_kept : (first : Sheet) → VesselKept first
vessel_kept first [] = refl
vessel_kept first (c ∷ calls) = vessel_kept (answer c first).sheet calls ∙ answer_keeps_vessel c first
