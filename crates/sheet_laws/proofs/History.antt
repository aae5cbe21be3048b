-- A sheet, and the log and the counts of the run that led to it: a change, an undo and a redo keep the two chains of its open changes.
-- Of the rules this asks only that they allow no more than 200 spaces, and that an accepted change leads to spaces that they allow.
-- Stands on Undoable.
use Rattle.std.proofs.Common.{ℕ, suc, ◌+◌, ◌-◌, ◌≤◌, ◌<◌, min, ◌≡◌, refl, sym, ap, ◌∙◌, subst, true, List, [], ◌∷◌, ◌++◌, add-one, arith, le-leb, leb, length, take, drop, length-append, length-drop, length-take-le}
use lib.Seq.{take-append_seam}
use Rattle.measure.specs.declared.units.Hundredths.{Hundredths}
use Rattle.spaces.specs.declared.space.Space.{Space}
use Rattle.sheet.specs.Sheet.{standing, usable, kept, kept_whole}
use Rattle.sheet.specs.Changes.{apply, apply_back, with_standing, fitted, with_changes, latest, made, taken_back, noted}
use Rattle.sheet.specs.Calls.{change_at, changed, recounted}
use Rattle.sheet.specs.declared.changes.Change.{Change}
use Rattle.sheet.specs.declared.changes.OpenChange.{OpenChange}
use Rattle.sheet.specs.declared.sheet.Sheet.{Sheet}
use Rattle.sheet.proofs.Laws.Changes.{fits}
use Rattle.sheet_laws.specs.Run as run
use Rattle.sheet_laws.proofs.Undoable.{Leads, Undoable, Redoable, older, then, nothing, next, undoable_noted}

-- a sheet opened with the tonnage length L
pub record Opened (L : Hundredths) (s : Sheet) : Type 0 where
  pub is_open : s.opened ≡ 1
  pub length_kept : s.length ≡ L
  pub places : length s.spaces ≡ 200

-- spaces put in the places of a sheet are those that stand
pub stand_in_places : (xs : List Space) (s : Sheet) → standing (with_standing xs s) ≡ xs
stand_in_places xs s = take-append_seam xs (drop (length xs) s.spaces)

-- Allowed: what the rules allow to stand. start: what stood before the run
module _ (Allowed : List Space → Type 0) (start : List Space) where
  -- the two chains meet at the spaces that stand, and the sheet's counts are the paper's
  pub record Kept (L : Hundredths) (s : Sheet) (log : run.Log) (k : run.OpenChanges) : Type 0 where
    pub opened : Opened L s
    pub count_fits : s.count ≤ 200
    pub open_places : length s.changes ≡ 64
    pub open_fit : s.undoable + s.redoable ≤ 64
    pub row : List Space
    pub stand : standing s ≡ row
    pub allowed : Allowed row
    pub to_undo : Undoable Allowed start s.changes s.undoable row log.not_undone
    pub to_redo : Redoable Allowed start s.changes s.undoable s.redoable row log.undone
    pub undoable_is : s.undoable ≡ k.undoable
    pub redoable_is : s.redoable ≡ k.redoable

  -- its counts are such that calls answer it as an open sheet
  pub kept_usable : {L : Hundredths} {s : Sheet} {log : run.Log} {k : run.OpenChanges} → Kept L s log k → usable s ≡ true
  unfolding usable
  kept_usable {s = s} h =
      let u : leb s.undoable 64 ≡ true = le-leb s.undoable 64 (omega (arith, h.open_fit)) in
      let r : leb s.redoable (64 - s.undoable) ≡ true = le-leb s.redoable (64 - s.undoable) (omega (arith, h.open_fit)) in
      rw (h.opened.is_open, le-leb s.count 200 h.count_fits, u) r

  module _ (at_most_200 : (xs : List Space) → Allowed xs → length xs ≤ 200) where
    -- other spaces in the places of an opened sheet, and other open changes
    pub kept_with : {L : Hundredths} {s : Sheet} → Opened L s
        → {ys : List Space} {cs : List OpenChange} {u r : ℕ} {log : run.Log} {k : run.OpenChanges} → Allowed ys → length cs ≡ 64 → u + r ≤ 64
        → Undoable Allowed start cs u ys log.not_undone → Redoable Allowed start cs u r ys log.undone → u ≡ k.undoable → r ≡ k.redoable
        → Kept L (with_changes cs u r (with_standing ys s)) log k
    kept_with {s = s} o {ys} allowed whole fit to_undo to_redo undoable_is redoable_is =
        let few = at_most_200 ys allowed in
        record {
          opened =
              record {
                is_open = o.is_open;
                length_kept = o.length_kept;
                places = omega (arith, length-append ys (drop (length ys) s.spaces), length-drop (length ys) s.spaces, o.places);
              };
          count_fits = few;
          open_places = whole;
          open_fit = fit;
          row = ys;
          stand = stand_in_places ys s;
          allowed = allowed;
          to_undo = to_undo;
          to_redo = to_redo;
          undoable_is = undoable_is;
          redoable_is = redoable_is;
        }

    module _ {L : Hundredths} {s : Sheet} {log : run.Log} {k : run.OpenChanges} (h : Kept L s log k) where
      -- spaces that are allowed fit
      in_places : {xs ys : List Space} → xs ≡ ys → Allowed ys → fitted xs s ≡ with_standing ys s
      in_places {ys = ys} e allowed =
          ap (λ (l : List Space). fitted l s) e
          ∙ sym (fits ys (length ys) (ys ++ drop (length ys) s.spaces) s refl (at_most_200 ys allowed) refl)

      -- a new change goes behind the undoable ones, and nothing is redoable
      pub kept_changed : {c : Change} {by-id : run.ChangeById} {ys : List Space} → Allowed ys → Leads c by-id (standing s) ys
          → Kept L (changed c s) (run.log_change by-id log) (run.one_more k)
      unfolding noted
      kept_changed {c} {by-id} {ys} allowed l =
          let cs = s.changes in
          let u = s.undoable in
          let o : OpenChange = kept c in
          let all = take u cs ++ (o ∷ []) in
          let newest = latest all in
          let room : u ≤ length cs = omega (arith, h.open_places, h.open_fit) in
          let size : length all ≡ u + 1 = length-append (take u cs) (o ∷ []) ∙ ap (λ (n : ℕ). n + 1) (length-take-le u cs room) in
          let counted : length newest ≡ min 64 (u + 1) = omega (arith, length-drop (length all - 64) all, h.open_fit) in
          subst (λ (t : Sheet). Kept L (noted c t) (run.log_change by-id log) (run.one_more k)) (sym (in_places l.leads allowed))
          (kept_with h.opened allowed
          (omega (arith, length-append newest (drop (length newest) cs), length-drop (length newest) cs, h.open_places))
          (omega arith)
          (undoable_noted Allowed start cs u o room h.allowed (subst (λ (d : Change). Leads d by-id h.row ys) (sym (kept_whole c)) (rw h.stand at l)) h.to_undo)
          nothing
          (counted ∙ ap (λ (n : ℕ). min 64 (n + 1)) h.undoable_is)
          refl)

      -- undo: the last link of the one chain becomes the first of the other
      pub kept_undone : 0 < s.undoable
          → Kept L (recounted (s.undoable - 1) (s.redoable + 1) (taken_back (change_at s (s.undoable - 1)) s))
          (run.log_after L run.undo log) (run.counts_after run.undo k)
      kept_undone some_left = back h.to_undo refl
        where
          back : {n : ℕ} {not_undone : List run.ChangeById} → Undoable Allowed start s.changes n h.row not_undone → n ≡ s.undoable
              → Kept L (recounted (s.undoable - 1) (s.redoable + 1) (taken_back (change_at s (s.undoable - 1)) s))
              (run.log_undo not_undone log.undone) (run.counts_after run.undo k)
          back (older q) e = absurd (omega arith)
          back (then {n = m} {xs = xs} {c = c} {log = earlier} allowed l to_undo) e =
              let u = s.undoable - 1 in
              let last : m ≡ u = omega arith in
              let now : s.undoable ≡ suc u = omega arith in
              let it : Leads (change_at s u) c xs h.row = rw (← last) l in
              subst
              (λ (t : Sheet). Kept L (recounted u (s.redoable + 1) t) (run.log_undo (c ∷ earlier) log.undone) (run.counts_after run.undo k))
              (sym (in_places (ap (apply_back (change_at s u)) h.stand ∙ it.leads_back) allowed))
              (kept_with h.opened allowed h.open_places (omega (arith, h.open_fit))
              (rw last at to_undo)
              (rw add-one (next h.allowed it (rw now at h.to_redo)))
              (ap (λ (i : ℕ). i - 1) h.undoable_is)
              (ap (λ (i : ℕ). i + 1) h.redoable_is))

      -- redo: and the other way round
      pub kept_redone : 0 < s.redoable
          → Kept L (recounted (s.undoable + 1) (s.redoable - 1) (made (change_at s s.undoable) s))
          (run.log_after L run.redo log) (run.counts_after run.redo k)
      kept_redone some_left = again h.to_redo refl
        where
          again : {n : ℕ} {undone : List run.ChangeById} → Redoable Allowed start s.changes s.undoable n h.row undone → n ≡ s.redoable
              → Kept L (recounted (s.undoable + 1) (s.redoable - 1) (made (change_at s s.undoable) s))
              (run.log_redo log.not_undone undone) (run.counts_after run.redo k)
          again nothing e = absurd (omega arith)
          again (next {n = m} {c = c} {log = others} allowed l to_redo) e =
              let left : m ≡ s.redoable - 1 = omega arith in
              subst
              (λ (t : Sheet). Kept L (recounted (s.undoable + 1) (s.redoable - 1) t) (run.log_redo log.not_undone (c ∷ others)) (run.counts_after run.redo k))
              (sym (in_places (ap (apply (change_at s s.undoable)) h.stand ∙ l.leads) allowed))
              (kept_with h.opened allowed h.open_places (omega (arith, h.open_fit))
              (rw add-one (then h.allowed l h.to_undo))
              (rw (add-one, ← left) to_redo)
              (ap (λ (i : ℕ). i + 1) h.undoable_is)
              (ap (λ (i : ℕ). i - 1) h.redoable_is))
