-- What the standing spaces after a change are in the sheet's places.
use Rattle.std.proofs.Common.{◌≡◌, refl, sym, ap, ◌∙◌, Bool, true, false, cond, List, [], ◌∷◌, ◌++◌, append-nil, ℕ, suc, ◌+◌, ◌-◌, ◌≤◌, ◌<◌, min, add-one, arith, le-leb, leb-true, leb-false, leb, length, take, drop, get_or, set, length-append, length-drop, length-set, take-append-drop, drop_of_length-le, length-take-le, take_all, take-take, get_or-take, drop-set-lt, drop-cons}
use native.Mathlib.Nat.{min-eq_left, min-eq_right, min-le_right}
use Rattle.std.proofs.lemmas.Slice.{between_is}
use borrow.Author.Tests.{lt-leb}
use lib.Seq.{take-set-lt, set_out, set_at, append_snoc, drop-append-le, paste, length_paste_head}
use Rattle.spaces.specs.Space.{empty_space, restanding}
use Rattle.spaces.specs.declared.space.Space.{Space}
use Rattle.sheet.specs.Sheet.{standing, kept, no_change}
use Rattle.sheet.specs.Changes.{appended, without_last, removed, inserted, restood, with_standing, fitted, with_changes, latest, noted}
use Rattle.sheet.specs.Handed.{Open}
use Rattle.sheet.specs.declared.changes.Change.{Change}
use Rattle.sheet.specs.declared.changes.OpenChange.{OpenChange}
use Rattle.sheet.specs.declared.sheet.Sheet.{Sheet}
use Rattle.sheet.proofs.Laws.Row.{behind_first}

-- the sheet with other places and another count
abbrev pub placed : List Space → ℕ → Sheet → Sheet
placed spaces count s =
    record {
      opened = s.opened;
      length = s.length;
      vessel = s.vessel;
      spaces = spaces;
      count = count;
      changes = s.changes;
      undoable = s.undoable;
      redoable = s.redoable;
    }

-- k spaces that fit, and the places that hold them
pub fits : (ys : List Space) (k : ℕ) (row : List Space) (s : Sheet) → length ys ≡ k → k ≤ 200 → ys ++ drop k s.spaces ≡ row → placed row k s ≡ fitted ys s
unfolding fitted
fits ys k row s len h e =
    let l : leb (length ys) 200 ≡ true = le-leb (length ys) 200 (omega arith) in
    let r : placed (ys ++ drop (length ys) s.spaces) (length ys) s ≡ placed row k s =
    ap (λ (n : ℕ). placed (ys ++ drop n s.spaces) n s) len ∙ ap (λ (r : List Space). placed r k s) e in
    sym (ap (λ (t : Bool). cond t (with_standing ys s) s) l ∙ r)

-- more than 200 leave the sheet as it is
pub too_many : (ys : List Space) (s : Sheet) → 200 < length ys → s ≡ fitted ys s
unfolding fitted
too_many ys s h = sym (ap (λ (t : Bool). cond t (with_standing ys s) s) (lt-leb _ _ h))

-- of an open sheet, whose 200 places its type tells
module _ (s : Sheet) (o : Open s) (full : length s.spaces ≡ 200) where
  room : s.count ≤ 200
  room = o.count

  size : length (standing s) ≡ s.count
  size = length-take-le s.count s.spaces (omega (arith, room, full))

  -- the same spaces
  pub unchanged : (ys : List Space) → ys ≡ standing s → s ≡ fitted ys s
  unchanged ys e =
      fits ys s.count s.spaces s (ap length e ∙ size) room (ap (λ (l : List Space). l ++ drop s.count s.spaces) e ∙ take-append-drop s.count s.spaces)

  pub last_off : placed s.spaces (s.count - 1) s ≡ fitted (without_last (standing s)) s
  last_off =
      let n = s.count - 1 in
      let e : without_last (standing s) ≡ take n s.spaces = ap (λ (k : ℕ). take (k - 1) (standing s)) size ∙ take-take n s.count s.spaces (omega arith) in
      fits (without_last (standing s)) n s.spaces s
      (ap length e ∙ length-take-le n s.spaces (omega arith))
      (omega arith)
      (ap (λ (l : List Space). l ++ drop n s.spaces) e ∙ take-append-drop n s.spaces)

  -- the first places, and some of a list behind them, as the copying loops leave them
  pasted_fits : (ys : List Space) (at : ℕ) (l : List Space) (m k : ℕ) → ys ≡ take at s.spaces ++ take m l → at ≤ 200 → m ≤ length l → at + m ≡ k → k ≤ 200
      → placed (paste s.spaces at l m) k s ≡ fitted ys s
  pasted_fits ys at l m k e ha hm hk h =
      fits ys k (paste s.spaces at l m) s
      (ap length e ∙ length_paste_head s.spaces at l m (omega arith) hm ∙ hk)
      h
      (ap (λ (l' : List Space). l' ++ drop k s.spaces) e ∙ ap (λ (n : ℕ). take at s.spaces ++ take m l ++ drop n s.spaces) (sym hk))

  pub place_out : (p : ℕ) → p < s.count
      → placed (paste s.spaces p (drop (p + 1) s.spaces) (s.count - (p + 1))) (s.count - 1) s ≡ fitted (removed p (standing s)) s
  place_out p h =
      let sp = s.spaces in
      let n = s.count in
      let first : take p (standing s) ≡ take p sp = take-take p n sp (omega arith) in
      let rest : drop (suc p) (standing s) ≡ take (n - (p + 1)) (drop (p + 1) sp) =
      ap (λ (k : ℕ). drop k (standing s)) (sym (add-one p)) ∙ sym (between_is sp (p + 1) n) in
      pasted_fits (removed p (standing s)) p (drop (p + 1) sp) (n - (p + 1)) (n - 1)
      (ap (λ (l : List Space). l ++ drop (suc p) (standing s)) first ∙ ap (λ (l : List Space). take p sp ++ l) rest)
      (omega arith)
      (omega (arith, length-drop (p + 1) sp))
      (omega arith)
      (omega arith)

  pub place_out_beyond : (p : ℕ) → s.count ≤ p → s ≡ fitted (removed p (standing s)) s
  place_out_beyond p h =
      unchanged (removed p (standing s))
      (ap (λ (l : List Space). take p (standing s) ++ l) (drop_of_length-le (standing s) {i = suc p} (omega (arith, size)))
      ∙ append-nil (take p (standing s))
      ∙ take_all p (standing s) (omega (arith, size)))

  -- a place behind all is the last
  pub inserted_behind : (k : ℕ) (x : Space) → s.count ≤ k → inserted k x (standing s) ≡ appended x (standing s)
  inserted_behind k x h =
      ap (λ (l : List Space). l ++ x ∷ drop k (standing s)) (take_all k (standing s) (omega (arith, size)))
      ∙ ap (λ (l : List Space). standing s ++ x ∷ l) (drop_of_length-le (standing s) {i = k} (omega (arith, size)))

  inserted_at : (p : ℕ) (x : Space) → inserted p x (standing s) ≡ inserted (min p s.count) x (standing s)
  inserted_at p x = by (leb p s.count) refl
    where
      by : (t : Bool) → leb p s.count ≡ t → inserted p x (standing s) ≡ inserted (min p s.count) x (standing s)
      by true e = ap (λ (k : ℕ). inserted k x (standing s)) (sym (min-eq_left (leb-true p s.count e)))
      by false e =
          let h : s.count < p = leb-false p s.count e in
          let m : min p s.count ≡ s.count = min-eq_right (omega arith) in
          inserted_behind p x (omega arith)
          ∙ sym (inserted_behind s.count x (omega arith))
          ∙ ap (λ (k : ℕ). inserted k x (standing s)) (sym m)

  pub place_in : (p : ℕ) (x : Space) → s.count < 200
      → placed (paste s.spaces (min p s.count) (x ∷ drop (min p s.count) s.spaces) (s.count + 1 - min p s.count)) (s.count + 1) s ≡ fitted (inserted p x (standing s)) s
  place_in p x h =
      let sp = s.spaces in
      let n = s.count in
      let at = min p n in
      let m = min-le_right p n in
      let first : take at (standing s) ≡ take at sp = take-take at n sp m in
      let rest : x ∷ drop at (standing s) ≡ take (n + 1 - at) (x ∷ drop at sp) =
      ap (λ (l : List Space). x ∷ l) (sym (between_is sp at n)) ∙ ap (λ (k : ℕ). take k (x ∷ drop at sp)) (next at m) in
      pasted_fits (inserted p x (standing s)) at (x ∷ drop at sp) (n + 1 - at) (n + 1)
      (inserted_at p x ∙ ap (λ (l : List Space). l ++ x ∷ drop at (standing s)) first ∙ ap (λ (l : List Space). take at sp ++ l) rest)
      (omega arith)
      (omega (arith, length-drop at sp))
      (omega arith)
      (omega arith)
    where
      next : (at : ℕ) → at ≤ s.count → suc (s.count - at) ≡ s.count + 1 - at
      next at m = omega arith

  pub place_in_too_many : (p : ℕ) (x : Space) → 200 ≤ s.count → s ≡ fitted (inserted p x (standing s)) s
  place_in_too_many p x h =
      let t = take-append-drop p (standing s) in
      too_many (inserted p x (standing s)) s
      (omega (arith, length-append (take p (standing s)) (x ∷ drop p (standing s)), length-append (take p (standing s)) (drop p (standing s)), ap length t, size))

  pub place_restood : (p standing' : ℕ) → p < s.count
      → placed (set s.spaces p (restanding standing' (get_or s.spaces p empty_space))) s.count s ≡ fitted (restood p standing' (standing s)) s
  place_restood p standing' h =
      let sp = s.spaces in
      let n = s.count in
      let v = restanding standing' (get_or sp p empty_space) in
      let e : restood p standing' (standing s) ≡ take n (set sp p v) =
      ap (λ (x : Space). set (standing s) p (restanding standing' x)) (get_or-take n sp p empty_space h) ∙ sym (take-set-lt n sp p v h) in
      fits (restood p standing' (standing s)) n (set sp p v) s
      (length-set (standing s) p _ ∙ size)
      room
      (ap (λ (l : List Space). l ++ drop n sp) e
      ∙ ap (λ (l : List Space). take n (set sp p v) ++ l) (sym (drop-set-lt n sp p v h))
      ∙ take-append-drop n (set sp p v))

  pub place_restood_beyond : (p standing' : ℕ) → s.count ≤ p → s ≡ fitted (restood p standing' (standing s)) s
  place_restood_beyond p standing' h = unchanged (restood p standing' (standing s)) (set_out (standing s) p _ (omega (arith, size)))

-- a change noted behind those that are undoable, in the 64 places
module _ (s : Sheet) (c : Change) (full64 : length s.changes ≡ 64) where
  pub noted_behind : s.undoable < 64 → with_changes (set s.changes s.undoable (kept c)) (s.undoable + 1) 0 s ≡ noted c s
  unfolding noted
  noted_behind h =
      let n = s.undoable in
      let o : OpenChange = kept c in
      let cs = take n s.changes ++ (o ∷ []) in
      let len : length cs ≡ n + 1 = length-append (take n s.changes) (o ∷ []) ∙ ap (λ (k : ℕ). k + 1) (length-take-le n s.changes (omega arith)) in
      let all : latest cs ≡ cs = ap (λ (k : ℕ). drop k cs) (over len) in
      sym
      (ap (λ (l : List OpenChange). with_changes (l ++ drop (length l) s.changes) (length l) 0 s) all
      ∙ ap (λ (k : ℕ). with_changes (cs ++ drop k s.changes) k 0 s) len
      ∙ ap (λ (l : List OpenChange). with_changes l (n + 1) 0 s) (behind_first s.changes n o (omega arith)))
    where
      over : {k : ℕ} → k ≡ s.undoable + 1 → k - 64 ≡ 0
      over e = omega arith

  pub noted_full : s.undoable ≡ 64 → with_changes (set (paste s.changes 0 (drop 1 s.changes) 63) 63 (kept c)) s.undoable 0 s ≡ noted c s
  unfolding noted
  noted_full h =
      let o : OpenChange = kept c in
      let ch = s.changes in
      let cs = take s.undoable ch ++ (o ∷ []) in
      let kept-all : cs ≡ ch ++ (o ∷ []) = ap (λ (l : List OpenChange). l ++ (o ∷ [])) (take_all s.undoable ch (omega (arith, full64))) in
      let one : length cs - 64 ≡ 1 = omega (arith, ap length kept-all, length-append ch (o ∷ []), full64) in
      let kept : latest cs ≡ drop 1 ch ++ (o ∷ []) =
      ap (λ (k : ℕ). drop k cs) one ∙ ap (drop 1) kept-all ∙ drop-append-le 1 ch (o ∷ []) (omega arith) in
      let len : length (latest cs) ≡ 64 = ap length kept ∙ length-append (drop 1 ch) (o ∷ []) ∙ ap (λ (k : ℕ). k + 1) (length-drop 1 ch ∙ ap (λ (k : ℕ). k - 1) full64) in
      let places : latest cs ++ drop 64 ch ≡ set (paste ch 0 (drop 1 ch) 63) 63 o =
      ap (λ (l : List OpenChange). l ++ drop 64 ch) kept
      ∙ append_snoc (drop 1 ch) o (drop 64 ch)
      ∙ sym
      (ap (λ (l : List OpenChange). set (l ++ drop 63 ch) 63 o) (take_all 63 (drop 1 ch) (omega (arith, length-drop 1 ch)))
      ∙ ap (λ (l : List OpenChange). set (drop 1 ch ++ l) 63 o) (drop-cons ch 63 no_change (omega arith))
      ∙ set_at (drop 1 ch) (get_or ch 63 no_change) (drop 64 ch) o 63 (length-drop 1 ch ∙ ap (λ (k : ℕ). k - 1) full64)) in
      sym
      (ap (λ (k : ℕ). with_changes (latest cs ++ drop k ch) k 0 s) len
      ∙ ap (λ (l : List OpenChange). with_changes l 64 0 s) places
      ∙ ap (λ (k : ℕ). with_changes (set (paste ch 0 (drop 1 ch) 63) 63 o) k 0 s) (sym h))
