-- The open changes as two chains: those undoable lead, one after another, to the spaces that stand, and those redoable lead on from
-- there. A new change goes behind the undoable ones, and the oldest past 64 is no longer open.
use Rattle.std.proofs.Common.{ℕ, zero, suc, ◌+◌, ◌-◌, ◌≤◌, ◌<◌, ◌≡◌, sym, ap, ◌∙◌, List, [], ◌∷◌, ◌++◌, arith, length, take, drop, get_or, length-append, length-drop, length-take-le, get_or-take, get_or-drop}
use lib.ListN.{get_or-append}
use lib.Seq.{get_or_at}
use Rattle.spaces.specs.declared.space.Space.{Space}
use Rattle.sheet.specs.Sheet.{change_of, no_change}
use Rattle.sheet.specs.Changes.{apply, apply_back, latest}
use Rattle.sheet.specs.declared.changes.Change.{Change}
use Rattle.sheet.specs.declared.changes.OpenChange.{OpenChange}
use Rattle.sheet_laws.specs.Run.{ChangeById, outcome, replay}

-- a change kept by its place, and one by id, lead from the spaces xs to the spaces ys; the one taken back leads back
pub record Leads (c : Change) (by-id : ChangeById) (xs ys : List Space) : Type 0 where
  pub leads : apply c xs ≡ ys
  pub leads_back : apply_back c ys ≡ xs
  pub the_same : outcome by-id xs ≡ ys

-- Allowed: what the rules allow to stand. start: what stood before the run
module _ (Allowed : List Space → Type 0) (start : List Space) where
  -- the first n of the changes cs lead to the spaces ys; they are the latest of the log by id, and the older ones led to where they start
  pub data Undoable (cs : List OpenChange) : ℕ → List Space → List ChangeById → Type 0 where
    older : {ys : List Space} {log : List ChangeById} → ys ≡ replay log start → Undoable cs 0 ys log
    then : {n : ℕ} {xs ys : List Space} {c : ChangeById} {log : List ChangeById} → Allowed xs → Leads (change_of (get_or cs n no_change)) c xs ys
        → Undoable cs n xs log → Undoable cs (suc n) ys (c ∷ log)

  -- n of the changes cs, from a place on, lead on from the spaces xs
  pub data Redoable (cs : List OpenChange) : ℕ → ℕ → List Space → List ChangeById → Type 0 where
    nothing : {place : ℕ} {xs : List Space} → Redoable cs place 0 xs []
    next : {place n : ℕ} {xs ys : List Space} {c : ChangeById} {log : List ChangeById} → Allowed ys → Leads (change_of (get_or cs place no_change)) c xs ys
        → Redoable cs (suc place) n ys log → Redoable cs place (suc n) xs (c ∷ log)

  -- the spaces are those that the whole log leaves: each change is the same by id
  pub replayed : {cs : List OpenChange} {n : ℕ} {ys : List Space} {log : List ChangeById} → Undoable cs n ys log → ys ≡ replay log start
  replayed (older e) = e
  replayed (then {c = c} allowed l u) = sym l.the_same ∙ ap (outcome c) (replayed u)

  -- all but the oldest j are undoable still, where another list has them in its first places: the oldest join the older ones
  still_undoable : {cs : List OpenChange} (ds : List OpenChange) (j : ℕ) {m : ℕ} (n : ℕ) {ys : List Space} {log : List ChangeById} → m ≡ j + n
      → ((i : ℕ) → i < n → get_or cs (j + i) no_change ≡ get_or ds i no_change) → Undoable cs m ys log → Undoable ds n ys log
  still_undoable ds j zero e same u = older (replayed u)
  still_undoable ds j (suc n) e same (older q) = absurd (omega arith)
  still_undoable ds j (suc n) e same (then {n = m} {xs = xs} {ys = ys} {c = c} allowed l u) =
      let k : m ≡ j + n = omega arith in
      let it : Leads (change_of (get_or ds n no_change)) c xs ys = rw (← same n (omega arith), ← k) l in
      then allowed it (still_undoable ds j n k (λ i h. same i (omega arith)) u)

  -- one more change, noted behind the first n, where `latest` may drop the oldest
  pub undoable_noted : (cs : List OpenChange) (n : ℕ) (o : OpenChange) {c : ChangeById} {xs ys : List Space} {log : List ChangeById} → n ≤ length cs
      → Allowed xs → Leads (change_of o) c xs ys → Undoable cs n xs log
      → let kept = latest (take n cs ++ (o ∷ [])) in Undoable (kept ++ drop (length kept) cs) (length kept) ys (c ∷ log)
  undoable_noted cs n o {c} {xs} {ys} h allowed l u =
      let first = take n cs in
      let all = first ++ (o ∷ []) in
      let kept = latest all in
      let size : length first ≡ n = length-take-le n cs h in
      let first-same : (i : ℕ) → i < n → get_or cs (0 + i) no_change ≡ get_or all i no_change =
      λ i k. ap (λ (j : ℕ). get_or cs j no_change) (omega arith) ∙ sym (get_or-append first (o ∷ []) no_change i (omega arith) ∙ get_or-take n cs i no_change k) in
      let last : Leads (change_of (get_or all n no_change)) c xs ys = rw (get_or_at first o [] no_change n size) l in
      still_undoable (kept ++ drop (length kept) cs) (length all - 64) (length kept)
      (omega (arith, length-append first (o ∷ []), length-drop (length all - 64) all))
      (λ i k. sym (get_or-drop (length all - 64) all i no_change) ∙ sym (get_or-append kept (drop (length kept) cs) no_change i k))
      (then allowed last (still_undoable all 0 n (omega arith) first-same u))
