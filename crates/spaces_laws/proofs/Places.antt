-- A space's place in the order and its id: on a valid sheet each id stands at one place, a withdrawal takes out that place and a mark sets
-- it, and the changes by place keep the sheet valid. Stands on Withdraw, Mark.
use Rattle.std.proofs.Common.{ℕ, zero, suc, ◌<◌, ◌≡◌, refl, sym, ap, ◌∙◌, subst, true, List, [], ◌∷◌, ◌++◌, None, Some, arith, eqb-true, eq-eqb, ne_eqb, eqb, length, get_or, take, drop, set}
use Rattle.measure.specs.declared.units.Hundredths.{Hundredths}
use Rattle.spaces.specs.declared.space.Space.{Space}
use Rattle.spaces.specs.Space.{empty_space, restanding}
use Rattle.spaces.specs.Row.{find, place_of}
use Rattle.standard.specs.Rules.{withdraw_number, mark_number}
use Rattle.standard.specs.Valid.{ValidFrom, done, next, Valid}
use Rattle.spaces.proofs.Laws.Cases.{by_test, none_not_some}
use Rattle.spaces_laws.proofs.Lists.{member_at, find_here, find_further, find_before, find_behind, unfound_absent}
use Rattle.spaces_laws.proofs.Entry.{facts_of_entry}
use Rattle.spaces_laws.specs.Changes.{without, marked}
use Rattle.spaces_laws.proofs.Withdraw.{withdrawal_by_id_keeps_valid}
use Rattle.spaces_laws.proofs.Mark.{mark_by_id_keeps_valid}

-- ---- ids differ

-- no id stands twice
abbrev pub IdsDiffer : List Space → Type 0
IdsDiffer [] = Unit {0}
IdsDiffer (x ∷ xs) = (find x.id xs ≡ None) × IdsDiffer xs

-- an id that stands isn't entered again
entered_once : {L : Hundredths} (id : ℕ) {pre xs : List Space} {z : Space} → ValidFrom L pre xs → find id pre ≡ Some z → find id xs ≡ None
entered_once id done e = refl
entered_once {L} id {pre} {z = z} (next {x = x} {xs = xs} n v) e =
    find_further id x xs (λ q. none_not_some (facts_of_entry L pre x n).id_free (ap (λ (i : ℕ). find i pre) q ∙ e))
    ∙ entered_once id v (find_before id pre (x ∷ []) {z = z} e)

ids_differ_from : {L : Hundredths} {pre xs : List Space} → ValidFrom L pre xs → IdsDiffer xs
ids_differ_from done = tt
ids_differ_from {L} {pre} (next {x = x} n v) = (
  entered_once x.id v (find_behind x.id pre (x ∷ []) (facts_of_entry L pre x n).id_free ∙ find_here x.id x [] refl),
  ids_differ_from v,
)

pub ids_differ : {L : Hundredths} {xs : List Space} → Valid L xs → IdsDiffer xs
ids_differ v = ids_differ_from v

place_where_different : (xs : List Space) → IdsDiffer xs → (i : ℕ) → i < length xs → place_of (get_or xs i empty_space).id xs ≡ i
place_where_different [] d i h = absurd (omega arith)
place_where_different (x ∷ xs) d zero h = rw (eq-eqb x.id x.id refl)
place_where_different (x ∷ xs) d (suc i) h =
    let k : i < length xs = omega arith in
    let other = ne_eqb x.id (get_or xs i empty_space).id (λ q. unfound_absent x.id d.0 (member_at xs i empty_space k) (sym q)) in
    rw other (ap suc (place_where_different xs d.1 i k))

-- the space at a place stands at no other
pub place_of_id_at : {L : Hundredths} {xs : List Space} → Valid L xs → (i : ℕ) → i < length xs → place_of (get_or xs i empty_space).id xs ≡ i
place_of_id_at {L} {xs} v i h = place_where_different xs (ids_differ v) i h

-- ---- withdrawn and marked, by id and by place

without_absent : (id : ℕ) (xs : List Space) → find id xs ≡ None → without id xs ≡ xs
without_absent id [] e = refl
without_absent id (x ∷ xs) e =
    by_test (eqb x.id id)
    (λ t. none_not_some e (find_here id x xs (eqb-true _ _ t)))
    (λ f. rw f (ap (λ (l : List Space). x ∷ l) (without_absent id xs (rw f at e))))

marked_absent : (id standing : ℕ) (xs : List Space) → find id xs ≡ None → marked id standing xs ≡ xs
marked_absent id standing [] e = refl
marked_absent id standing (x ∷ xs) e =
    by_test (eqb x.id id)
    (λ t. none_not_some e (find_here id x xs (eqb-true _ _ t)))
    (λ f. rw f (ap (λ (l : List Space). x ∷ l) (marked_absent id standing xs (rw f at e))))

-- an id found nowhere else
only_here : (id : ℕ) (x : Space) (xs : List Space) → IdsDiffer (x ∷ xs) → eqb x.id id ≡ true → find id xs ≡ None
only_here id x xs d t = ap (λ (i : ℕ). find i xs) (sym (eqb-true _ _ t)) ∙ d.0

without_where_different : (id : ℕ) (xs : List Space) → IdsDiffer xs
    → without id xs ≡ take (place_of id xs) xs ++ drop (suc (place_of id xs)) xs
without_where_different id [] d = refl
without_where_different id (x ∷ xs) d =
    by_test (eqb x.id id)
    (λ t. rw t (without_absent id xs (only_here id x xs d t)))
    (λ f. rw f (ap (λ (l : List Space). x ∷ l) (without_where_different id xs d.1)))

marked_where_different : (id standing : ℕ) (xs : List Space) → IdsDiffer xs
    → marked id standing xs ≡ set xs (place_of id xs) (restanding standing (get_or xs (place_of id xs) empty_space))
marked_where_different id standing [] d = refl
marked_where_different id standing (x ∷ xs) d =
    by_test (eqb x.id id)
    (λ t. rw t (ap (λ (l : List Space). restanding standing x ∷ l) (marked_absent id standing xs (only_here id x xs d t))))
    (λ f. rw f (ap (λ (l : List Space). x ∷ l) (marked_where_different id standing xs d.1)))

-- (an id that doesn't stand has the place after the last: nothing is taken out or set)
pub without_by_place : {L : Hundredths} {xs : List Space} (id : ℕ) → Valid L xs
    → without id xs ≡ take (place_of id xs) xs ++ drop (suc (place_of id xs)) xs
without_by_place {L} {xs} id v = without_where_different id xs (ids_differ v)

pub marked_by_place : {L : Hundredths} {xs : List Space} (id standing : ℕ) → Valid L xs
    → marked id standing xs ≡ set xs (place_of id xs) (restanding standing (get_or xs (place_of id xs) empty_space))
marked_by_place {L} {xs} id standing v = marked_where_different id standing xs (ids_differ v)

-- ---- the changes by place keep a sheet valid

pub withdrawal_keeps_valid : {L : Hundredths} {xs : List Space} (id : ℕ) → Valid L xs → withdraw_number xs id ≡ 0
    → Valid L (take (place_of id xs) xs ++ drop (suc (place_of id xs)) xs)
withdrawal_keeps_valid {L} id v e = subst (Valid L) (without_by_place id v) (withdrawal_by_id_keeps_valid id v e)

pub mark_keeps_valid : {L : Hundredths} {xs : List Space} (id standing : ℕ) → Valid L xs → mark_number xs id standing ≡ 0
    → Valid L (set xs (place_of id xs) (restanding standing (get_or xs (place_of id xs) empty_space)))
mark_keeps_valid {L} id standing v e = subst (Valid L) (marked_by_place id standing v) (mark_by_id_keeps_valid id standing v e)
