-- The chain upward ("Enclosure"): its equations, that it goes through standing spaces, that it is the same however the sheet goes on,
-- and what `all_plain`, `among` and `below` say of members. Stands on Lists.
use Rattle.std.proofs.Common.{ℕ, zero, suc, ◌+◌, ◌≤◌, ◌<◌, min, ◌≡◌, refl, sym, ap, ◌∙◌, subst, true, false, List, [], ◌∷◌, ◌++◌, None, Some, ◌⊎◌, inl, inr, ⊎_elim, ◌↔◌, arith, eqb-true, eq-eqb, eqb, length}
use mathlib.Core.List.Memᴰ
use Rattle.spaces.specs.declared.space.Space.{Space}
use Rattle.spaces.specs.Space.{is_room, is_plain}
use Rattle.spaces.specs.Row.{find}
use Rattle.spaces.specs.Enclosure.{enclosing, upward, above, level, all_plain, among, below_of, below}
use Rattle.spaces.proofs.Laws.Cases.{by_test, by_option, not_both, none_not_some}
use Rattle.spaces.proofs.Laws.Enclosure.{upward_next, upward_none, upward_short}
use Rattle.spaces_laws.specs.Above.{◌∈◌, Above, directly, further}
use Rattle.spaces_laws.proofs.Tests.{and_holds, and_holds_of}
use Rattle.spaces_laws.proofs.Lists.{find_before, found_stands}

-- "Only a room has an enclosing space"
pub enclosing_of_other : (xs : List Space) (x : Space) → is_room x ≡ false → enclosing xs x ≡ None
enclosing_of_other xs x e = rw e

pub enclosing_of_room : (xs : List Space) (x : Space) → is_room x ≡ true → enclosing xs x ≡ find x.within xs
enclosing_of_room xs x e = rw e

pub enclosing_stands : (xs : List Space) (y : Space) {z : Space} → enclosing xs y ≡ Some z → z ∈ xs
enclosing_stands xs y {z} e =
    by_test (is_room y)
    (λ r. (found_stands y.within xs {z = z} (sym (enclosing_of_room xs y r) ∙ e)).0)
    (λ r. none_not_some (enclosing_of_other xs y r) e)

pub upward_stands : (left : ℕ) (xs : List Space) (y z : Space) → z ∈ upward left xs y → z ∈ xs
upward_stands zero xs y z m = absurd (Memᴰ.not-nil m)
upward_stands (suc left) xs y z m =
    by_option (enclosing xs y)
    (λ e. absurd (Memᴰ.not-nil (subst (λ (l : List Space). z ∈ l) (upward_none (suc left) xs y e) m)))
    (λ t e.
    ⊎_elim (λ (q : z ≡ t). Memᴰ.cast q (enclosing_stands xs y e)) (λ (a : z ∈ upward left xs t). upward_stands left xs t z a)
    (Memᴰ.cases_cons (subst (λ (l : List Space). z ∈ l) (upward_next left xs y e) m)))

-- each room of a sheet has its enclosing space there
abbrev pub Closed : List Space → Space → Type 0
Closed xs y = is_room y ≡ true → (z : Space) × (find y.within xs ≡ Some z)

-- then the walk is the same however the sheet goes on
pub upward_append : (left : ℕ) (xs ys : List Space) → ((y : Space) → y ∈ xs → Closed xs y)
    → (y : Space) → Closed xs y → upward left (xs ++ ys) y ≡ upward left xs y
upward_append zero xs ys closed y h = refl
upward_append (suc left) xs ys closed y h =
    by_test (is_room y)
    (λ r.
    let z = (h r).0 in
    let e = (h r).1 in
    upward_next left (xs ++ ys) y (enclosing_of_room (xs ++ ys) y r ∙ find_before y.within xs ys e)
    ∙ ap (λ (l : List Space). z ∷ l) (upward_append left xs ys closed z (closed z (found_stands y.within xs e).0))
    ∙ sym (upward_next left xs y (enclosing_of_room xs y r ∙ e)))
    (λ r.
    upward_none (suc left) (xs ++ ys) y (enclosing_of_other (xs ++ ys) y r) ∙ sym (upward_none (suc left) xs y (enclosing_of_other xs y r)))

-- a walk with one level more is the same, or both run out of levels
one_level_more : (left : ℕ) (xs : List Space) (x : Space)
    → (upward (suc left) xs x ≡ upward left xs x) ⊎ ((length (upward (suc left) xs x) ≡ suc left) × (length (upward left xs x) ≡ left))
one_level_more zero xs x =
    by_option (enclosing xs x) (λ e. inl (upward_none 1 xs x e)) (λ z e. inr (ap length (upward_next 0 xs x e), refl))
one_level_more (suc left) xs x =
    by_option (enclosing xs x)
    (λ e. inl (upward_none (suc (suc left)) xs x e ∙ sym (upward_none (suc left) xs x e)))
    (λ z e.
    let more = upward_next (suc left) xs x e in
    let same = upward_next left xs x e in
    ⊎_elim
    (λ (q : upward (suc left) xs z ≡ upward left xs z). inl (more ∙ ap (λ (l : List Space). z ∷ l) q ∙ sym same))
    (λ (q : (length (upward (suc left) xs z) ≡ suc left) × (length (upward left xs z) ≡ left)).
    inr (ap length more ∙ ap suc q.0, ap length same ∙ ap suc q.1))
    (one_level_more left xs z))

-- ---- anywhere above

above_of_walked : (left : ℕ) (xs : List Space) (y z : Space) → z ∈ upward left xs y → Above xs y z
above_of_walked zero xs y z m = absurd (Memᴰ.not-nil m)
above_of_walked (suc left) xs y z m =
    by_option (enclosing xs y)
    (λ e. absurd (Memᴰ.not-nil (subst (λ (l : List Space). z ∈ l) (upward_none (suc left) xs y e) m)))
    (λ t e.
    ⊎_elim (λ (q : z ≡ t). subst (Above xs y) (sym q) (directly e)) (λ (a : z ∈ upward left xs t). further e (above_of_walked left xs t z a))
    (Memᴰ.cases_cons (subst (λ (l : List Space). z ∈ l) (upward_next left xs y e) m)))

-- a walk that ended with levels left has met all that are above
walked_of_above : (left : ℕ) (xs : List Space) {y z : Space} → length (upward left xs y) < left → Above xs y z → z ∈ upward left xs y
walked_of_above zero xs h a = absurd (omega arith)
walked_of_above (suc left) xs {y} {z} h (directly e) =
    subst (λ (l : List Space). z ∈ l) (sym (upward_next left xs y e)) (Memᴰ.head refl)
walked_of_above (suc left) xs {y} {z} h (further {t = t} e a) =
    let l : length (t ∷ upward left xs t) < suc left = rw (upward_next left xs y e) at h in
    subst (λ (l : List Space). z ∈ l) (sym (upward_next left xs y e)) (Memᴰ.tail (walked_of_above left xs (omega arith) a))

-- ---- within the 8 levels the walk finds all that are above, and nothing speaks of the levels left

pub above_exactly : (xs : List Space) (y z : Space) → level xs y ≤ 8 → (z ∈ above xs y) ↔ Above xs y z
unfolding above
above_exactly xs y z h = (above_of_walked 8 xs y z, walked_of_above 8 xs (omega arith))

pub above_of_room : (xs : List Space) (y : Space) {z : Space} → enclosing xs y ≡ Some z → level xs z ≤ 8 → above xs y ≡ z ∷ above xs z
unfolding above
above_of_room xs y {z} e h =
    ⊎_elim
    (λ (q : upward 8 xs z ≡ upward 7 xs z). upward_next 7 xs y e ∙ ap (λ (l : List Space). z ∷ l) (sym q))
    (λ (q : (length (upward 8 xs z) ≡ 8) × (length (upward 7 xs z) ≡ 7)). absurd (omega arith))
    (one_level_more 7 xs z)

-- "A U, B, S or H is at level 1, a room one below its enclosing space": of any spaces, where a level past 8 is told as 9
pub level_of_other : (xs : List Space) (y : Space) → is_room y ≡ false → level xs y ≡ 1
unfolding above
level_of_other xs y r = rw (upward_none 8 xs y (enclosing_of_other xs y r))

pub level_of_room : (xs : List Space) (y : Space) {z : Space} → enclosing xs y ≡ Some z → level xs y ≡ min (level xs z + 1) 9
unfolding above
level_of_room xs y {z} e =
    let u = ap length (upward_next 7 xs y e) in
    ⊎_elim
    (λ (q : upward 8 xs z ≡ upward 7 xs z). omega (arith, ap length q, upward_short 7 xs z))
    (λ (q : (length (upward 8 xs z) ≡ 8) × (length (upward 7 xs z) ≡ 7)). omega arith)
    (one_level_more 7 xs z)

-- ---- all plain, one by one

pub plain_of_all : {zs : List Space} {z : Space} → all_plain zs ≡ true → z ∈ zs → is_plain z ≡ true
plain_of_all {zs = []} {z} e m = absurd (Memᴰ.not-nil m)
plain_of_all {zs = t ∷ zs} {z} e m =
    let (first, rest) = and_holds (is_plain t) (all_plain zs) e in
    ⊎_elim (λ (q : z ≡ t). ap is_plain q ∙ first) (λ (k : z ∈ zs). plain_of_all {zs = zs} {z = z} rest k) (Memᴰ.cases_cons m)

pub all_plain_of : (zs : List Space) → ((z : Space) → z ∈ zs → is_plain z ≡ true) → all_plain zs ≡ true
all_plain_of [] h = refl
all_plain_of (z ∷ zs) h =
    and_holds_of (is_plain z) (all_plain zs) (h z (Memᴰ.head refl)) (all_plain_of zs (λ y m. h y (Memᴰ.tail m)))

-- ---- what is below

among_of : (id : ℕ) {zs : List Space} {z : Space} → z ∈ zs → z.id ≡ id → among id zs ≡ true
among_of id {zs = []} {z} m e = absurd (Memᴰ.not-nil m)
among_of id {zs = t ∷ zs} {z} m e =
    ⊎_elim
    (λ (q : z ≡ t). rw (eq-eqb t.id id (sym (ap (λ (s : Space). s.id) q) ∙ e)))
    (λ (k : z ∈ zs). by_test (eqb t.id id) (λ y. rw y) (λ n. rw n (among_of id {zs = zs} {z = z} k e)))
    (Memᴰ.cases_cons m)

some_among : (id : ℕ) (zs : List Space) → among id zs ≡ true → (z : Space) × (z ∈ zs) × (z.id ≡ id)
some_among id [] e = not_both e refl
some_among id (t ∷ zs) e =
    by_test (eqb t.id id)
    (λ y. (t, Memᴰ.head refl, eqb-true t.id id y))
    (λ n. let r = some_among id zs (rw n at e) in (r.0, Memᴰ.tail r.1, r.2))

below_of_these : (id : ℕ) (xs : List Space) {ys : List Space} {y : Space} → y ∈ ys → among id (above xs y) ≡ true → y ∈ below_of id xs ys
below_of_these id xs {ys = []} {y} m e = absurd (Memᴰ.not-nil m)
below_of_these id xs {ys = t ∷ ys} {y} m e =
    ⊎_elim
    (λ (q : y ≡ t). rw (subst (λ (s : Space). among id (above xs s) ≡ true) q e) (Memᴰ.head q))
    (λ (k : y ∈ ys).
    let below = below_of_these id xs {ys = ys} {y = y} k e in
    by_test (among id (above xs t)) (λ a. rw a (Memᴰ.tail below)) (λ a. rw a below))
    (Memᴰ.cases_cons m)

these_below : (id : ℕ) (xs ys : List Space) {y : Space} → y ∈ below_of id xs ys → (y ∈ ys) × (among id (above xs y) ≡ true)
these_below id xs [] m = absurd (Memᴰ.not-nil m)
these_below id xs (t ∷ ys) {y} m =
    by_test (among id (above xs t))
    (λ a.
    ⊎_elim (λ (q : y ≡ t). (Memᴰ.head q, ap (λ (s : Space). among id (above xs s)) q ∙ a))
    (λ (k : y ∈ below_of id xs ys). let r = these_below id xs ys k in (Memᴰ.tail r.0, r.1))
    (Memᴰ.cases_cons (rw a at m)))
    (λ a. let r = these_below id xs ys (rw a at m) in (Memᴰ.tail r.0, r.1))

-- a space is below an id exactly where one with the id is above it
pub below_exactly : (id : ℕ) (xs : List Space) (y : Space) → (y ∈ below id xs) ↔ ((y ∈ xs) × ((z : Space) × (z ∈ above xs y) × (z.id ≡ id)))
below_exactly id xs y = (
  λ m. let r = these_below id xs xs m in (r.0, some_among id (above xs y) r.1),
  λ h. below_of_these id xs h.0 (among_of id h.1.1 h.1.2),
)
