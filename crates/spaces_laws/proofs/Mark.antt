-- A mark is accepted exactly where the id stands, its kind can take the standing and, unless the standing is plain, all above and below
-- are plain; then it leaves a valid sheet. Stands on Valid.
use Rattle.std.proofs.Common.{ℕ, ◌≡◌, refl, sym, ap, ◌∙◌, subst, true, false, not, ◌&&◌, List, ◌∷◌, ◌++◌, map, option_map, arith, eqb-true, eq-eqb, ne_eqb, eqb, length}
use mathlib.Core.List.Memᴰ
use mathlib.Core.List.{map-append}
use borrow.Author.Tests.{eqb-false, not-true, not-false}
use lib.ListN.{length-map}
use lib.Seq.{append_snoc}
use Rattle.measure.specs.declared.units.Hundredths.{Hundredths}
use Rattle.measure.specs.Refusals.{none as no_more}
use Rattle.measure_laws.proofs.Refusals.{accepted}
use Rattle.spaces.specs.declared.space.Space.{Space}
use Rattle.spaces.specs.declared.sums.Amount.TheVariants.{Inside, Lengths}
use Rattle.spaces.specs.Space.{is_plain}
use Rattle.standard.specs.Standings.{may_take}
use Rattle.spaces.specs.Row.{find, stands, amount_of}
use Rattle.spaces.specs.Enclosure.{above, all_plain, below}
use Rattle.standard.specs.Rules.{cannot_take, plain_above, marked_twice, mark_tests, mark_number}
use Rattle.standard.specs.Valid.{ValidFrom, done, next, Valid}
use Rattle.spaces.proofs.Laws.Cases.{by_test, not_both}
use Rattle.spaces_laws.specs.Above.{◌∈◌}
use Rattle.spaces_laws.specs.Accepted.{Accepted, Markable}
use Rattle.spaces_laws.specs.Sound.{Sound}
use Rattle.spaces_laws.proofs.Tests.{and_fails, and_fails_of, and_holds}
use Rattle.spaces_laws.proofs.Refusals.{none_applies, apart, together}
use Rattle.spaces_laws.proofs.Lists.{unfound_absent, some_of}
use Rattle.spaces_laws.proofs.Walk.{upward_stands, plain_of_all, all_plain_of, below_exactly}
use Rattle.spaces_laws.proofs.Each.{sum_each, Keeps, find_each, upward_each}
use Rattle.spaces_laws.proofs.Entry.{facts_of_entry, entry_of_facts}
use Rattle.spaces_laws.proofs.Valid.{above_kept, same_by_id, sound_empty, sound_entered, valid_is_sound}
use Rattle.spaces_laws.specs.Changes.{marking, marked}

plain_both : (xs : List Space) (id standing : ℕ) → marked_twice xs id standing ≡ false → eqb standing 0 ≡ false
    → (plain_above xs (find id xs) ≡ true) × (all_plain (below id xs) ≡ true)
plain_both xs id standing e p = and_holds _ _ (not-false _ (and_fails _ _ e (ap not p)))

pub facts_of_mark : (xs : List Space) (id standing : ℕ) → mark_number xs id standing ≡ 0 → Markable xs id standing
unfolding mark_number
facts_of_mark xs id standing e =
    let (stood, rest) = apart (none_applies (mark_tests xs id standing) (omega arith) e) in
    let (takes, last) = apart rest in
    let (once, _) = apart last in
    let s = some_of (find id xs) (not-false _ stood) in
    record {
      it = s.0;
      it_stands = s.1;
      may_take = not-false _ (rw s.1 at takes);
      plain_above = λ p. rw s.1 at (plain_both xs id standing once p).0;
      plain_below = λ p. (plain_both xs id standing once p).1;
    }

pub mark_of_facts : (xs : List Space) (id standing : ℕ) → Markable xs id standing → mark_number xs id standing ≡ 0
unfolding mark_number
mark_of_facts xs id standing m =
    let stood : not (stands id xs) ≡ false = rw m.it_stands in
    let takes : cannot_take (find id xs) standing ≡ false = rw m.it_stands (ap not m.may_take) in
    let once : marked_twice xs id standing ≡ false = and_fails_of _ _ (λ p. ap not (plain (not-true _ p))) in
    accepted (together stood (together takes (together once no_more)))
  where
    plain : eqb standing 0 ≡ false → (plain_above xs (find id xs) && all_plain (below id xs)) ≡ true
    plain p = rw (m.it_stands, m.plain_above p) (m.plain_below p)

-- ---- the spaces as they stand after a mark

all_plain_map : (f : Space → Space) (zs : List Space) → ((z : Space) → z ∈ zs → is_plain (f z) ≡ true) → all_plain (map f zs) ≡ true
all_plain_map f zs h = all_plain_of (map f zs) (λ y m. let r = Memᴰ.of_map f zs m in sym (ap is_plain r.2) ∙ h r.0 r.1)

module _ (id standing : ℕ) where
  -- a space as the mark leaves it
  abbrev new : Space → Space
  new = marking id standing

  -- which is the same but for its standing
  keeps : Keeps new
  keeps = record { id = λ y. refl; within = λ y. refl; kind = λ y. refl }

  plain_marked : (y : Space) → y.id ≡ id → is_plain (new y) ≡ eqb standing 0
  plain_marked y e = rw (eq-eqb y.id id e)

  plain_other : (y : Space) → (y.id ≡ id → ⊥) → is_plain (new y) ≡ is_plain y
  plain_other y n = rw (ne_eqb y.id id n)

  -- ---- an entry after the spaces so marked

  -- what the mark asks of one space, of which `zs` are above
  record Suits (zs : List Space) (x : Space) : Type 0 where
    may_take : x.id ≡ id → may_take x.kind standing ≡ true
    plain_above : eqb standing 0 ≡ false → x.id ≡ id → all_plain zs ≡ true
    plain_below : eqb standing 0 ≡ false → (z : Space) → z ∈ zs → z.id ≡ id → is_plain x ≡ true

  module _ (L : Hundredths) (pre : List Space) (x : Space) (a : Accepted L pre x) (s : Suits (above pre x) x) where
    takes_marked : may_take x.kind (new x).standing ≡ true
    takes_marked = by_test (eqb x.id id) (λ t. rw t (s.may_take (eqb-true _ _ t))) (λ f. rw f a.may_take)

    plain_above_marked : is_plain (new x) ≡ false → (z : Space) → z ∈ above pre x → is_plain (new z) ≡ true
    unfolding above
    plain_above_marked p z m =
        by_test (eqb x.id id)
        (λ t.
        let q : x.id ≡ id = eqb-true _ _ t in
        plain_other z (λ h. unfound_absent x.id a.id_free (upward_stands 8 pre x z m) (h ∙ sym q))
        ∙ plain_of_all (s.plain_above (sym (plain_marked x q) ∙ p) q) m)
        (λ f.
        let o : is_plain x ≡ false = sym (plain_other x (eqb-false _ _ f)) ∙ p in
        by_test (eqb z.id id)
        (λ t.
        let h : z.id ≡ id = eqb-true _ _ t in
        plain_marked z h ∙ by_test (eqb standing 0) (λ e. e) (λ e. not_both (s.plain_below e z m h) o))
        (λ g. plain_other z (eqb-false _ _ g) ∙ plain_of_all (a.plain_above o) m))

    accepted_marked : Accepted L (map new pre) (new x)
    unfolding above
    accepted_marked =
        record {
          id_at_least = a.id_at_least;
          id_at_most = a.id_at_most;
          id_free = find_each new keeps x.id pre ∙ ap (option_map new) a.id_free;
          enclosed = λ r.
              let h = a.enclosed r in
              record { home = new h.home; home_stands = find_each new keeps x.within pre ∙ ap (option_map new) h.home_stands; no_hatchway = h.no_hatchway };
          may_take = takes_marked;
          level_at_most = omega (arith, a.level_at_most, ap length (upward_each new keeps 8 pre x), length-map (above pre x) new);
          plain_above = λ p. ap all_plain (upward_each new keeps 8 pre x) ∙ all_plain_map new (above pre x) (plain_above_marked p);
          rooms_fit = λ r. omega (arith, a.rooms_fit r, sum_each (amount_of (Inside x.within)) new (λ y. refl) pre);
          lengths_fit = λ u. omega (arith, a.lengths_fit u, sum_each (amount_of Lengths) new (λ y. refl) pre);
          place_left = omega (arith, a.place_left, length-map pre new);
        }

  valid_marked : (L : Hundredths) (all : List Space) → ((y : Space) → y ∈ all → Suits (above all y) y)
      → {pre xs : List Space} → pre ++ xs ≡ all → Sound L pre → ValidFrom L pre xs → ValidFrom L (map new pre) (map new xs)
  valid_marked L all suits e sound done = done
  valid_marked L all suits {pre} e sound (next {x = x} {xs = xs} n v) =
      let a = facts_of_entry L pre x n in
      let m : x ∈ all = subst (λ (l : List Space). x ∈ l) e (Memᴰ.append_right pre (Memᴰ.head refl)) in
      let u : above all x ≡ above pre x = rw (← e) (above_kept sound (x ∷ xs) x a.enclosed) in
      next
      (entry_of_facts L _ (new x) (accepted_marked L pre x a (subst (λ (l : List Space). Suits l x) u (suits x m))))
      (rw map-append at (valid_marked L all suits (append_snoc pre x xs ∙ e) (sound_entered L pre x sound a) v))

pub mark_by_id_keeps_valid : {L : Hundredths} {xs : List Space} (id standing : ℕ) → Valid L xs → mark_number xs id standing ≡ 0
    → Valid L (marked id standing xs)
mark_by_id_keeps_valid {L} {xs} id standing v e =
    let m = facts_of_mark xs id standing e in
    let s = valid_is_sound v in
    let here : (y : Space) → y ∈ xs → y.id ≡ id → m.it ≡ y = λ y k. same_by_id id (s.member y k) m.it_stands in
    valid_marked id standing L xs
    (λ y k.
    record {
      may_take = λ q. rw (here y k q) at m.may_take;
      plain_above = λ p q. rw (here y k q) at (m.plain_above p);
      plain_below = λ p z i q. plain_of_all (m.plain_below p) ((below_exactly id xs y).1 (k, (z, i, q)));
    })
    refl (sound_empty L) v
