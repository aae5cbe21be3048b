-- The ends of a U (T-02): what is said of them and what is refused by them, as statements; nothing of them is recorded; and an entry with
-- an end said otherwise. Stands on Accepted.
use Rattle.std.proofs.Common.{ℕ, ◌<◌, ◌≤◌, ◌≡◌, refl, sym, ap, ◌∙◌, true, ◌&&◌, List, ◌↔◌, arith, eq-eqb, ne_eqb, eqb-true, leb-true, eqb, leb}
use mathlib.Core.Bool.{false≢true}
use borrow.Author.Tests.{not-true, eqb-false}
use Rattle.measure.specs.declared.units.Hundredths.{Hundredths}
use Rattle.measure.specs.declared.ends.EndAreas.{EndAreas}
use Rattle.measure.specs.Ends.{ends_of}
use Rattle.measure.proofs.Laws.Tests.{and_left, and_right}
use Rattle.spaces.proofs.Laws.Cases.{by_test}
use Rattle.sheet.specs.Ends.{is_end, is_pointed, has_ends, ends_fit, pointed_area, pointed_with_area, End, inner, upright, pointed, EndsSaid, PointedWithArea, fore, aft}
use Rattle.sheet.specs.Calls.{entry_of, space_of, entered, entering}
use Rattle.sheet.specs.declared.sheet.Sheet.{Sheet}
use Rattle.sheet.specs.declared.calls.Entry.{Entry}
use Rattle.sheet.specs.declared.calls.Changed.{Changed}
use Rattle.sheet_laws.specs.Ends.{Side, bow, stern, saying, area_at, AcceptedAs}
use Rattle.sheet_laws.proofs.Accepted.{enter_accepted}

-- ---- 2: the ends that are said

end_is : (n : ℕ) → is_end n ≡ true → End n
end_is n e =
    let low : 1 ≤ n = leb-true 1 n (and_left (leb 1 n) (leb n 3) e) in
    let high : n ≤ 3 = leb-true n 3 (and_right (leb 1 n) (leb n 3) e) in
    by_test (eqb n 1)
    (λ t. rw (eqb-true n 1 t) inner)
    (λ f. by_test (eqb n 2) (λ t. rw (eqb-true n 2 t) upright) (λ g.
    let three : n ≡ 3 = omega (arith, eqb-false n 1 f, eqb-false n 2 g) in
    rw three pointed))

is_end_lem : {n : ℕ} → End n → is_end n ≡ true
is_end_lem inner = refl
is_end_lem upright = refl
is_end_lem pointed = refl

pub ends_said : (e : Entry) → (ends_fit e ≡ true) ↔ EndsSaid e
unfolding ends_fit
ends_said e = (
  λ fit u.
      let both : (is_end e.fore_end && is_end e.aft_end) ≡ true = rw (eq-eqb e.kind 1 u) at fit in
      (end_is e.fore_end (and_left (is_end e.fore_end) _ both), end_is e.aft_end (and_right (is_end e.fore_end) _ both)),
  λ said. by_test (eqb e.kind 1) (λ t. let (f, a) = said (eqb-true e.kind 1 t) in rw (t, is_end_lem f, is_end_lem a)) (λ f. rw f),
)

-- ---- 19: a pointed end with area

point_of : (end area : ℕ) → pointed_area end area ≡ true → (end ≡ 3) × (0 < area)
point_of end area e =
    let some = eqb-false area 0 (not-true _ (and_right (is_pointed end) _ e)) in
    (eqb-true end 3 (and_left (is_pointed end) _ e), omega (arith, some))

of_point : (end area : ℕ) → end ≡ 3 → 0 < area → pointed_area end area ≡ true
of_point end area three some = rw (eq-eqb end 3 three, ne_eqb area 0 (λ zero. omega arith))

pub pointed_with_area_lem : (e : Entry) (a : EndAreas) → (pointed_with_area e a ≡ true) ↔ PointedWithArea e a
unfolding pointed_with_area
pointed_with_area_lem e a = (there, back)
  where
    there : pointed_with_area e a ≡ true → PointedWithArea e a
    there is =
        let u = eqb-true e.kind 1 (and_left (has_ends e) _ is) in
        by_test (pointed_area e.fore_end a.fore)
        (λ t. let (p, some) = point_of e.fore_end a.fore t in fore u p some)
        (λ f. let (p, some) = point_of e.aft_end a.aft (rw f at (and_right (has_ends e) _ is)) in aft u p some)

    back : PointedWithArea e a → pointed_with_area e a ≡ true
    back (fore u p some) = rw (eq-eqb e.kind 1 u, of_point e.fore_end a.fore p some)
    back (aft u p some) = by_test (pointed_area e.fore_end a.fore) (λ t. rw (eq-eqb e.kind 1 u, t)) (λ f. rw (eq-eqb e.kind 1 u, f) (of_point e.aft_end a.aft p some))

-- it hangs on nothing but the ends said of a U and the areas
pub nothing_else : (e f : Entry) (a : EndAreas) → e.kind ≡ f.kind → e.fore_end ≡ f.fore_end → e.aft_end ≡ f.aft_end
    → pointed_with_area e a ≡ pointed_with_area f a
unfolding pointed_with_area
nothing_else e f a kinds fores afts = rw (kinds, fores, afts)

-- ---- an end said otherwise

-- "Nothing is recorded of an end"
pub not_recorded : (side : Side) (end : ℕ) (L : Hundredths) (e : Entry) (hs bs : List ℕ) → space_of L (saying side end e) hs bs ≡ space_of L e hs bs
unfolding entry_of
not_recorded bow end L e hs bs = refl
not_recorded stern end L e hs bs = refl

-- "Looked at only of a U": of any other kind the answer is the same, whatever is said
pub only_of_U : (side : Side) (end : ℕ) (s : Sheet) (e : Entry) (hs bs : List ℕ) → (e.kind ≡ 1 → ⊥) → entered s (saying side end e) hs bs ≡ entered s e hs bs
unfolding entered ends_fit pointed_with_area entry_of
only_of_U bow end s e hs bs other = rw (ne_eqb e.kind 1 other)
only_of_U stern end s e hs bs other = rw (ne_eqb e.kind 1 other)

inner_as_upright : (side : Side) (s : Sheet) (e : Entry) (hs bs : List ℕ) → entered s (saying side 1 e) hs bs ≡ entered s (saying side 2 e) hs bs
unfolding entered ends_fit pointed_with_area entry_of
inner_as_upright bow s e hs bs = refl
inner_as_upright stern s e hs bs = refl

-- with no area there, a pointed end is answered as an upright one
pointed_as_upright : (side : Side) (s : Sheet) (e : Entry) (hs bs : List ℕ) → area_at side (ends_of hs bs) ≡ 0
    → entered s (saying side 3 e) hs bs ≡ entered s (saying side 2 e) hs bs
unfolding entered ends_fit pointed_with_area entry_of
pointed_as_upright bow s e hs bs none = rw (eq-eqb _ 0 none)
pointed_as_upright stern s e hs bs none = rw (eq-eqb _ 0 none)

-- and whatever an end is said to be, where the change is the same the whole answer is: what is passed on (T-04) goes by kind and length,
-- and what is visited (T-07) by the enclosing id
pub same_passed_on : (side : Side) (one other : ℕ) (s : Sheet) (e : Entry) (hs bs : List ℕ)
    → entered s (saying side one e) hs bs ≡ entered s (saying side other e) hs bs → entering s (saying side one e) hs bs ≡ entering s (saying side other e) hs bs
unfolding entering entry_of
same_passed_on bow one other s e hs bs same = rw same
same_passed_on stern one other s e hs bs same = rw same

-- an accepted U has no area at a pointed end
pub no_area : (s : Sheet) (e : Entry) (hs bs : List ℕ) → (entered s e hs bs).number ≡ 0 → e.kind ≡ 1
    → (e.fore_end ≡ 3 → (ends_of hs bs).fore ≡ 0) × (e.aft_end ≡ 3 → (ends_of hs bs).aft ≡ 0)
no_area s e hs bs z u =
    let without = (enter_accepted s e hs bs z).without_area in
    let never : PointedWithArea e (ends_of hs bs) → ⊥ = λ p. false≢true (sym without ∙ (pointed_with_area_lem e (ends_of hs bs)).1 p) in
    (λ p. none (ends_of hs bs).fore (λ some. never (fore u p some)), λ p. none (ends_of hs bs).aft (λ some. never (aft u p some)))
  where
    none : (area : ℕ) → (0 < area → ⊥) → area ≡ 0
    none area never = omega arith

-- "an entry accepted as upright is accepted as inner, and as pointed exactly where the end's area is 0"
pub accepted_as : (side : Side) (s : Sheet) (e : Entry) (hs bs : List ℕ) → e.kind ≡ 1 → (entered s (saying side 2 e) hs bs).number ≡ 0
    → AcceptedAs side s e hs bs
accepted_as side s e hs bs u z =
    record {
      as_inner = inner_as_upright side s e hs bs;
      as_pointed = (none_there side u, λ none. ap (λ (c : Changed). c.number) (pointed_as_upright side s e hs bs none) ∙ z);
      same_answer = pointed_as_upright side s e hs bs;
    }
  where
    none_there : (side : Side) → e.kind ≡ 1 → (entered s (saying side 3 e) hs bs).number ≡ 0 → area_at side (ends_of hs bs) ≡ 0
    none_there bow u accepted = (no_area s (saying bow 3 e) hs bs accepted u).0 refl
    none_there stern u accepted = (no_area s (saying stern 3 e) hs bs accepted u).1 refl
