-- The places of the enclosing spaces, laid down one space after the other. Stands on Places.
use Rattle.std.proofs.Common.{ℕ, ◌+◌, ◌≤◌, ◌<◌, ◌≡◌, ◌∙◌, sym, ap, List, arith, ltb, ltb-true, ltb-false, eqb, eqb-true, length, get_or, set, replicate, length-set, get_or-set_same, get_or-set_other}
use Rattle.std.proofs.lemmas.List.{get_or_past}
use borrow.Author.Tests.{eqb-false}
use lib.ListN.{length-replicate, get_or-replicate}
use Rattle.spaces.specs.Space.{empty_space}
use Rattle.spaces.specs.Around.{enclosing_place}
use Rattle.spaces.specs.Handed.{Homed}
use Rattle.spaces.specs.declared.space.Space.{Space}
use Rattle.spaces.proofs.Laws.Cases.{by_test}

-- those of the first k, and nowhere at every other place
pub record HomedUpTo (k : ℕ) (xs : List Space) (homes : List ℕ) : Type 0 where
  pub size : length homes ≡ 200
  pub before : (at : ℕ) → at < k → get_or homes at 0 ≡ enclosing_place xs (get_or xs at empty_space)
  pub behind : (at : ℕ) → k ≤ at → at < 200 → get_or homes at 0 ≡ length xs

pub none_homed : (xs : List Space) → HomedUpTo 0 xs (replicate 200 (length xs))
none_homed xs =
    record {
      size = length-replicate 200 (length xs);
      before = λ at l. absurd (omega arith);
      behind = λ at l m. get_or-replicate 200 at (length xs) 0 m;
    }

pub one_homed : (k : ℕ) (xs : List Space) (homes : List ℕ) → HomedUpTo k xs homes → k < 200
    → (home : ℕ) → home ≡ enclosing_place xs (get_or xs k empty_space) → HomedUpTo (k + 1) xs (set homes k home)
one_homed k xs homes so h home is =
    record {
      size = length-set homes k home ∙ so.size;
      before = λ at l.
          by_test (eqb at k)
          (λ t. let same = eqb-true at k t in ap (λ (p : ℕ). get_or (set homes k home) p 0) same ∙ get_or-set_same homes k home 0 (omega (arith, so.size)) ∙ is ∙ ap (λ (p : ℕ). enclosing_place xs (get_or xs p empty_space)) (sym same))
          (λ f. let other = eqb-false at k f in get_or-set_other homes k at home 0 other ∙ so.before at (omega arith));
      behind = λ at l m. get_or-set_other homes k at home 0 (λ q. omega arith) ∙ so.behind at (omega arith) m;
    }

-- where no space stands there is none that encloses it
pub all_homed : (k : ℕ) (xs : List Space) (homes : List ℕ) → HomedUpTo k xs homes → k ≡ length xs → Homed xs homes
all_homed k xs homes so e = (
  so.size,
  λ at l.
      by_test (ltb at k)
      (λ t. so.before at (omega (arith, ltb-true at k t)))
      (λ f. so.behind at (omega (arith, ltb-false at k f)) l ∙ ap (enclosing_place xs) (sym (get_or_past xs at empty_space (omega (arith, ltb-false at k f))))),
)
