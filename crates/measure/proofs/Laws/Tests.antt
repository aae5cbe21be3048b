-- Tests and what they say: of a call, of a conjunction, and of an order.
use Rattle.std.proofs.Common.{◌≡◌, refl, sym, ◌∙◌, Bool, true, false, cond, ◌&&◌, ℕ, ◌≤◌, ◌<◌, ltb, lit≤, ltb-true, ltb-false, lt-ltb, le-ltb}
use Rattle.std.specs.Int.{from_bool}

-- what was asked is so, or isn't, as it was answered
pub as_answered : {asked answer said : Bool} → answer ≡ asked → answer ≡ said → asked ≡ said
as_answered e n = sym e ∙ n

pub and_left : (a b : Bool) → (a && b) ≡ true → a ≡ true
and_left true b e = refl
and_left false b e = e

pub and_right : (a b : Bool) → (a && b) ≡ true → b ≡ true
and_right true b e = e
and_right false b e = cc

-- what a test counts for: 1 where it holds, else 0
pub one_if : (b : Bool) → from_bool b ≡ cond b 1 0
one_if true = refl
one_if false = refl

pub one_if_most : (b : Bool) → from_bool b ≤ 1
one_if_most true = lit≤ tt
one_if_most false = lit≤ tt

-- a number is below another or it isn't
pub by_order : {C : Type 0} (a b : ℕ) → (a < b → C) → (b ≤ a → C) → C
by_order {C} a b below above = by (ltb a b) refl
  where
    by : (t : Bool) → ltb a b ≡ t → C
    by true e = below (ltb-true a b e)
    by false e = above (ltb-false a b e)

-- two comparisons that hold and fail together are the same test
pub same_test : (a b c d : ℕ) → (a < b → c < d) → (b ≤ a → d ≤ c) → ltb a b ≡ ltb c d
same_test a b c d up down =
    by_order a b (λ h. lt-ltb a b h ∙ sym (lt-ltb c d (up h))) (λ h. le-ltb a b h ∙ sym (le-ltb c d (down h)))
