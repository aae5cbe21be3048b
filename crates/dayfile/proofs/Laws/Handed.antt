-- What there is, or none; what is accepted, or refused with a number.
use Rattle.std.proofs.Common.{eqb-true}
use Rattle.std.specs.Prelude.{ℕ, ◌≡◌, Bool, true, false, None, Some, Result, Ok, Err, eqb}
use borrow.Author.Tests.{eqb-false}
use Rattle.spaces.proofs.Laws.Cases.{by_test}
use Rattle.dayfile.specs.Handed.{where_true, unless_0, refusal, refused_or}
use Rattle.dayfile.specs.declared.refusals.Refusal.{Refusal}

pub none_where : {T : Type 0} (test : Bool) (x : T) → where_true test x ≡ None → test ≡ false
none_where true x e = cc
none_where false x e = cc

pub some_where : {T : Type 0} (test : Bool) (x y : T) → where_true test x ≡ Some y → (y ≡ x) × (test ≡ true)
some_where true x y e = (cc, cc)
some_where false x y e = (cc, cc)

pub none_told : (n : ℕ) → unless_0 n n ≡ None → n ≡ 0
none_told n e = by_test (eqb n 0) (eqb-true n 0) (λ f. let s : Some n ≡ None = rw f at e in cc)

pub some_told : (n m : ℕ) → unless_0 n n ≡ Some m → (m ≡ n) × (n ≡ 0 → ⊥)
some_told n m e =
    by_test (eqb n 0)
    (λ t. let s : None ≡ Some m = rw t at e in (cc, cc))
    (λ f. let s : Some n ≡ Some m = rw f at e in (cc, eqb-false n 0 f))

pub accepted_by : {T : Type 0} (n : ℕ) (x y : T) → refused_or n x ≡ Ok y → (y ≡ x) × (n ≡ 0)
accepted_by {T} n x y e =
    by_test (eqb n 0)
    (λ t. let s : ◌≡◌ {A = Result T Refusal} (Ok x) (Ok y) = rw t at e in (cc, eqb-true n 0 t))
    (λ f. let s : ◌≡◌ {A = Result T Refusal} (Err (refusal n)) (Ok y) = rw f at e in (cc, cc))

pub refused_by : {T : Type 0} (n : ℕ) (x : T) (r : Refusal) → refused_or n x ≡ Err r → (r ≡ refusal n) × (n ≡ 0 → ⊥)
refused_by {T} n x r e =
    by_test (eqb n 0)
    (λ t. let s : ◌≡◌ {A = Result T Refusal} (Ok x) (Err r) = rw t at e in (cc, cc))
    (λ f. let s : ◌≡◌ {A = Result T Refusal} (Err (refusal n)) (Err r) = rw f at e in (cc, eqb-false n 0 f))
