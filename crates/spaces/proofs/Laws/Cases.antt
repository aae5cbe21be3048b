-- Cases of a test and of a space that may stand. Stands on nothing of the spaces.
use Rattle.std.proofs.Common.{◌≡◌, refl, Bool, true, false, ◌||◌, Option, None, Some, ℕ, arith}

pub by_test : {P : Type 0} (b : Bool) → (b ≡ true → P) → (b ≡ false → P) → P
by_test true yes-so not_so = yes-so refl
by_test false yes-so not_so = not_so refl

pub by_option : {A P : Type 0} (o : Option A) → (o ≡ None → P) → ((z : A) → o ≡ Some z → P) → P
by_option None empty given = empty refl
by_option (Some z) empty given = given z refl

pub not_both : {P : Type 0} {b : Bool} → b ≡ true → b ≡ false → P
not_both {P} {b} p q = absurd (let z : ◌≡◌ {A = ℕ} 0 1 = cc in omega arith)

pub none_not_some : {A P : Type 0} {o : Option A} {z : A} → o ≡ None → o ≡ Some z → P
none_not_some {A} {P} {o} {z} p q = absurd (let n : ◌≡◌ {A = ℕ} 0 1 = cc in omega arith)

pub some_same : {A : Type 0} {o : Option A} {y z : A} → o ≡ Some y → o ≡ Some z → y ≡ z
some_same {A} {o} {y} {z} p q = cc

-- neither of two tests applies
pub or_fails : (a b : Bool) → (a || b) ≡ false → (a ≡ false) × (b ≡ false)
or_fails true b e = not_both refl e
or_fails false b e = (refl, e)
