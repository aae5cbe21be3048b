-- What "and" and "or" of two tests say. Stands on nothing of the sheet.
use Rattle.std.proofs.Common.{◌≡◌, refl, Bool, true, false, ◌&&◌, ◌||◌}
use Rattle.spaces.proofs.Laws.Cases.{not_both}

pub or_fails_of : (a b : Bool) → a ≡ false → b ≡ false → (a || b) ≡ false
or_fails_of a b p q = rw p q

pub and_fails : (a b : Bool) → (a && b) ≡ false → a ≡ true → b ≡ false
and_fails true b e t = e
and_fails false b e t = not_both t refl

pub and_fails_of : (a b : Bool) → (a ≡ true → b ≡ false) → (a && b) ≡ false
and_fails_of true b h = h refl
and_fails_of false b h = refl

pub and_holds : (a b : Bool) → (a && b) ≡ true → (a ≡ true) × (b ≡ true)
and_holds true b e = (refl, e)
and_holds false b e = not_both e refl

pub and_holds_of : (a b : Bool) → a ≡ true → b ≡ true → (a && b) ≡ true
and_holds_of a b p q = rw p q
