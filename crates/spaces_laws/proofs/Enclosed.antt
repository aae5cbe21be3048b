-- The place of a space's enclosing space: where there is one, it is that of the id that the space is within, and there it stands.
use Rattle.std.proofs.Common.{◌≡◌, refl, List, Some}
use Rattle.spaces.specs.Space.{is_room}
use Rattle.spaces.specs.Row.{place_of}
use Rattle.spaces.specs.Enclosure.{enclosing}
use Rattle.spaces.specs.Around.{enclosing_place}
use Rattle.spaces.specs.declared.space.Space.{Space}
use Rattle.spaces.proofs.Laws.Cases.{by_test, none_not_some}
use Rattle.spaces.proofs.Laws.Places.{Placed, placed}

pub enclosed_at_lem : (xs : List Space) (x : Space) {z : Space} → enclosing xs x ≡ Some z
    → (enclosing_place xs x ≡ place_of x.within xs) × Placed x.within xs z
enclosed_at_lem xs x {z} e =
    by_test (is_room x) (λ r. (rw r, placed x.within xs {z = z} (rw r at e))) (λ r. none_not_some refl (rw r at e))
