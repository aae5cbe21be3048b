-- Spaces that are each changed, but keep their ids, enclosing ids and kinds (as a mark and a record leave them), are found, enclosed and
-- walked as they were; and a sum is the same where what each adds is. Stands on nothing else here.
use Rattle.std.proofs.Common.{ℕ, zero, suc, ◌≡◌, refl, sym, ap, ◌∙◌, List, [], ◌∷◌, map, option_map, arith, eqb}
use Rattle.spaces.specs.declared.space.Space.{Space}
use Rattle.spaces.specs.Space.{is_room}
use Rattle.spaces.specs.Row.{find, sum_by}
use Rattle.spaces.specs.Enclosure.{enclosing, upward}
use Rattle.spaces.proofs.Laws.Cases.{by_test, by_option}
use Rattle.spaces.proofs.Laws.Enclosure.{upward_next, upward_none}

pub sum_each : (g : Space → ℕ) (f : Space → Space) → ((y : Space) → g (f y) ≡ g y) → (xs : List Space) → sum_by g (map f xs) ≡ sum_by g xs
sum_each g f h [] = refl
sum_each g f h (x ∷ xs) = omega (arith, h x, sum_each g f h xs)

pub record Keeps (f : Space → Space) : Type 0 where
  pub id : (y : Space) → (f y).id ≡ y.id
  pub within : (y : Space) → (f y).within ≡ y.within
  pub kind : (y : Space) → (f y).kind ≡ y.kind

module _ (f : Space → Space) (keeps : Keeps f) where
  pub find_each : (id : ℕ) (xs : List Space) → find id (map f xs) ≡ option_map f (find id xs)
  find_each id [] = refl
  find_each id (x ∷ xs) =
      let same = ap (λ (n : ℕ). eqb n id) (keeps.id x) in
      by_test (eqb x.id id) (λ e. rw (same ∙ e, e)) (λ e. rw (same ∙ e, e) (find_each id xs))

  pub enclosing_each : (xs : List Space) (y : Space) → enclosing (map f xs) (f y) ≡ option_map f (enclosing xs y)
  enclosing_each xs y =
      let same = ap (λ (n : ℕ). eqb n 5) (keeps.kind y) in
      by_test (is_room y)
      (λ r. rw (same ∙ r, r) (ap (λ (w : ℕ). find w (map f xs)) (keeps.within y) ∙ find_each y.within xs))
      (λ r. rw (same ∙ r, r))

  pub upward_each : (left : ℕ) (xs : List Space) (y : Space) → upward left (map f xs) (f y) ≡ map f (upward left xs y)
  upward_each zero xs y = refl
  upward_each (suc left) xs y =
      by_option (enclosing xs y)
      (λ e.
      upward_none (suc left) (map f xs) (f y) (enclosing_each xs y ∙ ap (option_map f) e) ∙ sym (ap (map f) (upward_none (suc left) xs y e)))
      (λ z e.
      upward_next left (map f xs) (f y) (enclosing_each xs y ∙ ap (option_map f) e)
      ∙ ap (λ (l : List Space). f z ∷ l) (upward_each left xs z)
      ∙ sym (ap (map f) (upward_next left xs y e)))
