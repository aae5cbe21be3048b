-- How far up an entry looked (T-07 of document 02): "Entry of a room, accepted or refused, answers the number of enclosing spaces
-- visited". Stands on Tests, Reached, Demand1, and Visited of spaces_laws.
use Rattle.std.proofs.Common.{ℕ, ◌≤◌, ◌<◌, ◌≡◌, refl, sym, ap, ◌∙◌, subst, Bool, true, false, cond, List, ◌∷◌, ◌↔◌, Some, arith, eq-eqb, ne_eqb}
use Rattle.spaces.specs.Space.{is_room}
use Rattle.spaces.specs.Row.{find}
use Rattle.spaces.specs.Enclosure.{enclosing}
use Rattle.spaces.specs.declared.space.Space.{Space}
use Rattle.spaces.proofs.Laws.Cases.{by_test}
use Rattle.spaces.proofs.Laws.Enclosure.{visited_at_most}
use Rattle.standard.specs.Rules.{too_deep}
use Rattle.spaces_laws.specs.Levels.{LevelIs}
use Rattle.spaces_laws.proofs.Lists.{found_stands}
use Rattle.spaces_laws.proofs.Walk.{enclosing_of_other, enclosing_of_room, level_of_other}
use Rattle.spaces_laws.proofs.Visited.{eight_exactly, none_exactly, visited_by_level, level_within_8, visited_alike}
use Rattle.sheet.specs.Sheet.{standing, usable}
use Rattle.sheet.specs.Calls.{entry_of, space_of, visited_for, entering}
use Rattle.sheet.specs.Tanks.{tank_of, tank_in, tank_entering}
use Rattle.sheet.specs.declared.sheet.Sheet.{Sheet}
use Rattle.sheet.specs.declared.calls.Entry.{Entry}
use Rattle.sheet.specs.declared.tanks.Tank.{Tank}
use Rattle.demands.specs.Reached.{Reached}
use Rattle.demands.specs.Tests.{Applies, further}
use Rattle.demands.specs.Visited.{Visits, TankAsBefore}
use Rattle.demands.proofs.Reached.{reached_open, reached_resumable}
use Rattle.demands.proofs.Tests.{given_at_most, applies_first}
use Rattle.demands.proofs.Demand1.{enter_refused, enter_tank_refused}

-- the condition of the seventh test of a list, which is that of 7
seventh : {a b c d e f : Bool × ℕ} {test : Bool} {rest : List (Bool × ℕ)} → test ≡ true → Applies (a ∷ b ∷ c ∷ d ∷ e ∷ f ∷ (test, 7) ∷ rest) 7
seventh t = further (further (further (further (further (further (applies_first t))))))

-- what is answered of the room x on the sheet s
module _ (s : Sheet) (x : Space) (room : is_room x ≡ true) where
  named : enclosing (standing s) x ≡ find x.within (standing s)
  named = enclosing_of_room (standing s) x room

  -- 8 only on an open sheet, where 7 applies
  too_deep_at_8 : visited_for s x ≡ 8 → too_deep (standing s) x ≡ true
  too_deep_at_8 e =
      by_test (usable s)
      (λ on. (eight_exactly (standing s) x).0 (rw on at e))
      (λ off. let z : ◌≡◌ {A = ℕ} 0 8 = rw off at e in absurd (omega arith))

  visits : {number : ℕ} → (too_deep (standing s) x ≡ true → (0 < number) × (number ≤ 7)) → Visits s x.within number (visited_for s x)
  visits refused =
      record {
        by_enclosing_id = λ y also same.
            let alike = named ∙ ap (λ (id : ℕ). find id (standing s)) (sym same) ∙ sym (enclosing_of_room (standing s) y also) in
            ap (λ (n : ℕ). cond (usable s) n 0) (visited_alike (standing s) x y alike);
        by_level = λ on z stands. rw on (visited_by_level (standing s) x (named ∙ stands));
        at_most_8 = by_test (usable s) (λ on. rw on (visited_at_most (standing s) x)) (λ off. rw off (omega arith));
        refused_at_8 = λ e. refused (too_deep_at_8 e);
        none_exactly = λ on.
            let none = none_exactly (standing s) x in
            (λ z. sym named ∙ none.0 (rw on at z), λ e. rw on (none.1 (named ∙ e)));
        none_when_not_open = λ off. rw off;
      }

-- a room, and a tank, accepted or refused
pub room_visits : (s : Sheet) (e : Entry) (heights breadths : List ℕ) → e.kind ≡ 5
    → Visits s e.within (entering s e heights breadths).number (entering s e heights breadths).visited
unfolding entering entry_of
room_visits s e heights breadths five =
    let x = space_of s.length e heights breadths in
    let room : is_room x ≡ true = eq-eqb e.kind 5 five in
    let named : x.within ≡ e.within = rw room in
    subst (λ (id : ℕ). Visits s id (entering s e heights breadths).number (entering s e heights breadths).visited) named
    (visits s x room (λ deep. given_at_most (enter_refused s e heights breadths) (seventh deep)))

pub tank_visits : (s : Sheet) (k : Tank) (depths breadths : List ℕ)
    → Visits s k.within (tank_entering s k depths breadths).number (tank_entering s k depths breadths).visited
unfolding tank_entering tank_of
tank_visits s k depths breadths =
    visits s (tank_in s.length (standing s) k depths breadths) refl (λ deep. given_at_most (enter_tank_refused s k depths breadths) (seventh deep))

-- "Only a room has an enclosing space"
pub others_visit_none : (s : Sheet) (e : Entry) (heights breadths : List ℕ) → (e.kind ≡ 5 → ⊥) → (entering s e heights breadths).visited ≡ 0
unfolding entering entry_of
others_visit_none s e heights breadths other =
    let x = space_of s.length e heights breadths in
    let none = (none_exactly (standing s) x).1 (enclosing_of_other (standing s) x (ne_eqb e.kind 5 other)) in
    by_test (usable s) (λ on. rw on none) (λ off. rw off)

-- on every sheet that calls can reach it is the level of the named space
pub level_of_named_space : {s : Sheet} → Reached s → {within number visited : ℕ} → Visits s within number visited → (z : Space)
    → find within (standing s) ≡ Some z → (n : ℕ) → (visited ≡ n) ↔ LevelIs (standing s) z n
level_of_named_space {s} r v z stands n =
    rw (v.by_level (reached_open r) z stands)
    (level_within_8 (reached_resumable r).resumable.valid z (found_stands _ (standing s) stands).0 n)

-- 1, where the enclosing id names a space at level 1
pub one_at_level_1 : {s : Sheet} {within number visited : ℕ} → Visits s within number visited → usable s ≡ true → (z : Space)
    → find within (standing s) ≡ Some z → is_room z ≡ false → visited ≡ 1
one_at_level_1 {s} v on z stands no_room = omega (arith, v.by_level on z stands, level_of_other (standing s) z no_room)

-- a tank's change and its number are those of before
pub tank_as_before : (s : Sheet) (k : Tank) (depths breadths : List ℕ) → TankAsBefore s k depths breadths
unfolding tank_entering
tank_as_before s k depths breadths = record { same_number = refl; same_sheet = refl }
