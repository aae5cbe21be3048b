-- An entry judged by what is around it is judged as the definition has it.
use Rattle.std.proofs.Common.{◌≡◌, ℕ, ◌+◌, Bool, true, false, not, ◌&&◌, ◌||◌, List, [], ◌∷◌, length, eqb, leb, ltb, refl, sym, ap, ◌∙◌, arith, Option, None, Some, is_some, slice_get, eqb-true, ne_eqb, lt-ltb, le-ltb, leb-true, leb-false}
use Rattle.std.proofs.lemmas.Option.{slice_get_within, slice_get_past}
use Rattle.measure.specs.declared.units.Hundredths.{Hundredths}
use Rattle.measure.specs.Refusals.{first_of}
use Rattle.spaces.specs.Space.{is_under_deck, is_room}
use Rattle.spaces.specs.Row.{find, place_of, sum_of}
use Rattle.spaces.specs.Enclosure.{enclosing, above, visited}
use Rattle.spaces.specs.Around.{enclosing_place, around_of}
use Rattle.spaces.specs.declared.space.Space.{Space}
use Rattle.spaces.specs.declared.around.Around.{Around}
use Rattle.spaces.specs.declared.sums.Amount.TheVariants.{Inside, Lengths}
use Rattle.spaces.proofs.Laws.Cases.{by_test, by_option, none_not_some}
use Rattle.spaces.proofs.Laws.Places.{enclosed_nowhere}
use Rattle.standard.specs.Rules.{unhoused, misplaced, overfull, no_place, tests_of, entry_number}
use Rattle.standard.specs.Handed.{overfull_by, judged_tests, judged_number, misplaced_by, entry_number_by}

-- a room is no U, and only a room is enclosed
no_under_deck : (x : Space) → is_room x ≡ true → is_under_deck x ≡ false
no_under_deck x r = ne_eqb x.kind 1 (λ q. let five : x.kind ≡ 5 = eqb-true x.kind 5 r in omega arith)

a_room : (xs : List Space) (x : Space) {z : Space} → enclosing xs x ≡ Some z → is_room x ≡ true
a_room xs x e = by_test (is_room x) (λ r. r) (λ r. none_not_some refl (rw r at e))

-- what lies at the place of an id, and at that of an enclosing space
pub found_there : (id : ℕ) (xs : List Space) → slice_get xs (place_of id xs) ≡ find id xs
found_there id [] = refl
found_there id (x ∷ xs) = by_test (eqb x.id id) (λ t. rw t) (λ f. rw f (found_there id xs))

enclosed_there : (xs : List Space) (x : Space) → slice_get xs (enclosing_place xs x) ≡ enclosing xs x
enclosed_there xs x = by_test (is_room x) (λ r. rw r (found_there x.within xs)) (λ r. rw r (slice_get_past xs (length xs) (omega arith)))

-- what an enclosed space is added to, and one that isn't
beside_enclosed : (xs : List Space) (x : Space) {z : Space} → enclosing xs x ≡ Some z → (around_of xs x).beside ≡ sum_of (Inside x.within) xs
unfolding around_of
beside_enclosed xs x {z} e = rw (lt-ltb (enclosing_place xs x) (length xs) (slice_get_within xs (enclosing_place xs x) z (enclosed_there xs x ∙ e)))

beside_others : (xs : List Space) (x : Space) → enclosing xs x ≡ None → (around_of xs x).beside ≡ sum_of Lengths xs
unfolding around_of
beside_others xs x e = rw (le-ltb (enclosing_place xs x) (length xs) (omega (arith, enclosed_nowhere xs x e)))

-- the enclosing space, by its place as what is around tells it
pub home_encloses : (xs : List Space) (x : Space) (a : Around) → a ≡ around_of xs x → slice_get xs a.home ≡ enclosing xs x
unfolding around_of
home_encloses xs x a around = ap (λ (b : Around). slice_get xs b.home) around ∙ enclosed_there xs x

-- the enclosing spaces visited, as what is around tells them
pub visited_around : (xs : List Space) (x : Space) (a : Around) → a ≡ around_of xs x → a.levels ≡ visited xs x
unfolding around_of
visited_around xs x a around = ap (λ (b : Around). b.levels) around

module _ (L : Hundredths) (xs : List Space) (x : Space) where
  same_unhoused : (is_room x && not (is_some (enclosing xs x))) ≡ unhoused xs x
  same_unhoused = by_test (is_room x) (λ r. rw r) (λ r. rw r)

  same_overfull : overfull_by L x (enclosing xs x) (around_of xs x).beside ≡ overfull L xs x
  same_overfull =
      by_option (enclosing xs x)
      (λ e. rw (e, beside_others xs x e))
      (λ z e. rw (e, beside_enclosed xs x e, no_under_deck x (a_room xs x e)) (or_false _))
    where
      or_false : (b : Bool) → b ≡ (b || false)
      or_false true = refl
      or_false false = refl

  -- the tests by what is around, and by the definition
  same_tests : (misplaced overfull : Bool)
      → first_of (judged_tests x (enclosing xs x) (around_of xs x) misplaced overfull (no_place xs)) ≡ first_of (tests_of xs x misplaced overfull)
  unfolding around_of
  same_tests misplaced overfull = rw (same_unhoused, one_level_more (length (above xs x)))
    where
      one_level_more : (n : ℕ) → leb 8 n ≡ ltb 8 (n + 1)
      one_level_more n =
          by_test (leb 8 n)
          (λ t. t ∙ sym (lt-ltb 8 (n + 1) (omega (arith, leb-true 8 n t))))
          (λ f. f ∙ sym (le-ltb 8 (n + 1) (omega (arith, leb-false 8 n f))))

  -- as the code has it: the enclosing space, what is around, and whether all places are taken
  module _ (o : Option Space) (a : Around) (full : Bool) (found : o ≡ enclosing xs x) (around : a ≡ around_of xs x) (all : full ≡ no_place xs) where
    pub judged_is : (misplaced overfull : Bool) → judged_number x o a misplaced overfull full ≡ first_of (tests_of xs x misplaced overfull)
    unfolding judged_number
    judged_is misplaced overfull = rw (found, around, all) (same_tests misplaced overfull)

    pub overfull_is : overfull_by L x o a.beside ≡ overfull L xs x
    overfull_is = rw (found, around) same_overfull

    pub misplaced_is : misplaced_by x o ≡ misplaced xs x
    misplaced_is = ap (misplaced_by x) found

    pub entry_is : entry_number_by L x o a full ≡ entry_number L xs x
    unfolding entry_number
    entry_is = judged_is (misplaced_by x o) (overfull_by L x o a.beside) ∙ rw (misplaced_is, overfull_is)
