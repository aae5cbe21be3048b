-- An entry is accepted (none of 4 to 10 applies) exactly where the facts of `Accepted` hold. Stands on Refusals, Lists, Walk.
use Rattle.std.proofs.Common.{◌+◌, ◌≤◌, ◌≡◌, ap, ◌∙◌, true, false, not, ◌&&◌, ◌||◌, List, Some, is_some, arith, ltb-false, leb-false, le-ltb, ltb}
use borrow.Author.Tests.{lt-leb, not-true, not-false}
use Rattle.measure.specs.declared.units.Hundredths.{Hundredths}
use Rattle.measure.specs.Refusals.{none as no_more}
use Rattle.measure_laws.proofs.Refusals.{accepted}
use Rattle.spaces.specs.declared.space.Space.{Space}
use Rattle.spaces.specs.declared.sums.Amount.TheVariants.{Inside, Lengths}
use Rattle.spaces.specs.Space.{is_under_deck, is_room}
use Rattle.spaces.specs.Row.{find, sum_of}
use Rattle.spaces.specs.Enclosure.{enclosing}
use Rattle.standard.specs.Rules.{id_refused, unhoused, in_hatchway, misplaced, too_deep, off_twice, passes_enclosing, overfull, no_place, entry_tests, entry_number}
use Rattle.spaces.proofs.Laws.Cases.{by_test, or_fails}
use Rattle.spaces_laws.specs.Accepted.{Enclosed, Accepted}
use Rattle.spaces_laws.proofs.Tests.{or_fails_of, and_fails, and_fails_of}
use Rattle.spaces_laws.proofs.Refusals.{none_applies, apart, together}
use Rattle.spaces_laws.proofs.Lists.{some_of, none_of}
use Rattle.spaces_laws.proofs.Walk.{enclosing_of_other, enclosing_of_room}

-- the tests that look at the enclosing space
module _ (xs : List Space) (x : Space) where
  enclosed_of : unhoused xs x ≡ false → in_hatchway (enclosing xs x) ≡ false → is_room x ≡ true → Enclosed xs x
  enclosed_of stood dry r =
      let s = some_of (find x.within xs) (not-false _ (and_fails _ _ stood r)) in
      record { home = s.0; home_stands = s.1; no_hatchway = rw (enclosing_of_room xs x r, s.1) at dry }

  module _ (enclosed : is_room x ≡ true → Enclosed xs x) where
    enclosing_is : (r : is_room x ≡ true) → enclosing xs x ≡ Some (enclosed r).home
    enclosing_is r = enclosing_of_room xs x r ∙ (enclosed r).home_stands

    rooms_fit_of : passes_enclosing xs x (enclosing xs x) ≡ false → (r : is_room x ≡ true)
        → sum_of (Inside x.within) xs + x.tonnage ≤ (enclosed r).home.tonnage
    rooms_fit_of e r = ltb-false _ _ (rw (enclosing_is r) at e)

    housed : unhoused xs x ≡ false
    housed = and_fails_of _ _ (λ r. rw (enclosed r).home_stands)

    not_in_hatchway : in_hatchway (enclosing xs x) ≡ false
    not_in_hatchway =
        by_test (is_room x) (λ r. rw (enclosing_is r) (enclosed r).no_hatchway) (λ r. rw (enclosing_of_other xs x r))

    not_passed : ((r : is_room x ≡ true) → sum_of (Inside x.within) xs + x.tonnage ≤ (enclosed r).home.tonnage)
        → passes_enclosing xs x (enclosing xs x) ≡ false
    not_passed fit = by_test (is_room x) (λ r. rw (enclosing_is r) (le-ltb _ _ (fit r))) (λ r. rw (enclosing_of_other xs x r))

pub facts_of_entry : (L : Hundredths) (xs : List Space) (x : Space) → entry_number L xs x ≡ 0 → Accepted L xs x
unfolding entry_number
facts_of_entry L xs x e =
    let (id_free, from-5) = apart (none_applies (entry_tests L xs x) (omega arith) e) in
    let (housed, from-6) = apart from-5 in
    let (placed, from-7) = apart from-6 in
    let (shallow, from-8) = apart from-7 in
    let (once, from-9) = apart from-8 in
    let (room-left, from-10) = apart from-9 in
    let (place_left, _) = apart from-10 in
    let ids = or_fails _ _ id_free in
    let range = or_fails _ _ ids.0 in
    let takes = or_fails _ _ placed in
    let fits = or_fails _ _ room-left in
    let enclosed = enclosed_of xs x housed takes.1 in
    record {
      id_at_least = ltb-false _ _ range.0;
      id_at_most = ltb-false _ _ range.1;
      id_free = none_of _ ids.1;
      enclosed = enclosed;
      may_take = not-false _ takes.0;
      level_at_most = ltb-false _ _ shallow;
      plain_above = λ p. not-false _ (and_fails _ _ once (ap not p));
      rooms_fit = rooms_fit_of xs x enclosed fits.0;
      lengths_fit = λ u. ltb-false _ _ (and_fails _ _ fits.1 u);
      place_left = leb-false _ _ place_left;
    }

pub entry_of_facts : (L : Hundredths) (xs : List Space) (x : Space) → Accepted L xs x → entry_number L xs x ≡ 0
unfolding entry_number
entry_of_facts L xs x a =
    let range : (ltb x.id 1 || ltb 9999 x.id) ≡ false = or_fails_of _ _ (le-ltb _ _ a.id_at_least) (le-ltb _ _ a.id_at_most) in
    let id_free : id_refused xs x ≡ false = or_fails_of _ _ range (ap is_some a.id_free) in
    let placed : misplaced xs x ≡ false = or_fails_of _ _ (ap not a.may_take) (not_in_hatchway xs x a.enclosed) in
    let shallow : too_deep xs x ≡ false = le-ltb _ _ a.level_at_most in
    let once : off_twice xs x ≡ false = and_fails_of _ _ (λ p. ap not (a.plain_above (not-true _ p))) in
    let lengths : (is_under_deck x && ltb L.0 (sum_of Lengths xs + x.length.0)) ≡ false = and_fails_of _ _ (λ u. le-ltb _ _ (a.lengths_fit u)) in
    let fits : overfull L xs x ≡ false = or_fails_of _ _ (not_passed xs x a.enclosed a.rooms_fit) lengths in
    let place : no_place xs ≡ false = lt-leb _ _ a.place_left in
    let from-7 = together shallow (together once (together fits (together place no_more))) in
    accepted (together id_free (together (housed xs x a.enclosed) (together placed from-7)))
