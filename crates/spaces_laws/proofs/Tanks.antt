-- A tank is accepted exactly where the facts of `AcceptedTank` hold: so it is an accepted room; and on a valid sheet 7 and 8 never come
-- from one; and none where no space has m. Stands on Valid, Standings, Recorded.
use Rattle.std.proofs.Common.{ℕ, ◌<◌, ◌≡◌, sym, ap, ◌∙◌, true, false, not, ◌&&◌, ◌||◌, List, [], ◌∷◌, Option, Some, option_map, ◌↔◌, arith, eqb-true}
use borrow.Author.Tests.{not-false}
use Rattle.measure.specs.Refusals.{Accept, none as no_more}
use Rattle.measure.specs.Tanks.{passes_end, has_m, measurable}
use Rattle.measure.specs.declared.units.Hundredths.{Hundredths}
use Rattle.measure_laws.proofs.Refusals.{accepted}
use Rattle.spaces.specs.declared.space.Space.{Space}
use Rattle.spaces.specs.Space.{is_room, is_plain, recorded, all_recorded}
use Rattle.spaces.specs.Row.{find, space_with}
use Rattle.spaces.specs.Enclosure.{enclosing, above}
use Rattle.standard.specs.Standings.{may_take}
use Rattle.standard.specs.Rules.{unhoused, misplaced, too_deep, off_twice, overfull, entry_tests, entry_number}
use Rattle.standard.specs.Tanks.{under_deck_in, under_deck_with, in_no_under_deck, past_end, measurable_in, without_m, tank_tests, tank_number}
use Rattle.standard.specs.Valid.{Valid}
use Rattle.spaces.proofs.Laws.Cases.{by_option, none_not_some, or_fails, not_both}
use Rattle.spaces.proofs.Laws.Enclosure.{upward_next, upward_none}
pub use Rattle.spaces_laws.specs.Tanks.{InUnderDeck, AcceptedTank}
use Rattle.spaces_laws.proofs.Tests.{or_fails_of, and_fails, and_fails_of, and_holds_of}
use Rattle.spaces_laws.proofs.Refusals.{none_applies, one_applies, apart, together, refused_later, no_refusal}
use Rattle.spaces_laws.proofs.Lists.{some_of, found_stands}
use Rattle.spaces_laws.proofs.Walk.{enclosing_of_other, enclosing_of_room}
use Rattle.spaces_laws.proofs.Entry.{facts_of_entry, entry_of_facts}
use Rattle.spaces_laws.proofs.Valid.{valid_is_sound}
use Rattle.spaces_laws.proofs.Standings.{under_deck_plain}
use Rattle.spaces_laws.proofs.Recorded.{find_recorded}

-- none of its tests applies, exactly where its number is 0
pub tests_accept_exactly : (L : Hundredths) (xs : List Space) (x : Space) (f : Hundredths) → (tank_number L xs x f ≡ 0) ↔ Accept (tank_tests L xs x f)
unfolding tank_number
tests_accept_exactly L xs x f = (none_applies (tank_tests L xs x f) (omega arith), λ a. accepted a)

-- ---- the U that a tank is in

-- 5 and 6 leave a standing U
in_under_deck : (xs : List Space) (x : Space) → is_room x ≡ true → unhoused xs x ≡ false → in_no_under_deck (enclosing xs x) ≡ false → InUnderDeck xs x
in_under_deck xs x r housed in_one =
    let s = some_of (find x.within xs) (not-false _ (and_fails _ _ housed r)) in
    record { under_deck = s.0; stands = s.1; is_under_deck = not-false _ (rw (enclosing_of_room xs x r, s.1) at in_one) }

-- it is the one that the tank is measured in
pub named_under_deck : {xs : List Space} {x : Space} (h : InUnderDeck xs x) → under_deck_with x.within xs ≡ h.under_deck
unfolding under_deck_with
named_under_deck h = ap under_deck_in h.stands ∙ rw h.is_under_deck

module _ (xs : List Space) (x : Space) (r : is_room x ≡ true) (h : InUnderDeck xs x) where
  abbrev u : Space
  u = h.under_deck

  encloses : enclosing xs x ≡ Some u
  encloses = enclosing_of_room xs x r ∙ h.stands

  it_is : under_deck_in (enclosing xs x) ≡ u
  unfolding under_deck_with
  it_is = ap under_deck_in (enclosing_of_room xs x r) ∙ named_under_deck h

  -- the tests that look at it
  past_end_is : (f : Hundredths) → past_end (enclosing xs x) x f ≡ passes_end u.length x.length f
  past_end_is f = rw (it_is, h.is_under_deck)

  measurable_is : (f : Hundredths) → measurable_in (enclosing xs x) x f ≡ measurable u.length u.m x.length f
  measurable_is f = rw it_is

  without_m_is : without_m (enclosing xs x) ≡ not (has_m u.m)
  without_m_is = rw (it_is, h.is_under_deck)

  -- it is no room, so it is all that is above the tank
  kind_is : u.kind ≡ 1
  kind_is = eqb-true _ _ h.is_under_deck

  above_tank : above xs x ≡ u ∷ []
  unfolding above
  above_tank =
      let no_room : is_room u ≡ false = rw kind_is in
      upward_next 7 xs x encloses ∙ ap (λ (l : List Space). u ∷ l) (upward_none 7 xs u (enclosing_of_other xs u no_room))

  not_too_deep : too_deep xs x ≡ false
  not_too_deep = rw above_tank

  -- and "U and H take only 0"
  not_off_twice : {L : Hundredths} → Valid L xs → off_twice xs x ≡ false
  not_off_twice v =
      let takes = ((valid_is_sound v).member u (found_stands x.within xs {z = u} h.stands).0).may_take in
      let plain : is_plain u ≡ true = under_deck_plain u.standing (ap (λ (kind : ℕ). may_take kind u.standing) (sym kind_is) ∙ takes) in
      and_fails_of (not (is_plain x)) _ (λ _. rw (above_tank, plain))

-- ---- an accepted tank

-- 9 is judged by the tonnage, since the U has m and the tank passes no end
pub facts_of_tank : (L : Hundredths) (xs : List Space) (x : Space) (f : Hundredths) → is_room x ≡ true → tank_number L xs x f ≡ 0 → AcceptedTank L xs x f
unfolding entry_number
facts_of_tank L xs x f r e =
    let (id_free, from-5) = apart ((tests_accept_exactly L xs x f).0 e) in
    let (housed, from-6) = apart from-5 in
    let (placed, from-7) = apart from-6 in
    let (shallow, from-8) = apart from-7 in
    let (once, from-9) = apart from-8 in
    let (room-left, from-10) = apart from-9 in
    let (place_left, from-29) = apart from-10 in
    let (with-m, _) = apart from-29 in
    let takes = or_fails (misplaced xs x) (in_no_under_deck (enclosing xs x)) placed in
    let fits = or_fails _ _ room-left in
    let h = in_under_deck xs x r housed takes.1 in
    let within : passes_end h.under_deck.length x.length f ≡ false = sym (past_end_is xs x r h f) ∙ fits.0 in
    let m : has_m h.under_deck.m ≡ true = not-false _ (sym (without_m_is xs x r h) ∙ with-m) in
    let judged : measurable_in (enclosing xs x) x f ≡ true = measurable_is xs x r h f ∙ and_holds_of _ _ m (ap not within) in
    let room_fits : overfull L xs x ≡ false = and_fails _ _ fits.1 judged in
    let from-7 = together shallow (together once (together room_fits (together place_left no_more))) in
    record {
      as_room = facts_of_entry L xs x (accepted (together id_free (together housed (together takes.0 from-7))));
      inside = h;
      within_ends = within;
      has_m = m;
    }

pub tank_of_facts : (L : Hundredths) (xs : List Space) (x : Space) (f : Hundredths) → is_room x ≡ true → AcceptedTank L xs x f → tank_number L xs x f ≡ 0
unfolding tank_number entry_number
tank_of_facts L xs x f r a =
    let h = a.inside in
    let (id_free, from-5) = apart (none_applies (entry_tests L xs x) (omega arith) (entry_of_facts L xs x a.as_room)) in
    let (housed, from-6) = apart from-5 in
    let (takes, from-7) = apart from-6 in
    let (shallow, from-8) = apart from-7 in
    let (once, from-9) = apart from-8 in
    let (room_fits, from-10) = apart from-9 in
    let (place_left, _) = apart from-10 in
    let o = enclosing xs x in
    let in_one : in_no_under_deck o ≡ false = rw (encloses xs x r h) (ap not h.is_under_deck) in
    let placed : (misplaced xs x || in_no_under_deck o) ≡ false = or_fails_of _ _ takes in_one in
    let inside : past_end o x f ≡ false = past_end_is xs x r h f ∙ a.within_ends in
    let tons : (measurable_in o x f && overfull L xs x) ≡ false = and_fails_of (measurable_in o x f) _ (λ _. room_fits) in
    let room-left : (past_end o x f || (measurable_in o x f && overfull L xs x)) ≡ false = or_fails_of _ _ inside tons in
    let with-m : without_m o ≡ false = without_m_is xs x r h ∙ ap not a.has_m in
    let from-9 = together room-left (together place_left (together with-m no_more)) in
    accepted (together id_free (together housed (together placed (together shallow (together once from-9)))))

-- so 3 was judged of it, in the U that it names
pub measurable_there : {L : Hundredths} {xs : List Space} {x : Space} {f : Hundredths} → AcceptedTank L xs x f
    → let u = under_deck_with x.within xs in measurable u.length u.m x.length f ≡ true
measurable_there a = rw (named_under_deck a.inside) (and_holds_of _ _ a.has_m (ap not a.within_ends))

-- and an accepted tank is an accepted room
pub tank_is_room : (L : Hundredths) (xs : List Space) (x : Space) (f : Hundredths) → is_room x ≡ true → tank_number L xs x f ≡ 0 → entry_number L xs x ≡ 0
tank_is_room L xs x f r e = entry_of_facts L xs x (facts_of_tank L xs x f r e).as_room

-- ---- "On a sheet that calls reach, 7 and 8 never come from a tank, since a U is at level 1 and plain"

module _ {L : Hundredths} {xs : List Space} (v : Valid L xs) (x : Space) (f : Hundredths) (r : is_room x ≡ true) where
  -- past 4, 5 and 6 the tank is in a U, where neither applies; and no later test has such a number
  neither : (n : ℕ) → 6 < n → n < 9 → tank_number L xs x f ≡ n → ⊥
  unfolding tank_number
  neither n over under e =
      let (_, from-5) = refused_later (one_applies (tank_tests L xs x f) n (omega arith) e) (λ _ k. omega arith) in
      let (housed, from-6) = refused_later from-5 (λ _ k. omega arith) in
      let (placed, from-7) = refused_later from-6 (λ _ k. omega arith) in
      let h = in_under_deck xs x r housed (or_fails (misplaced xs x) _ placed).1 in
      let (_, from-8) = refused_later from-7 (λ t _. not_both t (not_too_deep xs x r h)) in
      let (_, from-9) = refused_later from-8 (λ t _. not_both t (not_off_twice xs x r h v)) in
      let (_, from-10) = refused_later from-9 (λ _ k. omega arith) in
      let (_, from-29) = refused_later from-10 (λ _ k. omega arith) in
      no_refusal (refused_later from-29 (λ _ k. omega arith)).1

  pub tank_never_7 : tank_number L xs x f ≡ 7 → ⊥
  tank_never_7 e = neither 7 (omega arith) (omega arith) e

  pub tank_never_8 : tank_number L xs x f ≡ 8 → ⊥
  tank_never_8 e = neither 8 (omega arith) (omega arith) e

-- ---- without m

-- "a U that came from a file takes no tank until it is entered anew": where no standing space has m, no tank is accepted
pub none_without_m : (L : Hundredths) (xs : List Space) (x : Space) (f : Hundredths) → is_room x ≡ true → tank_number L (all_recorded xs) x f ≡ 0 → ⊥
unfolding has_m
none_without_m L xs x f room z =
    let a = facts_of_tank L (all_recorded xs) x f room z in
    by_option (find x.within xs)
    (λ e. none_not_some (find_recorded x.within xs ∙ ap (option_map recorded) e) a.inside.stands)
    (λ y e.
    let same : Some (recorded y) ≡ Some a.inside.under_deck = sym (find_recorded x.within xs ∙ ap (option_map recorded) e) ∙ a.inside.stands in
    let no_m : a.inside.under_deck.m ≡ 0 = ap (λ (o : Option Space). (space_with o).m) (sym same) in
    not_both a.has_m (rw no_m))
