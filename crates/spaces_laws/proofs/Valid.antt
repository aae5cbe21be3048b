-- What holds of a valid sheet and of every space on it, whatever the order; an accepted entry keeps it. Stands on Entry, Walk.
use Rattle.std.proofs.Common.{ℕ, ◌+◌, ◌≤◌, ◌≡◌, refl, sym, ap, ◌∙◌, true, ◌&&◌, List, [], ◌∷◌, ◌++◌, append-nil, None, Some, arith, eqb-true, eqb, length-append}
use mathlib.Core.List.Memᴰ
use lib.Seq.{append_snoc}
use Rattle.measure.specs.declared.units.Hundredths.{Hundredths}
use Rattle.spaces.specs.declared.space.Space.{Space}
use Rattle.spaces.specs.declared.sums.Amount.TheVariants.{Inside, Lengths}
use Rattle.spaces.specs.Space.{is_under_deck, is_room}
use Rattle.spaces.specs.Row.{find, amount_of, sum_of}
use Rattle.spaces.specs.Enclosure.{above}
use Rattle.standard.specs.Rules.{entry_number}
use Rattle.standard.specs.Valid.{ValidFrom, done, next, Valid}
use Rattle.spaces.proofs.Laws.Cases.{by_test, none_not_some, some_same}
use Rattle.spaces.proofs.Laws.Row.{sum_append}
use Rattle.spaces_laws.specs.Above.{◌∈◌}
use Rattle.spaces_laws.specs.Accepted.{Enclosed, Accepted}
pub use Rattle.spaces_laws.specs.Sound.{Member, Sound}
use Rattle.spaces_laws.proofs.Tests.{and_holds}
use Rattle.spaces_laws.proofs.Lists.{all_snoc, find_here, find_before, find_behind, sum_of_none, outside_adds_none}
use Rattle.spaces_laws.proofs.Walk.{Closed, upward_append}
use Rattle.spaces_laws.proofs.Entry.{facts_of_entry}

pub closed : {xs : List Space} {y : Space} → (is_room y ≡ true → Enclosed xs y) → Closed xs y
closed h r = ((h r).home, (h r).home_stands)

enclosed_append : (xs ys : List Space) (y : Space) → Enclosed xs y → Enclosed (xs ++ ys) y
enclosed_append xs ys y h =
    record { home = h.home; home_stands = find_before _ xs ys h.home_stands; no_hatchway = h.no_hatchway }

-- what is above a space stays above it however the sheet goes on
pub above_kept : {L : Hundredths} {xs : List Space} → Sound L xs → (ys : List Space) (y : Space) → (is_room y ≡ true → Enclosed xs y)
    → above (xs ++ ys) y ≡ above xs y
unfolding above
above_kept {L} {xs} s ys y h = upward_append 8 xs ys (λ z m. closed (s.member z m).enclosed) y (closed h)

-- the space found by an id is the one that has it
pub same_by_id : {xs : List Space} {y z : Space} (id : ℕ) → Member xs y → find id xs ≡ Some z → y.id ≡ id → z ≡ y
same_by_id {xs} id o e q = some_same e (ap (λ (n : ℕ). find n xs) (sym q) ∙ o.found)

-- ---- one more entry

module _ (L : Hundredths) (xs : List Space) (x : Space) (s : Sound L xs) (a : Accepted L xs x) where
  -- where an id doesn't stand, no room is inside it
  none_inside : (id : ℕ) → find id xs ≡ None → (y : Space) → (is_room y ≡ true → Enclosed xs y) → amount_of (Inside id) y ≡ 0
  none_inside id absent y h =
      outside_adds_none id y.tonnage y (λ r q. none_not_some absent (rw q at (h r).home_stands))

  room_fits : (y : Space) → y ∈ xs → is_room x ≡ true → x.within ≡ y.id → sum_of (Inside y.id) xs + x.tonnage ≤ y.tonnage
  room_fits y m r q =
      let e : (a.enclosed r).home ≡ y = same_by_id x.within (s.member y m) (a.enclosed r).home_stands (sym q) in
      rw (q, e) at (a.rooms_fit r)

  rooms_kept : (y : Space) → y ∈ xs → sum_of (Inside y.id) xs + amount_of (Inside y.id) x ≤ y.tonnage
  rooms_kept y m =
      by_test (is_room x && eqb x.within y.id)
      (λ t. let b = and_holds _ _ t in rw t (room_fits y m b.0 (eqb-true _ _ b.1)))
      (λ f. rw f (omega (arith, (s.member y m).rooms_fit)))

  old_member : (y : Space) → y ∈ xs → Member (xs ++ (x ∷ [])) y
  old_member y m =
      let o = s.member y m in
      record {
        found = find_before _ xs _ o.found;
        id_at_least = o.id_at_least;
        id_at_most = o.id_at_most;
        may_take = o.may_take;
        enclosed = λ r. enclosed_append xs _ y (o.enclosed r);
        level_at_most = rw (above_kept s _ y o.enclosed) o.level_at_most;
        plain_above = λ p. rw (above_kept s _ y o.enclosed) (o.plain_above p);
        rooms_fit = omega (arith, rooms_kept y m, sum_append (amount_of (Inside y.id)) xs (x ∷ []));
      }

  new_member : Member (xs ++ (x ∷ [])) x
  new_member =
      record {
        found = find_behind _ xs _ a.id_free ∙ find_here _ x [] refl;
        id_at_least = a.id_at_least;
        id_at_most = a.id_at_most;
        may_take = a.may_take;
        enclosed = λ r. enclosed_append xs _ x (a.enclosed r);
        level_at_most = rw (above_kept s _ x a.enclosed) a.level_at_most;
        plain_above = λ p. rw (above_kept s _ x a.enclosed) (a.plain_above p);
        rooms_fit =
            omega (
              arith,
              sum_append (amount_of (Inside x.id)) xs (x ∷ []),
              sum_of_none (amount_of (Inside x.id)) xs (λ y m. none_inside x.id a.id_free y (s.member y m).enclosed),
              none_inside x.id a.id_free x a.enclosed,
            );
      }

  lengths_kept : sum_of Lengths (xs ++ (x ∷ [])) ≤ L.0
  lengths_kept =
      let e = sum_append (amount_of Lengths) xs (x ∷ []) in
      by_test (is_under_deck x)
      (λ u. let n : sum_of Lengths (xs ++ (x ∷ [])) ≡ sum_of Lengths xs + (x.length.0 + 0) = rw u at e in omega (arith, a.lengths_fit u))
      (λ u. let n : sum_of Lengths (xs ++ (x ∷ [])) ≡ sum_of Lengths xs + (0 + 0) = rw u at e in omega (arith, s.lengths_fit))

  pub sound_entered : Sound L (xs ++ (x ∷ []))
  sound_entered =
      record {
        member = all_snoc (Member (xs ++ (x ∷ []))) xs x old_member new_member;
        lengths_fit = lengths_kept;
        at_most_200 = omega (arith, a.place_left, length-append xs (x ∷ []));
      }

pub sound_empty : (L : Hundredths) → Sound L []
sound_empty L =
    record { member = λ y m. absurd (Memᴰ.not-nil m); lengths_fit = omega arith; at_most_200 = omega arith }

sound_from : {L : Hundredths} {pre xs : List Space} → Sound L pre → ValidFrom L pre xs → Sound L (pre ++ xs)
sound_from {L} {pre} s done = rw append-nil s
sound_from {L} {pre} s (next {x = x} e v) = rw append_snoc at (sound_from (sound_entered L pre x s (facts_of_entry L pre x e)) v)

pub valid_is_sound : {L : Hundredths} {xs : List Space} → Valid L xs → Sound L xs
valid_is_sound {L} v = sound_from (sound_empty L) v

-- ---- a valid sheet and what goes on from it

valid_joined : {L : Hundredths} {pre xs : List Space} (ys : List Space) → ValidFrom L pre xs → ValidFrom L (pre ++ xs) ys → ValidFrom L pre (xs ++ ys)
valid_joined {L} {pre} ys done w = rw append-nil at w
valid_joined {L} {pre} ys (next e v) w = next e (valid_joined ys v (rw append_snoc w))

-- an accepted entry at the end keeps a sheet valid
pub valid_entered : {L : Hundredths} {xs : List Space} (x : Space) → Valid L xs → entry_number L xs x ≡ 0 → Valid L (xs ++ (x ∷ []))
valid_entered x v e = valid_joined (x ∷ []) v (next e done)
