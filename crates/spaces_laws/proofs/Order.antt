-- A valid sheet by places: each space is accepted as an entry after those before it, so a room comes after its enclosing space. Stands
-- on Entry, Walk.
use Rattle.std.proofs.Common.{ℕ, zero, suc, ◌<◌, ◌≡◌, sym, ap, ◌∙◌, true, List, [], ◌∷◌, ◌++◌, append-nil, Some, arith, length, get_or, take, drop, take-append-drop, length-take-le, get_or-take}
use lib.Seq.{append_snoc}
use Rattle.measure.specs.declared.units.Hundredths.{Hundredths}
use Rattle.spaces.specs.declared.space.Space.{Space}
use Rattle.spaces.specs.Space.{empty_space, is_room}
use Rattle.spaces.specs.Row.{find, place_of}
use Rattle.spaces.specs.Enclosure.{enclosing}
use Rattle.standard.specs.Rules.{entry_number}
use Rattle.standard.specs.Valid.{ValidFrom, done, next, Valid}
use Rattle.spaces.proofs.Laws.Places.{placed}
use Rattle.spaces_laws.proofs.Lists.{find_before}
use Rattle.spaces_laws.proofs.Walk.{enclosing_of_room}
use Rattle.spaces_laws.proofs.Entry.{facts_of_entry}

entered_at_from : {L : Hundredths} {pre xs : List Space} → ValidFrom L pre xs → (i : ℕ) → i < length xs
    → entry_number L (pre ++ take i xs) (get_or xs i empty_space) ≡ 0
entered_at_from done i h = absurd (omega arith)
entered_at_from (next e v) zero h = rw append-nil e
entered_at_from (next e v) (suc i) h = rw append_snoc at (entered_at_from v i (omega arith))

-- "in file order as entries"
pub entered_at : {L : Hundredths} {xs : List Space} → Valid L xs → (i : ℕ) → i < length xs → entry_number L (take i xs) (get_or xs i empty_space) ≡ 0
entered_at v i h = entered_at_from v i h

valid_from_each : (L : Hundredths) (pre xs : List Space) → ((i : ℕ) → i < length xs → entry_number L (pre ++ take i xs) (get_or xs i empty_space) ≡ 0)
    → ValidFrom L pre xs
valid_from_each L pre [] each = done
valid_from_each L pre (x ∷ xs) each =
    next (rw append-nil at (each 0 (omega arith))) (valid_from_each L (pre ++ (x ∷ [])) xs (λ i h. rw append_snoc (each (suc i) (omega arith))))

-- and that is all a valid sheet is
pub valid_of_each_entered : (L : Hundredths) (xs : List Space) → ((i : ℕ) → i < length xs → entry_number L (take i xs) (get_or xs i empty_space) ≡ 0)
    → Valid L xs
valid_of_each_entered L xs each = valid_from_each L [] xs each

-- the space at a place has its enclosing space at an earlier one
pub record EnclosedBefore (xs : List Space) (i : ℕ) : Type 0 where
  pub place : ℕ
  pub earlier : place < i
  pub encloses : enclosing xs (get_or xs i empty_space) ≡ Some (get_or xs place empty_space)

pub room_after_its_enclosing : {L : Hundredths} {xs : List Space} → Valid L xs → (i : ℕ) → i < length xs → is_room (get_or xs i empty_space) ≡ true
    → EnclosedBefore xs i
room_after_its_enclosing {L} {xs} v i h r =
    let x = get_or xs i empty_space in
    let home = (facts_of_entry L (take i xs) x (entered_at v i h)).enclosed r in
    let found = placed x.within (take i xs) {z = home.home} home.home_stands in
    let p = place_of x.within (take i xs) in
    let early : p < i = omega (arith, found.in_order, length-take-le i xs (omega arith)) in
    record {
      place = p;
      earlier = early;
      encloses =
          enclosing_of_room xs x r
          ∙ ap (find x.within) (sym (take-append-drop i xs))
          ∙ find_before x.within (take i xs) (drop i xs) {z = home.home} home.home_stands
          ∙ ap Some (sym found.there ∙ get_or-take i xs p empty_space early);
    }
