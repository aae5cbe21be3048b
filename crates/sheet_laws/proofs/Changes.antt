-- The three changes kept by place do what the paper says by id, and taken back leave the spaces as they were. Stands on Undoable.
use Rattle.std.proofs.Common.{ℕ, suc, ◌-◌, ◌≡◌, refl, sym, ap, ◌∙◌, List, [], ◌∷◌, ◌++◌, Some, arith, length, take, drop, get_or, set, length-append, length-take-le, take_at, drop_at, set-set, get_or-set_same}
use lib.Seq.{split_at, set-get_or}
use Rattle.measure.specs.declared.units.Hundredths.{Hundredths}
use Rattle.spaces.specs.declared.space.Space.{Space}
use Rattle.spaces.specs.Space.{empty_space, restanding}
use Rattle.spaces.specs.Row.{find, place_of, space_with}
use Rattle.standard.specs.Valid.{Valid}
use Rattle.spaces.proofs.Laws.Places.{placed}
use Rattle.spaces_laws.specs.Changes.{without, marked}
use Rattle.spaces_laws.proofs.Places.{without_by_place, marked_by_place}
use Rattle.sheet.specs.Changes.{removed, inserted, restood}
use Rattle.sheet.specs.declared.changes.Change.TheVariants.{Entered, Withdrawn, Marked}
use Rattle.sheet_laws.specs.Run.{ChangeById, outcome, id_withdrawn, id_marked}
use Rattle.sheet_laws.proofs.Undoable.{Leads}

-- a new space comes last, and is the one taken off
pub entry_leads : (x : Space) (by-id : ChangeById) (xs : List Space) → outcome by-id xs ≡ xs ++ (x ∷ []) → Leads (Entered x) by-id xs (xs ++ (x ∷ []))
entry_leads x by-id xs last =
    record {
      leads = refl;
      leads_back = take_at xs (x ∷ []) (length (xs ++ (x ∷ [])) - 1) (omega (arith, length-append xs (x ∷ [])));
      the_same = last;
    }

-- on a valid sheet the place of an id that stands is its only one
module _ {L : Hundredths} {xs : List Space} (v : Valid L xs) (id : ℕ) {z : Space} (stands : find id xs ≡ Some z) where
  -- "Undoing a withdrawal puts the space back at its former place in the order."
  pub withdrawal_leads : Leads (Withdrawn (place_of id xs) (space_with (find id xs))) (id_withdrawn id) xs (without id xs)
  withdrawal_leads =
      let p = place_of id xs in
      let found = placed id xs {z = z} stands in
      let size : length (take p xs) ≡ p = length-take-le p xs (omega (arith, found.in_order)) in
      let x = space_with (find id xs) in
      let there : get_or xs p empty_space ≡ x = found.there ∙ sym (ap space_with stands) in
      record {
        leads = sym (without_by_place id v);
        leads_back =
            ap (inserted p x) (without_by_place id v)
            ∙ ap (λ (l : List Space). l ++ x ∷ drop p (removed p xs)) (take_at (take p xs) (drop (suc p) xs) p size)
            ∙ ap (λ (l : List Space). take p xs ++ x ∷ l) (drop_at (take p xs) (drop (suc p) xs) p size)
            ∙ ap (λ (y : Space). take p xs ++ y ∷ drop (suc p) xs) (sym there)
            ∙ sym (split_at xs p empty_space found.in_order);
        the_same = refl;
      }

  -- the standing before is the one that the space had
  pub mark_leads : (standing : ℕ)
      → Leads (Marked (place_of id xs) (space_with (find id xs)).standing standing) (id_marked id standing) xs (marked id standing xs)
  mark_leads standing =
      let p = place_of id xs in
      let found = placed id xs {z = z} stands in
      let was = get_or xs p empty_space in
      let new = restanding standing was in
      let there : was ≡ space_with (find id xs) = found.there ∙ sym (ap space_with stands) in
      record {
        leads = sym (marked_by_place id standing v);
        leads_back =
            ap (restood p (space_with (find id xs)).standing) (marked_by_place id standing v)
            ∙ ap (λ (y : Space). restood p y.standing (set xs p new)) (sym there)
            ∙ ap (λ (y : Space). set (set xs p new) p (restanding was.standing y)) (get_or-set_same xs p new empty_space found.in_order)
            ∙ set-set xs p new was
            ∙ set-get_or xs p empty_space;
        the_same = refl;
      }
