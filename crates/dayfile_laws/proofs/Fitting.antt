-- The numbers of records that `resume` accepts all fit the fields of the file. Stands on Records.
use Rattle.std.proofs.Common.{ℕ, zero, suc, ◌*◌, ◌≤◌, ◌≡◌, refl, ap, true, false, not, ◌||◌, List, [], ◌∷◌, ⊎_elim, le_trans, arith, ltb-true, ltb-false, leb-true, eqb-true, ltb, leb}
use mathlib.Core.List.Memᴰ
use borrow.Author.Tests.{not-false}
use Rattle.measure.specs.declared.units.Hundredths.{Hundredths}
use Rattle.measure.specs.Kinds.{kind_of}
use Rattle.measure.specs.Ranges.{includes, lengths}
use Rattle.measure.specs.Handed.{most_tons}
use Rattle.measure.specs.declared.kinds.Kind.{Kind}
use Rattle.measure.specs.declared.kinds.Kind.TheVariants.{UnderDeck, BetweenDeck, Superstructure, Hatchway, Room, NoKind}
use Rattle.measure.specs.declared.ranges.Range.{Range}
use Rattle.measure.proofs.Laws.Tests.{and_left}
use Rattle.measure.proofs.Laws.Ranges.{includes_most}
use Rattle.spaces.specs.Space.{is_room}
use Rattle.standard.specs.Standings.{may_take}
use Rattle.standard.specs.Gross.{gross, net}
use Rattle.spaces.specs.declared.space.Space.{Space}
use Rattle.spaces.proofs.Laws.Cases.{by_test, not_both, or_fails}
use Rattle.standard.proofs.Laws.Standings.{kind_outside}
use Rattle.spaces_laws.proofs.Tests.{and_fails}
use Rattle.spaces_laws.proofs.Lists.{◌∈◌, found_stands}
use Rattle.spaces_laws.proofs.Standings.{standing_at_most}
use Rattle.spaces_laws.proofs.Valid.{Sound, valid_is_sound}
use Rattle.spaces_laws.proofs.Report.{net_at_most_gross, gross_bounded}
use Rattle.standard.specs.Records.{misrecorded}
use Rattle.sheet_laws.proofs.Resumable.{Resumable}
use Rattle.dayfile.specs.Forms.{form_of, lost}
use Rattle.dayfile.specs.Record.{record_fields, numbers_of}
use Rattle.dayfile.specs.Writing.{loses_deck}
use Rattle.dayfile.specs.declared.forms.Form.{Form}
use Rattle.dayfile_laws.proofs.Fields.{InFields, fitting_of}
use Rattle.dayfile_laws.proofs.Forms.{held_in}
use Rattle.dayfile_laws.proofs.Records.{Fits}

-- the lengths of every kind
every_length : (k : Kind) → (1 ≤ (lengths k).least) × ((lengths k).most ≤ 150000)
every_length UnderDeck = omega arith
every_length BetweenDeck = omega arith
every_length Superstructure = omega arith
every_length Hatchway = omega arith
every_length Room = omega arith
every_length NoKind = omega arith

pub in_range : (r : Range) (x : ℕ) → includes r x ≡ true → (r.least ≤ x) × (x ≤ r.most)
unfolding includes
in_range r x e = (leb-true _ _ (and_left (leb r.least x) _ e), includes_most r x e)

-- the rows of the table of standings
kind_at_least : (kind taken : ℕ) → may_take kind taken ≡ true → 1 ≤ kind
unfolding may_take
kind_at_least zero taken e = not_both e refl
kind_at_least (suc kind) taken e = omega arith

kind_at_most : (kind taken : ℕ) → may_take kind taken ≡ true → kind ≤ 5
kind_at_most kind taken e =
    by_test (ltb 5 kind) (λ t. not_both e (kind_outside kind taken (ltb-true _ _ t))) (λ f. ltb-false _ _ f)

-- what `misrecorded` leaves of one that an entry could have made
record RightlyRecorded (x : Space) : Type 0 where
  tonnage_at_most : x.tonnage ≤ most_tons
  deck_at_most : x.deck ≤ 99
  length_at_least : 1 ≤ x.length.0
  length_at_most : x.length.0 ≤ 150000
  no_enclosing_id : is_room x ≡ false → x.within ≡ 0

record_facts : (x : Space) → misrecorded x ≡ false → RightlyRecorded x
record_facts x e =
    let a = or_fails (ltb 100000000 x.tonnage || ltb 99 x.deck || not (includes (lengths (kind_of x.kind)) x.length.0)) _ e in
    let b = or_fails (ltb 100000000 x.tonnage || ltb 99 x.deck) _ a.0 in
    let c = or_fails (ltb 100000000 x.tonnage) _ b.0 in
    let l = in_range (lengths (kind_of x.kind)) x.length.0 (not-false _ b.1) in
    let k = every_length (kind_of x.kind) in
    record {
      tonnage_at_most = ltb-false _ _ c.0;
      deck_at_most = ltb-false _ _ c.1;
      length_at_least = le_trans k.0 l.0;
      length_at_most = le_trans l.1 k.1;
      no_enclosing_id = λ f. eqb-true _ 0 (not-false _ (and_fails (not (is_room x)) _ a.1 (ap not f)));
    }

-- where no deck is lost, that of each space isn't
pub deck_kept : (f : Form) {xs : List Space} → loses_deck f xs ≡ false → {y : Space} → y ∈ xs → lost f.deck y.deck ≡ false
deck_kept f {xs = []} none_lost m = absurd (Memᴰ.not-nil m)
deck_kept f {xs = x ∷ xs} none_lost {y} m =
    let o = or_fails (lost f.deck x.deck) (loses_deck f xs) none_lost in
    ⊎_elim (λ (q : y ≡ x). rw q o.0) (λ (k : y ∈ xs). deck_kept f o.1 k) (Memᴰ.cases_cons m)

-- ---- all numbers of records that are accepted

module _ {L : Hundredths} {xs : List Space} (a : Resumable L xs) where
  sound : Sound L xs
  sound = valid_is_sound a.valid

  recorded : {y : Space} → y ∈ xs → RightlyRecorded y
  recorded {y} m = record_facts y (a.well_recorded y m)

  -- an enclosing id is that of a space that stands, or 0
  enclosing_id_at_most : {y : Space} → y ∈ xs → y.within ≤ 9999
  enclosing_id_at_most {y} m =
      by_test (is_room y)
      (λ r.
      let home = (sound.member y m).enclosed r in
      let found = found_stands y.within xs {z = home.home} home.home_stands in
      omega (arith, found.1, (sound.member home.home found.0).id_at_most))
      (λ f. omega (arith, (recorded m).no_enclosing_id f))

  -- all numbers fit a form that loses no deck
  pub each_fits : (form : ℕ) → loses_deck (form_of form) xs ≡ false → (y : Space) → y ∈ xs → Fits form y
  each_fits form none_lost y m =
      let o = sound.member y m in
      let r = recorded m in
      let facts : InFields (record_fields (form_of form)) (numbers_of y) =
      omega (
        arith,
        o.id_at_least,
        o.id_at_most,
        enclosing_id_at_most m,
        kind_at_least y.kind y.standing o.may_take,
        kind_at_most y.kind y.standing o.may_take,
        standing_at_most y.kind y.standing o.may_take,
        r.tonnage_at_most,
        r.length_at_least,
        r.length_at_most,
        held_in (form_of form).deck y.deck 99 (deck_kept (form_of form) none_lost m) r.deck_at_most,
      ) in
      fitting_of (record_fields (form_of form)) (numbers_of y) facts

  -- 200 times 100,000,000 is far below 2 ^ 64
  pub gross_at_most : gross xs ≤ 200 * most_tons
  gross_at_most = gross_bounded a.valid (λ y m. (recorded m).tonnage_at_most)

  pub net_at_most : net xs ≤ 200 * most_tons
  net_at_most = le_trans (net_at_most_gross xs) gross_at_most
