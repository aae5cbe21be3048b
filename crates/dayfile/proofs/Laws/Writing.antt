-- What writing answers, and what it leaves in the buffer.
use Rattle.std.proofs.Common.{ℕ, ◌+◌, ◌*◌, ◌-◌, ◌≤◌, ◌≡◌, refl, sym, ap, ◌∙◌, Bool, true, false, cond, not, ◌||◌, List, [], ◌∷◌, ◌++◌, arith, ne_eqb, eqb-true, eqb, ltb, length, take, drop, length-append, length-take-le}
use borrow.Author.Tests.{not-false}
use Rattle.std.specs.Prelude.{Result, Ok, Err}
use lib.Seq.{sets, sets-eq}
use Rattle.std.specs.List.{list_any}
use Rattle.measure.specs.declared.units.Hundredths.{Hundredths}
use Rattle.standard.specs.Gross.{gross, net, deductions_pass}
use Rattle.spaces.specs.declared.space.Space.{Space}
use Rattle.sheet.specs.Sheet.{standing, usable}
use Rattle.sheet.specs.Calls.{lengths_short, ballast_unjustified, tests_to14, deductions_test, reported}
use Rattle.sheet.proofs.Laws.Calls.{passed}
use Rattle.sheet.proofs.Laws.Report.{given, past_14, given_past_14}
use Rattle.measure.specs.Refusals.{first_of}
use Rattle.spaces.proofs.Laws.Cases.{by_test, or_fails}
use Rattle.sheet.specs.declared.sheet.Sheet.{Sheet}
use Rattle.dayfile.specs.Fields.{widths}
use Rattle.dayfile.specs.Forms.{is_form, form_of, lost}
use Rattle.dayfile.specs.Record.{record_size, records}
use Rattle.dayfile.specs.Trailer.{trailer_fields, trailer_size, end_size, vessel_bytes, trailer_bytes, numbers_of_trailer, sheet_size}
use Rattle.dayfile.specs.Writing.{trailer_for, sheet_bytes, loses_deck, loses_number, too_little_room, lost_or_no_room, write_number, written, written_into}
use Rattle.dayfile.specs.Handed.{refusal, form_refusal, stored, stored_into, written_as, handed_back}
use Rattle.dayfile.specs.declared.forms.Form.{Form}
use Rattle.dayfile.specs.declared.trailer.Trailer.{Trailer}
use Rattle.dayfile.specs.declared.refusals.Refusal.{Refusal}
use Rattle.dayfile.proofs.Laws.Stores.{stored_in_two_parts}
use Rattle.dayfile.proofs.Laws.Numbers.{length_bytes}
use Rattle.dayfile.proofs.Laws.Fields.{length_encoded}
use Rattle.dayfile.proofs.Laws.Record.{length_records}

-- 20 of the spaces: a deck of any of them would be lost
pub any_deck : (f : Form) (xs : List Space) → list_any (λ x. lost f.deck x.deck) xs ≡ loses_deck f xs
any_deck f [] = refl
any_deck f (x ∷ xs) = ap (λ (t : Bool). lost f.deck x.deck || t) (any_deck f xs)

pub length_trailer : (t : Trailer) → length (trailer_bytes t) ≡ trailer_size
length_trailer t = length_encoded (widths trailer_fields) (numbers_of_trailer t) refl

pub length_vessel : (f : Form) (vessel : ℕ) → length (vessel_bytes f vessel) ≡ f.vessel
length_vessel f vessel = length_bytes f.vessel vessel

-- what stands behind the records
pub length_end : (vessel : ℕ) (t : Trailer) → length (vessel_bytes (form_of t.form) vessel ++ trailer_bytes t) ≡ end_size (form_of t.form)
length_end vessel t =
    let f = form_of t.form in
    length-append (vessel_bytes f vessel) (trailer_bytes t) ∙ omega (arith, length_vessel f vessel, length_trailer t)

module _ (s : Sheet) (justified form : ℕ) where
  pub length_sheet : s.count ≤ length s.spaces → length (sheet_bytes s justified form) ≡ sheet_size (form_of form) s.count
  unfolding sheet_bytes
  length_sheet h =
      let f = form_of form in
      let end = vessel_bytes f s.vessel ++ trailer_bytes (trailer_for s justified form) in
      let many : record_size f * length (standing s) ≡ record_size f * s.count =
      ap (λ (n : ℕ). record_size f * n) (length-take-le s.count s.spaces h) in
      length-append (records f (standing s)) end
      ∙ omega (arith, length_records f (standing s), many, length_end s.vessel (trailer_for s justified form))

-- ---- 1, 2, 13 and 14

-- the tests that a report and a write begin with, by what they look at: whether the sheet is open, the mark outside its range, lengths
-- short and ballast not justified
module _ (on marked short unjustified : Bool) where
  abbrev tests : List (Bool × ℕ)
  tests = (not on, 1) ∷ (marked, 2) ∷ (short, 13) ∷ (unjustified, 14) ∷ []

  -- and what is made of them where deductions pass gross, or don't, in a form that there is, or isn't
  abbrev refusal_of : (pass known : Bool) → ℕ
  refusal_of pass known = form_refusal (first_of (tests ++ ((pass, 21) ∷ []))) known

-- a write's number by that of its report and its form, whatever comes after 14
by_report : (on marked short unjustified pass known : Bool) (last : List (Bool × ℕ))
    → first_of (tests on (marked || not known) short unjustified ++ last)
    ≡ (let n = refusal_of on marked short unjustified pass known in cond (eqb n 0) (first_of last) n)
by_report false _ _ _ _ _ last = refl
by_report true true _ _ _ false last = refl
by_report true false true _ _ false last = refl
by_report true false false true _ false last = refl
by_report true false false false true false last = refl
by_report true false false false false false last = refl
by_report true true _ _ _ true last = refl
by_report true false true _ _ true last = refl
by_report true false false true _ true last = refl
by_report true false false false true true last = refl
by_report true false false false false true last = refl

-- 21 is given at the latest
given_at_last : (loses short : Bool) → eqb (first_of ((loses, 20) ∷ (short, 15) ∷ (true, 21) ∷ [])) 0 ≡ false
given_at_last true short = refl
given_at_last false true = refl
given_at_last false false = refl

module _ (s : Sheet) (justified form : ℕ) where
  -- where none of 1, 2, 13 and 14 of a write applies, none of its report does, and there is the form
  pub within_form : first_of (tests_to14 s justified (ltb 1 justified || not (is_form form))) ≡ 0
      → (first_of (tests_to14 s justified (ltb 1 justified)) ≡ 0) × (is_form form ≡ true)
  within_form e =
      let rest : List (Bool × ℕ) = (lengths_short s, 13) ∷ (ballast_unjustified s justified, 14) ∷ [] in
      let one = passed (not (usable s)) 1 ((ltb 1 justified || not (is_form form), 2) ∷ rest) e (λ z. omega arith) in
      let two = passed (ltb 1 justified || not (is_form form)) 2 rest one.1 (λ z. omega arith) in
      let said = or_fails (ltb 1 justified) (not (is_form form)) two.0 in
      (rw (one.0, said.0) two.1, not-false (is_form form) said.1)

  -- what is refused neither by 1, 2, 13 or 14 of its report nor by its form
  pub none_refused : form_refusal (reported s justified).number (is_form form) ≡ 0
      → (first_of (tests_to14 s justified (ltb 1 justified)) ≡ 0) × (is_form form ≡ true)
  unfolding reported
  none_refused e =
      within_form (by_report (usable s) (ltb 1 justified) (lengths_short s) (ballast_unjustified s justified) (deductions_pass (standing s)) (is_form form) [] ∙ rw e)

module _ (s : Sheet) (justified form size at : ℕ) where
  abbrev last_numbers_lem : List (Bool × ℕ)
  last_numbers_lem = lost_or_no_room form s size at ++ deductions_test s

  number_is : (let n = form_refusal (reported s justified).number (is_form form) in write_number s justified form size at ≡ cond (eqb n 0) (first_of last_numbers_lem) n)
  unfolding write_number reported
  number_is = by_report (usable s) (ltb 1 justified) (lengths_short s) (ballast_unjustified s justified) (deductions_pass (standing s)) (is_form form) last_numbers_lem

  -- 20, 15 and 21 are left where none of 1, 2, 13 and 14 applies
  pub number_past_14 : first_of (tests_to14 s justified (ltb 1 justified)) ≡ 0 → is_form form ≡ true → write_number s justified form size at ≡ first_of last_numbers_lem
  number_past_14 z known =
      number_is ∙ rw (past_14 s justified z, known) (by_test (deductions_pass (standing s)) (λ t. rw t) (λ f. rw f))

  -- and 20 and 15 where the report is given
  pub number_reported : (reported s justified).number ≡ 0 → is_form form ≡ true → write_number s justified form size at ≡ first_of (lost_or_no_room form s size at)
  number_reported z known =
      number_past_14 (given_past_14 s justified z) known
      ∙ ap (λ (pass : Bool). first_of (lost_or_no_room form s size at ++ ((pass, 21) ∷ []))) (given s justified _ refl z).none_pass

-- what is answered, with the sheet handed back
pub handed_with : (s : Sheet) (justified form size at : ℕ) → handed_back (written_as s justified form size at) s ≡ written s justified form size at
unfolding written_as written
handed_with s justified form size at =
    let n = write_number s justified form size at in
    by_test (eqb n 0)
    (λ t. let zero : n ≡ 0 = eqb-true n 0 t in rw zero)
    (λ f. rw f)

module _ (s : Sheet) (justified form at : ℕ) (buffer : List ℕ) where
  -- the answer and the buffer after it
  abbrev pub Answered : Result ℕ Refusal → List ℕ → Type 0
  Answered r after = (r ≡ written_as s justified form (length buffer) at) × (after ≡ written_into s justified form at buffer)

  pub refused_with : (n : ℕ) → n ≡ form_refusal (reported s justified).number (is_form form) → (n ≡ 0 → ⊥) → Answered (Err (refusal n)) buffer
  unfolding written_as written_into
  refused_with n e h =
      let is : write_number s justified form (length buffer) at ≡ n = number_is s justified form (length buffer) at ∙ rw (← e, ne_eqb n 0 h) in
      (rw (is, ne_eqb n 0 h), rw (is, ne_eqb n 0 h))

  -- what is stored of the sheet is what is written of it
  module _ (pass : Bool) (n g m vessel : ℕ) (l : Hundredths) (xs : List Space) (r : Result ℕ Refusal) (after : List ℕ) where
    abbrev t : Trailer
    t = record { count = n; justified = justified; form = form; tonnage_length = l; gross = g; net = m }

    pub stored_is_written : first_of (tests_to14 s justified (ltb 1 justified)) ≡ 0 → is_form form ≡ true → pass ≡ deductions_pass (standing s)
        → n ≡ s.count → l ≡ s.length → (pass ≡ false → (g ≡ gross (standing s)) × (m ≡ net (standing s))) → vessel ≡ s.vessel → xs ≡ standing s
        → r ≡ stored t pass vessel xs (length buffer) at → after ≡ stored_into t pass vessel xs at buffer
        → Answered r after
    unfolding written_as written_into sheet_bytes loses_number
    stored_is_written z known e₁ e₂ e₃ figures e₄ e₅ e₆ e₇ =
        let is = number_past_14 s justified form (length buffer) at z known in
        by_test pass
        (λ over.
        let passes : deductions_pass (standing s) ≡ true = sym e₁ ∙ over in
        let none = given_at_last (loses_number (form_of form) s) (too_little_room (form_of form) s.count (length buffer) at) in
        (rw (e₆, e₂, e₄, e₅, over, is, passes) (rw none), rw (e₇, e₂, e₄, e₅, over, is, passes) (rw none)))
        (λ within.
        let (gross_is, net_is) = figures within in
        let stays : deductions_pass (standing s) ≡ false = sym e₁ ∙ within in
        (rw (e₆, e₂, e₄, e₅, within, is, stays), rw (e₇, e₂, e₃, gross_is, net_is, e₄, e₅, within, is, stays)))

-- ---- 20, 15, 21 and the bytes

module _ (t : Trailer) (pass : Bool) (vessel : ℕ) (xs : List Space) (at : ℕ) (buffer : List ℕ) where
  abbrev pub AnsweredStore : Result ℕ Refusal → List ℕ → Type 0
  AnsweredStore r after = (r ≡ stored t pass vessel xs (length buffer) at) × (after ≡ stored_into t pass vessel xs at buffer)

  pub loses : (r : Refusal) → r ≡ refusal 20 → (lost (form_of t.form).vessel vessel || loses_deck (form_of t.form) xs) ≡ true → AnsweredStore (Err r) buffer
  loses r is l = (rw (is, l), rw l)

  pub no_room : (r : Refusal) → r ≡ refusal 15 → (lost (form_of t.form).vessel vessel || loses_deck (form_of t.form) xs) ≡ false
      → too_little_room (form_of t.form) t.count (length buffer) at ≡ true → AnsweredStore (Err r) buffer
  no_room r is l s = (rw (is, l, s), rw (l, s))

  pub over_gross : (r : Refusal) → r ≡ refusal 21 → (lost (form_of t.form).vessel vessel || loses_deck (form_of t.form) xs) ≡ false
      → too_little_room (form_of t.form) t.count (length buffer) at ≡ false → pass ≡ true → AnsweredStore (Err r) buffer
  over_gross r is l s p = (rw (is, l, s, p), rw (l, s, p))

  -- as the code makes it: the records stored in the part from the named place on, and what stands behind them in the part behind
  pub stored_whole : (size end : ℕ) (b m₁ m₂ : List ℕ)
      → (lost (form_of t.form).vessel vessel || loses_deck (form_of t.form) xs) ≡ false
      → too_little_room (form_of t.form) t.count (length buffer) at ≡ false → pass ≡ false → length xs ≡ t.count
      → size ≡ sheet_size (form_of t.form) t.count → end ≡ at + record_size (form_of t.form) * t.count → at ≤ length buffer → size ≤ length buffer - at
      → b ≡ take at buffer ++ (m₁ ++ drop (length buffer - at) (drop at buffer))
      → m₁ ≡ sets (take (length buffer - at) (drop at buffer)) 0 (records (form_of t.form) xs)
      → m₂ ≡ sets (take (length b - end) (drop end b)) 0 (vessel_bytes (form_of t.form) vessel ++ trailer_bytes t)
      → AnsweredStore (Ok size) (take end b ++ (m₂ ++ drop (length b - end) (drop end b)))
  stored_whole size end b m₁ m₂ l r within many size_is end_is from_place enough whole first second =
      let f = form_of t.form in
      let behind = vessel_bytes f vessel ++ trailer_bytes t in
      let recorded : length (records f xs) ≡ record_size f * t.count = length_records f xs ∙ ap (λ (n : ℕ). record_size f * n) many in
      let all : length (records f xs ++ behind) ≡ size = length-append (records f xs) behind ∙ omega (arith, recorded, length_end vessel t, size_is) in
      let runs =
      stored_in_two_parts buffer b m₁ m₂ (records f xs) behind at end from_place
      (end_is ∙ ap (λ (n : ℕ). at + n) (sym recorded))
      (omega (arith, end_is, size_is, enough, from_place))
      whole
      first
      second in
      (rw (l, r, within, size_is), rw (l, r, within) (runs ∙ sets-eq (records f xs ++ behind) buffer at (omega (arith, all, enough, from_place))))
