-- One word of a line judged, then the next.
use Rattle.std.proofs.Common.{ℕ, ◌+◌, ◌≤◌, ◌<◌, ◌≡◌, refl, ap, sym, ◌∙◌, Bool, true, false, cond, not, List, [], ◌∷◌, arith, eq-eqb, ne_eqb, eqb, length, get_or, drop, drop_of_length-le, length-drop, get_or-drop}
use Rattle.std.proofs.lemmas.Slice.Zip.{length-zip, get_or-zip}
use Rattle.std.proofs.lemmas.List.{at_drop_more, drop_more}
use Rattle.script.specs.Words.{parts_of, marks_in, words_of}
use Rattle.script.specs.Calls.{is_form, judged_number, judged_numbers, place_by, place_among, Judged, or_else, judged_word, judged_words, judged}
use Rattle.std.specs.List.{position, position_or_len, slice_split, zip}
use Rattle.std.specs.Prelude.{Ok, Err}
use Rattle.script.specs.declared.remarks.Remark.TheVariants.{WrongNumberOfWords}
use Rattle.script.proofs.Laws.Parts.{parts_counted, parts_split}

place_counted : (counted : Bool) (line : List ℕ) (forms : List (List ℕ)) → position_or_len (is_form counted line) forms ≡ place_by counted line forms
place_counted counted line [] = refl
place_counted counted line (form ∷ others) =
    elim (is_form counted line form) as
    (λ b. cond (not b) (1 + position_or_len (is_form counted line) others) 0 ≡ cond b 0 (1 + place_by counted line others))
    [ true ↦ refl | false ↦ ap (λ (k : ℕ). 1 + k) (place_counted counted line others) ]

-- the place at which `position` finds a form
pub place_found : (counted : Bool) (line text : List ℕ)
    → position (is_form counted line) (slice_split (λ b. eqb b 10) text) ≡ place_among (parts_of 10 text) (place_by counted line (parts_of 10 text))
place_found counted line text =
    ap (position (is_form counted line)) (parts_split 10 text)
    ∙ ap (place_among (parts_of 10 text)) (place_counted counted line (parts_of 10 text))

module _ (form line : List ℕ) where
  pub wrong_number : (marks_in 32 line ≡ marks_in 32 form → ⊥) → judged form line ≡ Err WrongNumberOfWords
  unfolding judged
  wrong_number n =
      let m : length (words_of line) ≡ length (words_of form) → ⊥ = λ e. n (omega (arith, parts_counted 32 line, parts_counted 32 form)) in
      rw (ne_eqb _ _ m)

  module _ (same : marks_in 32 line ≡ marks_in 32 form) where
    pub right_number : judged form line ≡ judged_words (drop 1 (words_of form)) (drop 1 (words_of line))
    unfolding judged
    right_number =
        let m : length (words_of line) ≡ length (words_of form) = omega (arith, parts_counted 32 line, parts_counted 32 form) in
        rw (eq-eqb _ _ m)

    -- the word at a place, judged as it was told, then those behind it
    pub words_ahead : (k : ℕ) (asked word : List ℕ) {j told : Judged}
        → (k < length (drop 1 (zip (slice_split (λ b. eqb b 32) form) (slice_split (λ b. eqb b 32) line))))
        × ((asked, word) ≡ get_or (drop 1 (zip (slice_split (λ b. eqb b 32) form) (slice_split (λ b. eqb b 32) line))) k (asked, word))
        → j ≡ judged_word asked word → j ≡ told
        → judged_words (drop (k + 1) (words_of form)) (drop (k + 1) (words_of line))
        ≡ or_else told (judged_words (drop (k + 1 + 1) (words_of form)) (drop (k + 1 + 1) (words_of line)))
    words_ahead k asked word {told = told} turn judges tells =
        let forms = words_of form in
        let lines = words_of line in
        let here = rw (parts_split 32 form, parts_split 32 line) at turn in
        let f : k + 1 < length forms = omega (arith, here.0, length-drop 1 (zip forms lines), length-zip forms lines) in
        let l : k + 1 < length lines = omega (arith, here.0, length-drop 1 (zip forms lines), length-zip forms lines) in
        let pair = here.1 ∙ get_or-drop 1 (zip forms lines) k (asked, word) ∙ get_or-zip forms lines (1 + k) (asked, word) (omega arith) (omega arith) in
        let place : 1 + k ≡ k + 1 = omega arith in
        let by_form = drop_more forms (k + 1) asked f ∙ ap (λ (x : List ℕ). x ∷ drop (k + 1 + 1) forms)
        (sym (ap (λ (q : List ℕ × List ℕ). q.0) pair ∙ ap (λ (i : ℕ). get_or forms i asked) place)) in
        let by_line = drop_more lines (k + 1) word l ∙ ap (λ (x : List ℕ). x ∷ drop (k + 1 + 1) lines)
        (sym (ap (λ (q : List ℕ × List ℕ). q.1) pair ∙ ap (λ (i : ℕ). get_or lines i word) place)) in
        ap (λ (x : List (List ℕ)). judged_words x (drop (k + 1) lines)) by_form
        ∙ ap (judged_words (asked ∷ drop (k + 1 + 1) forms)) by_line
        ∙ ap (λ (x : Judged). or_else x (judged_words (drop (k + 1 + 1) forms) (drop (k + 1 + 1) lines))) (sym judges ∙ tells)

    pub words_ended : (k : ℕ) → k ≡ length (drop 1 (zip (slice_split (λ b. eqb b 32) form) (slice_split (λ b. eqb b 32) line)))
        → judged_words (drop (k + 1) (words_of form)) (drop (k + 1) (words_of line)) ≡ Ok tt
    words_ended k e =
        let forms = words_of form in
        let lines = words_of line in
        let all = rw (parts_split 32 form, parts_split 32 line) at e in
        let past : length forms ≤ k + 1 = omega (arith, all, length-drop 1 (zip forms lines), length-zip forms lines, parts_counted 32 form, parts_counted 32 line) in
        rw (drop_of_length-le forms {i = k + 1} past)

-- ---- numbers, one after the other

module _ (list : List ℕ) where
  -- a number, judged as it was told, then those behind it
  pub numbers_ahead : (k : ℕ) (number : List ℕ) {j told : Judged}
      → (k < length (slice_split (λ b. eqb b 44) list)) × (number ≡ get_or (slice_split (λ b. eqb b 44) list) k number)
      → j ≡ judged_number number → j ≡ told
      → judged_numbers (drop k (parts_of 44 list)) ≡ or_else told (judged_numbers (drop (k + 1) (parts_of 44 list)))
  numbers_ahead k number here judges tells =
      let there = rw (parts_split 44 list) at here in
      at_drop_more judged_numbers (parts_of 44 list) k number there.0
      ∙ ap (λ (j : Judged). or_else j (judged_numbers (drop (k + 1) (parts_of 44 list)))) (ap judged_number (sym there.1) ∙ sym judges ∙ tells)

  pub numbers_ended : (k : ℕ) → k ≡ length (slice_split (λ b. eqb b 44) list) → judged_numbers (drop k (parts_of 44 list)) ≡ Ok tt
  numbers_ended k e = ap judged_numbers (drop_of_length-le (parts_of 44 list) {i = k} (omega (arith, e, ap length (parts_split 44 list))))

-- what the proof of a line's words cites
pub ruleset words_counted = (wrong_number, right_number)
