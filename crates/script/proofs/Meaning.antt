-- What the definitions of specs/ mean: the parts of a text joined again, its lines, a number by its places, hex written and read back, which form a
-- line has, and what a line that fits leaves to its call.
use Rattle.std.proofs.Common.{ℕ, zero, suc, ◌+◌, ◌*◌, ◌-◌, ◌/◌, ◌%◌, ◌^◌, ◌≤◌, ◌<◌, min, ◌≡◌, refl, sym, ap, ◌∙◌, Bool, true, false, cond, ◌||◌, List, [], ◌∷◌, ◌++◌, map, add-mul, mul_assoc, zero-add, one-add, arith, lt-ltb, le-ltb, le-leb, eq-eqb, eqb-true, ltb-true, ltb-false, ltb, eqb, length, get_or}
use Prim.Native.Char.{code}
use mathlib.Core.Bool.{and-eq-true_iff, false≢true}
use native.Mathlib.Nat.{pow-succ'}
use borrow.Author.Tests.{lt-leb}
use lib.ListN.{length-map}
use Rattle.script.specs.Text.{ascii, on_line, lines_of}
use Rattle.script.specs.Words.{on_first, parts_of, marks_in, same_text, is_decimal, is_letter, is_digit, all_digits, value_behind, held}
use Rattle.script.specs.Words.{word_at, number_of, value_in, measure_of, is_empty_list, numbers_of, measures_of}
use Rattle.script.specs.Hex.{is_hex, digit_value, hex_digit, bytes_of, hex_of}
use Rattle.script.specs.Calls.{survey_forms, figures_forms, is_form, place_by, place_of, is_passed, line_by, line_of, Judged, judged, or_else, number_judged, judged_numbers, judged_list, judged_hex, judged_word}
use Rattle.script.specs.declared.remarks.Remark.{Remark}
use Rattle.script.specs.declared.remarks.Remark.TheVariants.{UnknownCall, NotANumber, NumberTooLarge, ListTooLong, FileTooLong, NotHex}
use Rattle.std.specs.Prelude.{Option, Some, None, Result, Ok, Err}
use Rattle.script.proofs.Laws.Parts.{parts_counted}
use Rattle.script.proofs.Laws.Hex.{decimal_range, letter_range}

-- ---- parts of a text

-- parts with the mark between them
unfoldable pub joined : ℕ → List (List ℕ) → List ℕ
joined mark [] = []
joined mark (part ∷ []) = part
joined mark (part ∷ next ∷ rest) = part ++ (mark ∷ joined mark (next ∷ rest))

joined_begun : (mark : ℕ) (parts : List (List ℕ)) → 0 < length parts → joined mark ([] ∷ parts) ≡ mark ∷ joined mark parts
unfolding joined
joined_begun mark [] h = absurd (omega arith)
joined_begun mark (part ∷ parts) h = refl

joined_longer : (mark x : ℕ) (parts : List (List ℕ)) → 0 < length parts → joined mark (on_first x parts) ≡ x ∷ joined mark parts
unfolding joined
joined_longer mark x [] h = absurd (omega arith)
joined_longer mark x (part ∷ []) h = refl
joined_longer mark x (part ∷ next ∷ rest) h = refl

-- they give the text again
pub parts_joined : (mark : ℕ) (text : List ℕ) → joined mark (parts_of mark text) ≡ text
unfolding joined
parts_joined mark [] = refl
parts_joined mark (x ∷ xs) = by (eqb x mark) refl (parts_joined mark xs)
  where
    some : 0 < length (parts_of mark xs)
    some = omega (arith, parts_counted mark xs)

    by : (b : Bool) → eqb x mark ≡ b → joined mark (parts_of mark xs) ≡ xs
        → joined mark (cond b ([] ∷ parts_of mark xs) (on_first x (parts_of mark xs))) ≡ x ∷ xs
    by true e others = joined_begun mark (parts_of mark xs) some ∙ ap (λ (l : List ℕ). mark ∷ l) others ∙ ap (λ (y : ℕ). y ∷ xs) (sym (eqb-true x mark e))
    by false e others = joined_longer mark x (parts_of mark xs) some ∙ ap (λ (l : List ℕ). x ∷ l) others

marks_begun : (mark : ℕ) (parts : List (List ℕ)) → ((j : ℕ) → marks_in mark (get_or parts j []) ≡ 0)
    → (j : ℕ) → marks_in mark (get_or ([] ∷ parts) j []) ≡ 0
marks_begun mark parts none zero = refl
marks_begun mark parts none (suc j) = none j

marks_longer : (mark x : ℕ) (parts : List (List ℕ)) → eqb x mark ≡ false → ((j : ℕ) → marks_in mark (get_or parts j []) ≡ 0)
    → (j : ℕ) → marks_in mark (get_or (on_first x parts) j []) ≡ 0
marks_longer mark x [] e none j = none j
marks_longer mark x (part ∷ parts) e none zero = rw e (zero-add _ ∙ none 0)
marks_longer mark x (part ∷ parts) e none (suc j) = none (suc j)

-- and none has a mark in it: so there is one way to cut a text
pub part_unmarked : (mark k : ℕ) (text : List ℕ) → marks_in mark (get_or (parts_of mark text) k []) ≡ 0
part_unmarked mark k [] = marks_begun mark [] (λ j. refl) k
part_unmarked mark k (x ∷ xs) = by (eqb x mark) refl (λ j. part_unmarked mark j xs)
  where
    by : (b : Bool) → eqb x mark ≡ b → ((j : ℕ) → marks_in mark (get_or (parts_of mark xs) j []) ≡ 0)
        → marks_in mark (get_or (cond b ([] ∷ parts_of mark xs) (on_first x (parts_of mark xs))) k []) ≡ 0
    by true e none = marks_begun mark (parts_of mark xs) none k
    by false e none = marks_longer mark x (parts_of mark xs) e none k

-- ---- the lines of a text

-- parts without a last one that is empty
unfoldable pub up_to_an_empty : List (List ℕ) → List (List ℕ)
up_to_an_empty [] = []
up_to_an_empty ([] ∷ []) = []
up_to_an_empty ((x ∷ xs) ∷ []) = (x ∷ xs) ∷ []
up_to_an_empty (part ∷ next ∷ rest) = part ∷ up_to_an_empty (next ∷ rest)

-- its lines are its parts at the newlines, but for an empty one behind the last
pub lines_parted : (text : List ℕ) → lines_of text ≡ up_to_an_empty (parts_of 10 text)
unfolding up_to_an_empty
lines_parted [] = refl
lines_parted (x ∷ xs) = by (eqb x 10) (parts_of 10 xs) (omega (arith, parts_counted 10 xs)) (lines_parted xs)
  where
    by : (b : Bool) (parts : List (List ℕ)) → 0 < length parts → lines_of xs ≡ up_to_an_empty parts
        → cond b ([] ∷ lines_of xs) (on_line x (lines_of xs)) ≡ up_to_an_empty (cond b ([] ∷ parts) (on_first x parts))
    by b [] h e = absurd (omega arith)
    by true (part ∷ parts) h e = ap (λ (lines : List (List ℕ)). [] ∷ lines) e
    by false ([] ∷ []) h e = ap (on_line x) e
    by false ((y ∷ ys) ∷ []) h e = ap (on_line x) e
    by false ([] ∷ next ∷ rest) h e = ap (on_line x) e
    by false ((y ∷ ys) ∷ next ∷ rest) h e = ap (on_line x) e

-- ---- two texts

pub same_text_lem : (xs ys : List ℕ) → same_text xs ys ≡ true → xs ≡ ys
same_text_lem [] [] e = refl
same_text_lem [] (y ∷ ys) e = cc
same_text_lem (x ∷ xs) [] e = cc
same_text_lem (x ∷ xs) (y ∷ ys) e =
    let both = (and-eq-true_iff (eqb x y) _).0 e in
    ap (λ (z : ℕ). z ∷ xs) (eqb-true x y both.0) ∙ ap (λ (l : List ℕ). y ∷ l) (same_text_lem xs ys both.1)

pub text_same : (xs : List ℕ) → same_text xs xs ≡ true
text_same [] = refl
text_same (x ∷ xs) = rw (eq-eqb x x refl) (text_same xs)

-- ---- a number

value_ahead : (v : ℕ) (xs : List ℕ) → value_behind v xs ≡ v * 10 ^ length xs + value_behind 0 xs
value_ahead v [] = omega arith
value_ahead v (x ∷ xs) =
    let d = x - code "0" in
    let p = 10 ^ length xs in
    let left : value_behind (v * 10 + d) xs ≡ (v * 10 + d) * p + value_behind 0 xs = value_ahead (v * 10 + d) xs in
    let right : value_behind (0 + d) xs ≡ (0 + d) * p + value_behind 0 xs = value_ahead (0 + d) xs in
    let parted : (v * 10 + d) * p ≡ v * 10 * p + d * p = add-mul (v * 10) d p in
    let tens : v * 10 * p ≡ v * (10 * p) = mul_assoc v 10 p in
    let none : (0 + d) * p ≡ d * p = ap (λ (k : ℕ). k * p) (zero-add d) in
    rw (pow-succ' 10 (length xs)) (omega arith)

-- each digit counts ten to the power of how many stand behind it
pub value_by_place : (x : ℕ) (xs : List ℕ) → value_behind 0 (x ∷ xs) ≡ (x - code "0") * 10 ^ length xs + value_behind 0 xs
value_by_place x xs = value_ahead (0 * 10 + (x - code "0")) xs ∙ ap (λ (d : ℕ). d * 10 ^ length xs + value_behind 0 xs) (zero-add (x - code "0"))

-- a word of digits is their value, where it is held
pub all_digits_lem : (xs : List ℕ) → (length xs ≡ 0 → ⊥) → all_digits false xs ≡ true → number_of xs ≡ held (value_behind 0 xs)
all_digits_lem [] n e = absurd (n refl)
all_digits_lem (x ∷ xs) n e = ap (λ (b : Bool). cond b (held (value_behind 0 (x ∷ xs))) (Err NotANumber)) e

-- ---- hex

digit_back : (v : ℕ) → v < 16 → digit_value (hex_digit v) ≡ v
digit_back v h = by (ltb v 10) refl
  where
    by : (b : Bool) → ltb v 10 ≡ b → digit_value (cond b (code "0" + v) (code "a" + (v - 10))) ≡ v
    by true e =
        let l : v < 10 = ltb-true v 10 e in
        simp (le-leb 48 (48 + v) (omega arith), le-leb (48 + v) 57 (omega arith)) (omega arith)
    by false e =
        let l : 10 ≤ v = ltb-false v 10 e in
        simp (le-leb 48 (97 + (v - 10)) (omega arith), lt-leb (97 + (v - 10)) 57 (omega arith), le-leb 97 (97 + (v - 10)) (omega arith), le-leb (97 + (v - 10)) 102 (omega arith)) (omega arith)

-- bytes written as hex digits are read back
pub hex_read : (bytes : List ℕ) → ((k : ℕ) → get_or bytes k 0 < 256) → bytes_of (hex_of bytes) ≡ bytes
hex_read [] h = refl
hex_read (b ∷ bs) h =
    let l : b < 256 = h 0 in
    let e : digit_value (hex_digit (b / 16)) * 16 + digit_value (hex_digit (b % 16)) ≡ b =
    rw (digit_back (b / 16) (omega arith), digit_back (b % 16) (omega arith)) (omega arith) in
    ap (λ (x : ℕ). x ∷ bytes_of (hex_of bs)) e ∙ ap (λ (l : List ℕ). b ∷ l) (hex_read bs (λ k. h (suc k)))

digit_written : (x : ℕ) → is_digit true x ≡ true → (hex_digit (digit_value x) ≡ x) × (digit_value x < 16)
digit_written x e = by (is_decimal x) refl (is_letter x) refl (sym e)
  where
    by : (d : Bool) → is_decimal x ≡ d → (l : Bool) → is_letter x ≡ l → true ≡ (is_decimal x || is_letter x)
        → (hex_digit (cond d (x - code "0") (cond l (x - code "a" + 10) 0)) ≡ x) × (cond d (x - code "0") (cond l (x - code "a" + 10) 0) < 16)
    by true d l f t =
        let r = decimal_range x d in
        (simp (lt-ltb (x - 48) 10 (omega arith)) (omega arith), omega arith)
    by false d true f t =
        let r = letter_range x f in
        (simp (le-ltb (x - 97 + 10) 10 (omega arith)) (omega arith), omega arith)
    by false d false f t =
        let z : ◌≡◌ {A = ℕ} 0 1 = cc in
        absurd (omega arith)

-- and a word of hex digits that was read is written again
pub hex_written : (word : List ℕ) → length word % 2 ≡ 0 → all_digits true word ≡ true → hex_of (bytes_of word) ≡ word
hex_written [] even e = refl
hex_written (x ∷ []) even e = let z : ◌≡◌ {A = ℕ} 0 1 = sym even in absurd (omega arith)
hex_written (x ∷ y ∷ rest) even e =
    let both = (and-eq-true_iff (is_digit true x) _).0 e in
    let others = (and-eq-true_iff (is_digit true y) _).0 both.1 in
    let high = digit_written x both.0 in
    let low = digit_written y others.0 in
    let h : (digit_value x * 16 + digit_value y) / 16 ≡ digit_value x = omega arith in
    let l : (digit_value x * 16 + digit_value y) % 16 ≡ digit_value y = omega arith in
    rw (h, l, high.0, low.0, hex_written rest (omega arith) others.1)

-- ---- calls

-- the place of each form among the forms, taken as a line
abbrev pub places_in : List (List ℕ) → List ℕ
places_in forms = map (λ (form : List ℕ). place_of form forms) forms

-- it is the form's own: a name with so many words is one call's alone
pub each_of_survey : places_in survey_forms ≡ 0 ∷ 1 ∷ 2 ∷ 3 ∷ 4 ∷ 5 ∷ 6 ∷ 7 ∷ 8 ∷ 9 ∷ 10 ∷ 11 ∷ 12 ∷ 13 ∷ 14 ∷ 15 ∷ 16 ∷ 17 ∷ 18 ∷ 19 ∷ 20 ∷ 21 ∷ 22 ∷ []
unfolding place_of
each_of_survey = refl

pub each_of_figures : places_in figures_forms ≡ 0 ∷ 1 ∷ 2 ∷ []
unfolding place_of
each_of_figures = refl

-- the form at the place found is a form of the line
pub form_found : (counted : Bool) (line : List ℕ) (forms : List (List ℕ)) → place_by counted line forms < length forms
    → is_form counted line (get_or forms (place_by counted line forms) []) ≡ true
form_found counted line [] h = absurd (omega arith)
form_found counted line (form ∷ others) h = by (is_form counted line form) refl h (form_found counted line others)
  where
    by : (b : Bool) → is_form counted line form ≡ b → cond b 0 (1 + place_by counted line others) < suc (length others)
        → (place_by counted line others < length others → is_form counted line (get_or others (place_by counted line others) []) ≡ true)
        → is_form counted line (get_or (form ∷ others) (cond b 0 (1 + place_by counted line others)) []) ≡ true
    by true e l next = e
    by false e l next = rw (one-add (place_by counted line others)) (next (omega arith))

-- and none before it is one: so where none is found, none of the forms is
pub none_before : (counted : Bool) (line : List ℕ) (forms : List (List ℕ)) (k : ℕ) → k < place_by counted line forms
    → is_form counted line (get_or forms k []) ≡ false
none_before counted line [] k h = absurd (omega arith)
none_before counted line (form ∷ others) k h = by (is_form counted line form) refl k h (none_before counted line others)
  where
    by : (b : Bool) → is_form counted line form ≡ b → (j : ℕ) → j < cond b 0 (1 + place_by counted line others)
        → ((i : ℕ) → i < place_by counted line others → is_form counted line (get_or others i []) ≡ false)
        → is_form counted line (get_or (form ∷ others) j []) ≡ false
    by true e j l next = absurd (omega arith)
    by false e zero l next = e
    by false e (suc j) l next = next j (omega arith)

-- the number of words is asked beside the name
name_too : (line form : List ℕ) → is_form true line form ≡ true → is_form false line form ≡ true
name_too line form e = rw ((and-eq-true_iff (same_text (word_at 0 form) (word_at 0 line)) _).0 e).0

module _ (line : List ℕ) (forms : List (List ℕ)) where
  -- a line's place is that by its words, or there is none by them and it is that by its name
  by_place : {P : Type 0} → (place_by true line forms < length forms → place_of line forms ≡ place_by true line forms → P)
      → (length forms ≤ place_by true line forms → place_of line forms ≡ place_by false line forms → P) → P
  unfolding place_of
  by_place {P} words name = by (ltb (place_by true line forms) (length forms)) refl refl
    where
      by : (b : Bool) → ltb (place_by true line forms) (length forms) ≡ b
          → place_of line forms ≡ cond b (place_by true line forms) (place_by false line forms) → P
      by true e f = words (ltb-true _ _ e) f
      by false e f = name (ltb-false _ _ e) f

  -- where a form has the line's name and number of words, the form at the line's place is such a one
  pub told_by_words : (k : ℕ) → k < length forms → is_form true line (get_or forms k []) ≡ true
      → (place_of line forms < length forms) × (is_form true line (get_or forms (place_of line forms) []) ≡ true)
  told_by_words k l e =
      by_place
      (λ h f. (omega arith, rw f (form_found true line forms h)))
      (λ h f. absurd (false≢true (sym (none_before true line forms k (omega arith)) ∙ e)))

  -- where the line's place is no form's, no form has its name
  pub none_named : length forms ≤ place_of line forms → (k : ℕ) → k < length forms → is_form false line (get_or forms k []) ≡ false
  none_named h k l = by_place (λ g f. absurd (omega arith)) (λ g f. none_before false line forms k (omega arith))

  -- and where it is one's, that form has it
  pub named : place_of line forms < length forms → is_form false line (get_or forms (place_of line forms) []) ≡ true
  named h =
      by_place
      (λ g f. rw f (name_too line (get_or forms (place_by true line forms) []) (form_found true line forms g)))
      (λ g f. rw f (form_found false line forms (omega arith)))

-- a call's place is that of a form
pub call_told : (forms : List (List ℕ)) (line : List ℕ) (place : ℕ) → line_by forms line ≡ Ok (Some place) → place < length forms
unfolding line_by
call_told forms line place e = by (is_passed line) (ltb (place_of line forms) (length forms)) refl (judged (get_or forms (place_of line forms) []) line) e
  where
    by : (p b : Bool) → ltb (place_of line forms) (length forms) ≡ b → (j : Judged)
        → ◌≡◌ {A = Result (Option ℕ) Remark} (cond p (Ok None) (cond b (line_of (place_of line forms) j) (Err UnknownCall))) (Ok (Some place))
        → place < length forms
    by true b h j f = cc
    by false true h (Ok fits) f =
        let told : place_of line forms ≡ place = cc in
        omega (arith, told, ltb-true _ _ h)
    by false true h (Err remark) f = cc
    by false false h j f = cc

-- a vessel number that fits is the number that its word is, and none is handed on as the greatest of its type
pub vessel_fits : (word : List ℕ) → judged_word (ascii "vessel") word ≡ Ok tt → number_of word ≡ Ok (measure_of word)
unfolding judged_word
vessel_fits word e = by (number_of word) e
  where
    by : (n : Result ℕ Remark) → or_else (number_judged n) (cond (ltb 4294967295 (value_in n)) (Err NumberTooLarge) (Ok tt)) ≡ Ok tt
        → n ≡ Ok (min (value_in n) 4294967295)
    by (Ok x) f = up_to (ltb 4294967295 x) refl f
      where
        up_to : (b : Bool) → ltb 4294967295 x ≡ b → ◌≡◌ {A = Judged} (cond b (Err NumberTooLarge) (Ok tt)) (Ok tt)
            → ◌≡◌ {A = Result ℕ Remark} (Ok x) (Ok (min x 4294967295))
        up_to true t f = cc
        up_to false t f =
            let l : x ≤ 4294967295 = ltb-false 4294967295 x t in
            ap Ok (omega arith)
    by (Err remark) f = cc

-- a list that fits has no more numbers than 1,024, so that all of them are laid into so many places
pub list_fits : (list : List ℕ) → judged_list list ≡ Ok tt → length (measures_of list) ≤ 1024
unfolding judged_list measures_of
list_fits list e = by (ltb 1024 (length (numbers_of list))) refl e
  where
    by : (b : Bool) → ltb 1024 (length (numbers_of list)) ≡ b → cond b (Err ListTooLong) (judged_numbers (numbers_of list)) ≡ Ok tt
        → length (map measure_of (numbers_of list)) ≤ 1024
    by true t f = let z : ◌≡◌ {A = ℕ} 0 1 = cc in absurd (omega arith)
    by false t f = omega (arith, length-map (numbers_of list) measure_of, ltb-false 1024 (length (numbers_of list)) t)

bytes_half : (word : List ℕ) → 2 * length (bytes_of word) ≤ length word
bytes_half [] = omega arith
bytes_half (x ∷ []) = omega arith
bytes_half (x ∷ y ∷ rest) = omega (arith, bytes_half rest)

-- and a file that fits has no more than 65,536 bytes
pub file_fits : (word : List ℕ) → judged_hex word ≡ Ok tt → length (bytes_of word) ≤ 65536
unfolding judged_hex
file_fits word e = by (is_empty_list word) refl (ltb 131072 (length word)) refl e
  where
    by : (a : Bool) → is_empty_list word ≡ a → (b : Bool) → ltb 131072 (length word) ≡ b
        → ◌≡◌ {A = Judged} (cond a (Ok tt) (cond b (Err FileTooLong) (cond (is_hex word) (Ok tt) (Err NotHex)))) (Ok tt)
        → length (bytes_of word) ≤ 65536
    by true s b t f = omega (arith, bytes_half word, ap length (same_text_lem word (code "-" ∷ []) s))
    by false s true t f = let z : ◌≡◌ {A = ℕ} 0 1 = cc in absurd (omega arith)
    by false s false t f = omega (arith, bytes_half word, ltb-false 131072 (length word) t)
