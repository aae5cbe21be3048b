-- The forms: what holds of each row holds of the form of any number.
use Rattle.std.proofs.Common.{ℕ, zero, suc, ◌-◌, ◌≤◌, ◌≡◌, refl, true, List, [], ◌∷◌, arith, eqb, get_or}
use Rattle.spaces.proofs.Laws.Cases.{by_test}
use Rattle.dayfile.specs.Forms.{form1, forms, is_form, form_of, form_told}
use Rattle.dayfile.specs.Fields.{widths}
use Rattle.dayfile.specs.Record.{record_fields}
use Rattle.dayfile.specs.Handed.{Narrow}
use Rattle.dayfile.specs.declared.forms.Form.{Form}

abbrev pub Each : (Form → Type 0) → List Form → Type 0
Each P [] = Unit
Each P (f ∷ others) = P f × Each P others

at_place : (P : Form → Type 0) (fs : List Form) (i : ℕ) (else : Form) → Each P fs → P else → P (get_or fs i else)
at_place P [] i else each p = p
at_place P (f ∷ others) zero else each p = each.0
at_place P (f ∷ others) (suc i) else each p = at_place P others i else each.1 p

pub every_form : (P : Form → Type 0) → Each P forms → (number : ℕ) → P (form_of number)
unfolding form_of
every_form P each number = at_place P forms (number - 1) form1 each each.0

-- only 2 is the number of the second row
pub other_form : (number : ℕ) → (number ≡ 2 → ⊥) → form_of number ≡ form1
unfolding form_of
other_form zero other = refl
other_form (suc zero) other = refl
other_form (suc (suc zero)) other = absurd (other refl)
other_form (suc (suc (suc number))) other = let past : suc (suc (suc number)) - 1 ≡ suc (suc number) = omega arith in rw past

-- no field has more than eight bytes, and the vessel number at most four
pub narrow_record : (number : ℕ) → Narrow (widths (record_fields (form_of number)))
narrow_record = every_form (λ f. Narrow (widths (record_fields f))) (omega arith)

pub narrow_vessel : (number : ℕ) → (form_of number).vessel ≤ 4
narrow_vessel = every_form (λ f. f.vessel ≤ 4) (omega arith)

-- what a byte tells is the number of a form
pub told_is_form : (byte : ℕ) → (form_told byte ≡ 0 → ⊥) → is_form (form_told byte) ≡ true
unfolding form_told
told_is_form byte some =
    by_test (eqb byte 0)
    (λ t. rw t)
    (λ f. by_test (eqb byte 2) (λ t. rw (f, t)) (λ g. absurd (some (rw (f, g)))))
