-- One space's answer: refused with 2 exactly where a kind or measure is outside its range, with 3 exactly where that isn't so and a
-- count is wrong, and else accepted with the tonnage, which is at most 100,000,000.
use Rattle.std.proofs.Common.{◌≡◌, refl, Bool, true, false, not, List, [], ◌∷◌, ℕ, ◌≤◌, zero-le, arith}
use Rattle.measure.specs.Kinds.{kind_of}
use Rattle.measure.specs.Refusals.{first_of}
use Rattle.measure.specs.Offsets.{in_range, counted, tonnage, measured, answered, Exactly}
use Rattle.measure.specs.Handed.{most_tons}
use Rattle.measure.specs.declared.units.Hundredths.{Hundredths}
use Rattle.measure.specs.declared.kinds.Kind.{Kind}
use Rattle.measure.specs.declared.offsets.Measured.{Measured}
use Rattle.measure.proofs.Laws.Offsets.{tonnage_at_most}

-- the answer of two tests, and which of them hold
answer : Bool → Bool → ℕ → Measured
answer ranged numbered tons = answered (first_of ((not ranged, 2) ∷ (not numbered, 3) ∷ [])) tons

exactly : (ranged numbered : Bool) (tons : ℕ) → Exactly ranged numbered tons (answer ranged numbered tons)
unfolding answer
exactly true true tons =
    record {
      with_2 = λ e. cc;
      with_3 = λ _ e. cc;
      with_0 = λ _ _. refl;
      only_2 = λ (e : ◌≡◌ {A = ℕ} 0 2). absurd (omega arith);
      only_3 = λ (e : ◌≡◌ {A = ℕ} 0 3). absurd (omega arith);
      only_0 = λ _. (refl, refl);
    }
exactly true false tons =
    record {
      with_2 = λ e. cc;
      with_3 = λ _ _. refl;
      with_0 = λ _ e. cc;
      only_2 = λ (e : ◌≡◌ {A = ℕ} 3 2). absurd (omega arith);
      only_3 = λ _. (refl, refl);
      only_0 = λ (e : ◌≡◌ {A = ℕ} 3 0). absurd (omega arith);
    }
exactly false numbered tons =
    record {
      with_2 = λ _. refl;
      with_3 = λ e _. cc;
      with_0 = λ e _. cc;
      only_2 = λ _. refl;
      only_3 = λ (e : ◌≡◌ {A = ℕ} 2 3). absurd (omega arith);
      only_0 = λ (e : ◌≡◌ {A = ℕ} 2 0). absurd (omega arith);
    }

pub measured_exactly : (code : ℕ) (t l : Hundredths) (hs bs : List ℕ)
    → Exactly (in_range (kind_of code) t l hs bs) (counted (kind_of code) t l hs bs) (tonnage (kind_of code) t l hs bs) (measured code t l hs bs)
unfolding measured answer
measured_exactly code t l hs bs =
    exactly (in_range (kind_of code) t l hs bs) (counted (kind_of code) t l hs bs) (tonnage (kind_of code) t l hs bs)

-- "tonnage 4 (at most 100,000,000, which no entry from offsets in range can pass)"
pub measured_at_most : (code : ℕ) (t l : Hundredths) (hs bs : List ℕ) → (measured code t l hs bs).tonnage ≤ most_tons
measured_at_most code t l hs bs = by (in_range k t l hs bs) refl (counted k t l hs bs) refl
  where
    k : Kind
    k = kind_of code

    by : (r : Bool) → in_range k t l hs bs ≡ r → (n : Bool) → counted k t l hs bs ≡ n → (measured code t l hs bs).tonnage ≤ most_tons
    by true r true n = rw ((measured_exactly code t l hs bs).with_0 r n) (tonnage_at_most k t l hs bs (record { ranged = r; numbered = n }))
    by true r false n = rw ((measured_exactly code t l hs bs).with_3 r n) zero-le
    by false r n e = rw ((measured_exactly code t l hs bs).with_2 r) zero-le
