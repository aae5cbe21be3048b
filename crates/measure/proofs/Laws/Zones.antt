-- Laws of the zones: the next end, among whole numbers. Where `end` and `point` are scaled by 3 n p and `third` is u p, they compare as
-- the fractions do.
use Rattle.std.proofs.Common.{◌≡◌, sym, ◌∙◌, ◌||◌, ℕ, suc, ◌+◌, ◌*◌, add-mul, mul_assoc, add-one, eqb, ltb}
use Rattle.std.proofs.Math.Bool.{or_comm}
use Rattle.std.specs.Int.{from_bool}
use Rattle.measure.proofs.Laws.Tests.{one_if}
use Rattle.measure.specs.Multipliers.{multiplier}
use Rattle.measure.specs.Zones.{zone_end, Point, end_met, ends_before}
use Rattle.measure.specs.declared.units.Hundredths.{Hundredths}

pub end_next : (n k third : ℕ) → zone_end n k * third + multiplier n (k + 1) * third ≡ zone_end n (k + 1) * third
end_next n k third = rw (add-one k) (sym (add-mul (zone_end n k) (multiplier n (suc k)) third))

module _ (n : ℕ) (u : Hundredths) (x : Point) (k : ℕ) where
  scaled : {third end : ℕ} → third ≡ u.0 * x.under → end ≡ zone_end n (k + 1) * third → zone_end n (suc k) * u.0 * x.under ≡ end
  scaled t e = mul_assoc (zone_end n (suc k)) u.0 x.under ∙ sym (rw (t, add-one k) at e)

  pub ends_next : {third point end : ℕ} → third ≡ u.0 * x.under → point ≡ x.over * (3 * n) → end ≡ zone_end n (k + 1) * third
      → ends_before n u x k + from_bool (ltb end point) ≡ ends_before n u x (k + 1)
  ends_next {point = point} {end = end} t p e = rw (add-one k, scaled t e, one_if (ltb end point), p)

  pub met_next : {third point end : ℕ} → third ≡ u.0 * x.under → point ≡ x.over * (3 * n) → end ≡ zone_end n (k + 1) * third
      → (end_met n u x k || eqb point end) ≡ end_met n u x (k + 1)
  met_next {point = point} {end = end} t p e = rw (or_comm (end_met n u x k) (eqb point end), add-one k, scaled t e, p)
