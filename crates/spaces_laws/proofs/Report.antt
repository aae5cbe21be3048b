-- Gross, net and the water ballast on a valid sheet: nothing of the report is cut off at 0 but the excess, net is not more than gross,
-- and both have a bound; and without machinery rooms they are what they were. Stands on Twice, Standings, Machinery.
use Rattle.std.proofs.Common.{ℕ, ◌+◌, ◌-◌, ◌*◌, ◌≤◌, ◌<◌, ◌≡◌, refl, sym, ap, ◌∙◌, subst, true, false, List, ◌↔◌, le_trans, arith, ltb-true, ltb-false, lt-ltb, le-ltb, ne_eqb}
use Rattle.measure.specs.declared.units.Hundredths.{Hundredths}
use Rattle.measure.specs.Handed.{most_tons}
use Rattle.measure.specs.Rounding.{nearest}
use Rattle.measure.specs.Allowances.{hatchway_allowance, hatchway_excess, ballast_over}
use Rattle.measure_laws.proofs.Rounding.{nearest_is, nearest_only}
use Rattle.spaces.specs.declared.space.Space.{Space}
use Rattle.spaces.specs.declared.sums.Amount.TheVariants.{Hull, Hatchways, Exempt, Ballast, Deducted, Machinery}
use Rattle.spaces.specs.Row.{amount_of, sum_of}
use Rattle.standard.specs.Machinery.{engine_room_deduction}
use Rattle.standard.specs.Gross.{all_exempt, gross_over, gross, deductions, net, deductions_pass, needs_mark}
use Rattle.standard.specs.Valid.{Valid}
use Rattle.spaces_laws.specs.Above.{◌∈◌}
use Rattle.spaces_laws.specs.Gross.{GrossLess, OverThirtyPercent, DeductionsPass, WithoutMachinery, FiguresAsBefore}
use Rattle.spaces_laws.proofs.Lists.{sum_of_sums, sum_of_none, sum_of_each_at_most}
use Rattle.spaces_laws.proofs.Standings.{hull_or_hatchway}
use Rattle.spaces_laws.proofs.Valid.{valid_is_sound}
use Rattle.spaces_laws.proofs.Twice.{taken_off_at_most_whole}
use Rattle.spaces_laws.proofs.Machinery.{deduction_exactly, none_for_none}

-- "Net is gross less D less this deduction, and demand 3's floor of zero now rests on a refusal" (T-06 of document 02): on any sheet that
-- isn't refused with 21
pub net_and_deductions : (xs : List Space) → deductions_pass xs ≡ false → net xs + deductions xs ≡ gross xs
unfolding net deductions_pass
net_and_deductions xs none_pass = omega (arith, ltb-false (gross xs) (deductions xs) none_pass)

-- (of any sheet: what matters is that nothing is cut off)
pub net_at_most_gross : (xs : List Space) → net xs ≤ gross xs
unfolding net
net_at_most_gross xs = omega arith

-- ---- a gross with so much taken off is the one that `GrossLess` says, and no other is

pub gross_less_is : (off : ℕ) (xs : List Space) → off ≤ sum_of Hull xs → GrossLess off xs (gross_over (sum_of Hull xs - off) (sum_of Hatchways xs))
unfolding gross_over hatchway_excess hatchway_allowance
gross_less_is off xs h =
    let g = sum_of Hull xs - off in
    record {
      g = g;
      allowance = nearest g 200;
      whole_less_off = omega arith;
      allowance_is = nearest_is g 200 (omega arith);
      gross_is = refl;
    }

pub gross_less_only : {off : ℕ} {xs : List Space} {gross : ℕ} → GrossLess off xs gross → gross ≡ gross_over (sum_of Hull xs - off) (sum_of Hatchways xs)
unfolding gross_over hatchway_excess hatchway_allowance
gross_less_only {off} {xs} {gross} r =
    let g : r.g ≡ sum_of Hull xs - off = omega (arith, r.whole_less_off) in
    let allowance : nearest r.g 200 ≡ r.allowance = nearest_only r.g 200 r.allowance (omega arith) r.allowance_is in
    r.gross_is
    ∙ ap (λ (n : ℕ). r.g + (sum_of Hatchways xs - n)) (sym allowance)
    ∙ ap (λ (n : ℕ). n + (sum_of Hatchways xs - nearest n 200)) g

pub gross_exactly : {L : Hundredths} {xs : List Space} → Valid L xs → (n : ℕ) → (gross xs ≡ n) ↔ GrossLess (all_exempt xs) xs n
unfolding gross
gross_exactly {L} {xs} v n = (
  λ e. subst (GrossLess (all_exempt xs) xs) e (gross_less_is (all_exempt xs) xs (omega (arith, taken_off_at_most_whole v))),
  λ r. sym (gross_less_only r),
)

-- "If standing 2 adds up to more than 30% of it"
pub needs_mark_exactly : {L : Hundredths} {xs : List Space} → Valid L xs → (needs_mark xs ≡ true) ↔ OverThirtyPercent xs
unfolding needs_mark ballast_over
needs_mark_exactly {L} {xs} v =
    let off = sum_of Exempt xs in
    let told = gross_over (sum_of Hull xs - off) (sum_of Hatchways xs) in (
      λ t.
          record {
            gross = told;
            with_only_standing_1_off = gross_less_is off xs (omega (arith, taken_off_at_most_whole v));
            more = ltb-true (3 * told) (10 * sum_of Ballast xs) t;
          },
      λ r.
          let e : r.gross ≡ told = gross_less_only r.with_only_standing_1_off in
          lt-ltb (3 * told) (10 * sum_of Ballast xs) (subst (λ (n : ℕ). 3 * n < 10 * sum_of Ballast xs) e r.more),
    )

-- 21: "when deductions pass gross"
pub deductions_pass_exactly : (xs : List Space) → (deductions_pass xs ≡ true) ↔ DeductionsPass xs
unfolding deductions_pass deductions
deductions_pass_exactly xs =
    let exactly = deduction_exactly (sum_of Machinery xs) (gross xs) in
    let told = engine_room_deduction (sum_of Machinery xs) (gross xs) in (
      λ t. record { deduction = told; for_machinery = (exactly told).0 refl; more = ltb-true (gross xs) (sum_of Deducted xs + told) t },
      λ r. lt-ltb (gross xs) (sum_of Deducted xs + told) (omega (arith, (exactly r.deduction).1 r.for_machinery, r.more)),
    )

-- ---- sheets without machinery rooms have the figures they had

-- their M is 0, and so is what is deducted for it
deductions_as_before : (xs : List Space) → WithoutMachinery xs → deductions xs ≡ sum_of Deducted xs
unfolding deductions
deductions_as_before xs without =
    let none : sum_of Machinery xs ≡ 0 = sum_of_none (amount_of Machinery) xs (λ y m. rw (ne_eqb y.standing 4 (without y m))) in
    omega (arith, ap (λ (m : ℕ). engine_room_deduction m (gross xs)) none ∙ none_for_none (gross xs))

-- D alone passes no gross: E + D is not more than T, and gross not less than T − E
deducted_at_most_gross : {L : Hundredths} {xs : List Space} → Valid L xs → sum_of Deducted xs ≤ gross xs
unfolding gross gross_over
deducted_at_most_gross v = omega (arith, taken_off_at_most_whole v)

pub as_before : {L : Hundredths} {xs : List Space} → Valid L xs → WithoutMachinery xs → FiguresAsBefore xs
unfolding net deductions_pass
as_before {L} {xs} v without =
    let same = deductions_as_before xs without in
    let fits = deducted_at_most_gross v in
    record { net_and_deducted = omega arith; none_pass = le-ltb (gross xs) (deductions xs) (omega arith) }

-- ---- how great a gross can be: the one reported, and the one with only standing 1 taken off

pub gross_over_at_most_whole : (g : ℕ) (xs : List Space) → g ≤ sum_of Hull xs → gross_over g (sum_of Hatchways xs) ≤ sum_of Hull xs + sum_of Hatchways xs
unfolding gross_over hatchway_excess
gross_over_at_most_whole g xs h = omega arith

-- where no record holds a tonnage over 100,000,000, no gross is over that for each of 200 places
pub gross_over_bounded : {L : Hundredths} {xs : List Space} → Valid L xs → ((y : Space) → y ∈ xs → y.tonnage ≤ most_tons)
    → (g : ℕ) → g ≤ sum_of Hull xs → gross_over g (sum_of Hatchways xs) ≤ 200 * most_tons
gross_over_bounded {L} {xs} v most g h =
    omega (
      arith,
      gross_over_at_most_whole g xs h,
      sum_of_sums (amount_of Hull) (amount_of Hatchways) xs,
      sum_of_each_at_most (λ y. amount_of Hull y + amount_of Hatchways y) most_tons xs (λ y m. le_trans (hull_or_hatchway y y.tonnage) (most y m)),
      (valid_is_sound v).at_most_200,
    )

pub gross_at_most_whole : (xs : List Space) → gross xs ≤ sum_of Hull xs + sum_of Hatchways xs
unfolding gross
gross_at_most_whole xs = gross_over_at_most_whole (sum_of Hull xs - all_exempt xs) xs (omega arith)

pub gross_bounded : {L : Hundredths} {xs : List Space} → Valid L xs → ((y : Space) → y ∈ xs → y.tonnage ≤ most_tons) → gross xs ≤ 200 * most_tons
unfolding gross
gross_bounded {L} {xs} v most = gross_over_bounded v most (sum_of Hull xs - all_exempt xs) (omega arith)
