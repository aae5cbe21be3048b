-- Deductions for machinery worked by hand (T-06 of document 02), as one table about the definition, in hundredths of a ton.
use Rattle.std.proofs.Common.{◌≡◌, refl}
use Rattle.measure.specs.Rounding.{nearest}
use Rattle.standard.specs.Machinery.{engine_room_deduction}

pub record MachineryFigures : Type 0 where
  -- gross 100 tons. M up to 13 tons, 32/13 of it: 32/13 = 2.46, 3,200/13 = 246.15, 41,568/13 = 3,197.54, 41,600/13 = 3,200
  pub m_0 : engine_room_deduction 0 10000 ≡ 0
  pub m_1 : engine_room_deduction 1 10000 ≡ 2
  pub m_100 : engine_room_deduction 100 10000 ≡ 246
  pub m_1299 : engine_room_deduction 1299 10000 ≡ 3198
  pub m_1300 : engine_room_deduction 1300 10000 ≡ 3200
  -- over 13 and under 20 tons, 32% of gross
  pub m_1301 : engine_room_deduction 1301 10000 ≡ 3200
  pub m_1999 : engine_room_deduction 1999 10000 ≡ 3200
  -- from 20 tons on 1.75 times M, which is the greater: 14,000/4 = 3,500, 14,007/4 = 3,501.75, 14,014/4 = 3,503.5, and a half goes up
  pub m_2000 : engine_room_deduction 2000 10000 ≡ 3500
  pub m_2001 : engine_room_deduction 2001 10000 ≡ 3502
  pub m_2002 : engine_room_deduction 2002 10000 ≡ 3504
  -- no gross: nothing for no M, and else 1.75 times M, 7/4
  pub m_0_of_no_gross : engine_room_deduction 0 0 ≡ 0
  pub m_1_of_no_gross : engine_room_deduction 1 0 ≡ 2

pub machinery_figures : MachineryFigures
unfolding nearest engine_room_deduction
machinery_figures =
    record {
      m_0 = refl;
      m_1 = refl;
      m_100 = refl;
      m_1299 = refl;
      m_1300 = refl;
      m_1301 = refl;
      m_1999 = refl;
      m_2000 = refl;
      m_2001 = refl;
      m_2002 = refl;
      m_0_of_no_gross = refl;
      m_1_of_no_gross = refl;
    }
