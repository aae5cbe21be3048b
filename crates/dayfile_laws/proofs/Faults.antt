-- 17's position, both ways: it is that of the first faulty record, and 0 exactly where there is none. Stands on nothing of the file's
-- numbers.
use Rattle.std.proofs.Common.{ℕ, zero, suc, ◌+◌, ◌-◌, ◌<◌, ◌≡◌, refl, ap, ◌∙◌, Bool, true, false, List, [], ◌∷◌, ◌++◌, append_assoc, append-nil, arith, eqb-true, ltb-true, ltb-false, eqb, ltb, length, take, get_or, length-append}
use borrow.Author.Tests.{eqb-false}
use Rattle.measure.specs.declared.units.Hundredths.{Hundredths}
use Rattle.spaces.specs.declared.space.Space.{Space}
use Rattle.spaces.proofs.Laws.Cases.{by_test, not_both}
use Rattle.dayfile.specs.Record.{space_of, spaces_of}
use Rattle.dayfile.specs.Reading.{faulty, first_faulty}
use Rattle.dayfile.specs.declared.forms.Form.{Form}
use Rattle.dayfile_laws.specs.Faults.{FirstFault, NoFault, FaultExactly}

-- ---- after any spaces, so that the records go one by one

-- of some records after the spaces `before`, the one at a place from 0 is faulty after those ahead of it
abbrev faulty_after : Form → Hundredths → List Space → List (List ℕ) → ℕ → Bool
faulty_after f L before records place = faulty f L (before ++ spaces_of (take place records)) (get_or records place [])

-- a position that isn't 0 has a faulty record, and none ahead of it
record FaultFound (f : Form) (L : Hundredths) (before : List Space) (records : List (List ℕ)) (position : ℕ) : Type 0 where
  place : ℕ
  position_is : position ≡ length before + (place + 1)
  in_order : place < length records
  faulty_there : faulty_after f L before records place ≡ true
  none_ahead : (i : ℕ) → i < place → faulty_after f L before records i ≡ false

fault_found : (f : Form) (L : Hundredths) (before : List Space) (records : List (List ℕ)) → (first_faulty f L before records ≡ 0 → ⊥)
    → FaultFound f L before records (first_faulty f L before records)
fault_found f L before [] some = absurd (some refl)
fault_found f L before (numbers ∷ rest) some =
    by_test (faulty f L before numbers)
    (λ t.
    record {
      place = 0;
      position_is = rw t;
      in_order = omega arith;
      faulty_there = rw append-nil t;
      none_ahead = λ i h. absurd (omega arith);
    })
    (λ g. later g (fault_found f L next rest (λ z. some (rw g z))))
  where
    next : List Space
    next = before ++ (space_of numbers ∷ [])

    later : faulty f L before numbers ≡ false → FaultFound f L next rest (first_faulty f L next rest) → FaultFound f L before (numbers ∷ rest) (first_faulty f L before (numbers ∷ rest))
    later g found =
        record {
          place = suc found.place;
          position_is = rw g (found.position_is ∙ omega (arith, length-append before (space_of numbers ∷ [])));
          in_order = omega (arith, found.in_order);
          faulty_there = rw append_assoc at found.faulty_there;
          none_ahead = none;
        }
      where
        none : (i : ℕ) → i < suc found.place → faulty_after f L before (numbers ∷ rest) i ≡ false
        none zero h = rw append-nil g
        none (suc i) h = rw append_assoc at (found.none_ahead i (omega arith))

-- and 0 has none at all: neither the first nor one after it
pub none_first : (f : Form) (L : Hundredths) (before : List Space) (numbers : List ℕ) (rest : List (List ℕ)) → first_faulty f L before (numbers ∷ rest) ≡ 0
    → (faulty f L before numbers ≡ false) × (first_faulty f L (before ++ (space_of numbers ∷ [])) rest ≡ 0)
none_first f L before numbers rest z =
    by_test (faulty f L before numbers)
    (λ t. let never : length before + 1 ≡ 0 = rw t at z in absurd (omega arith))
    (λ g. (g, rw g at z))

none_found : (f : Form) (L : Hundredths) (before : List Space) (records : List (List ℕ)) → first_faulty f L before records ≡ 0
    → (i : ℕ) → i < length records → faulty_after f L before records i ≡ false
none_found f L before [] z i h = absurd (omega arith)
none_found f L before (numbers ∷ rest) z zero h = rw append-nil (none_first f L before numbers rest z).0
none_found f L before (numbers ∷ rest) z (suc i) h =
    rw append_assoc at (none_found f L (before ++ (space_of numbers ∷ [])) rest (none_first f L before numbers rest z).1 i (omega arith))

-- ---- of all records

module _ (f : Form) (L : Hundredths) (records : List (List ℕ)) where
  abbrev found : ℕ
  found = first_faulty f L [] records

  none : found ≡ 0 → NoFault f L records
  none z i least most = none_found f L [] records z (i - 1) (omega arith)

  first : (found ≡ 0 → ⊥) → FirstFault f L records found
  first some =
      let a = fault_found f L [] records some in
      let place_is : found - 1 ≡ a.place = omega (arith, a.position_is) in
      record {
        at_least_1 = omega (arith, a.position_is);
        at_most_all = omega (arith, a.position_is, a.in_order);
        faulty_there = ap (faulty_after f L [] records) place_is ∙ a.faulty_there;
        none_before = λ i least before. a.none_ahead (i - 1) (omega arith);
      }

  -- there is one first faulty record at most
  same_first : (p q : ℕ) → FirstFault f L records p → FirstFault f L records q → p ≡ q
  same_first p q a b =
      by_test (ltb p q)
      (λ t. not_both a.faulty_there (b.none_before p a.at_least_1 (ltb-true _ _ t)))
      (λ g.
      by_test (ltb q p)
      (λ t. not_both b.faulty_there (a.none_before q b.at_least_1 (ltb-true _ _ t)))
      (λ h. omega (arith, ltb-false p q g, ltb-false q p h)))

  -- which a fault-free row hasn't
  not_faulty : {p : ℕ} → FirstFault f L records p → NoFault f L records → ⊥
  not_faulty {p} a none = not_both a.faulty_there (none p a.at_least_1 a.at_most_all)

  pub fault_exactly : FaultExactly f L records (first_faulty f L [] records)
  fault_exactly =
      by_test (eqb found 0)
      (λ t.
      let z = eqb-true _ 0 t in
      record {
        first_exactly = λ p some. (λ e. absurd (omega (arith, z, e)), λ a. absurd (not_faulty a (none z)));
        none_exactly = (none, λ n. z);
      })
      (λ g.
      let a = first (eqb-false _ 0 g) in
      record {
        first_exactly = λ p some. (λ e. rw e at a, λ b. same_first found p a b);
        none_exactly = (λ z. absurd (eqb-false _ 0 g z), λ n. absurd (not_faulty a n));
      })
