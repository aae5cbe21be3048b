-- Every number of parts is even, from 2 to 16; the table is one rule of the length.
use Rattle.std.proofs.Common.{◌≡◌, refl, Bool, true, false, cond, ℕ, zero, suc, ◌+◌, ◌-◌, ◌*◌, ◌/◌, ◌≤◌, ◌<◌, min, max, arith, lit≤, leb, ltb, eqb, leb-true, leb-false}
use Rattle.measure.specs.Parts.{EvenParts, p2, p4, p6, p8, p10, p12, p14, p16, table_parts, step_parts, under_deck_parts, depth_parts, distance, nearer, nearest_parts, superstructure_parts, parts_of}
use Rattle.measure.specs.declared.units.Hundredths.{Hundredths}
use Rattle.measure.specs.declared.kinds.Kind.{Kind}
use Rattle.measure.specs.declared.kinds.Kind.TheVariants.{UnderDeck, BetweenDeck, Superstructure, Hatchway, Room, NoKind}

pub most : {n : ℕ} → EvenParts n → n ≤ 16
most p2 = lit≤ tt
most p4 = lit≤ tt
most p6 = lit≤ tt
most p8 = lit≤ tt
most p10 = lit≤ tt
most p12 = lit≤ tt
most p14 = lit≤ tt
most p16 = lit≤ tt

pub least : {n : ℕ} → EvenParts n → 2 ≤ n
least p2 = lit≤ tt
least p4 = lit≤ tt
least p6 = lit≤ tt
least p8 = lit≤ tt
least p10 = lit≤ tt
least p12 = lit≤ tt
least p14 = lit≤ tt
least p16 = lit≤ tt

-- what holds of both choices holds of the one taken
pub chosen : (P : ℕ → Type 0) (b : Bool) {x y : ℕ} → P x → P y → P (cond b x y)
chosen P true p q = p
chosen P false p q = q

pub table_even : (l : Hundredths) → EvenParts (table_parts l)
unfolding table_parts
table_even l =
    chosen EvenParts (leb l.0 5000) p6
    (chosen EvenParts (leb l.0 10000) p8
    (chosen EvenParts (leb l.0 15000) p10
    (chosen EvenParts (leb l.0 20000) p12
    (chosen EvenParts (leb l.0 25000) p14
    p16))))

-- The table is one rule (T-03 of document 02): the fifties begun, which are l / 50 ft rounded up, doubled, and 4 more, "with 6 the least
-- and 16 the most". Row by row: each length of a row has the row's number by the rule.
pub table_by_fifties : (l : Hundredths) → let begun = (l.0 + 4999) / 5000 in table_parts l ≡ max 6 (min 16 (2 * begun + 4))
unfolding table_parts
table_by_fifties l =
    row 5000 (omega arith) (λ over-50.
    row 10000 (omega arith) (λ over-100.
    row 15000 (omega arith) (λ over-150.
    row 20000 (omega arith) (λ over-200.
    row 25000 (omega arith) (omega arith)))))
  where
    row : (edge : ℕ) {n later rule : ℕ} → (l.0 ≤ edge → n ≡ rule) → (edge < l.0 → later ≡ rule) → cond (leb l.0 edge) n later ≡ rule
    row edge {n} {later} {rule} up_to_lem over = by (leb l.0 edge) refl
      where
        by : (b : Bool) → leb l.0 edge ≡ b → cond b n later ≡ rule
        by true e = up_to_lem (leb-true _ _ e)
        by false e = over (leb-false _ _ e)

pub table_most : (l : Hundredths) → table_parts l ≤ 16
table_most l = most (table_even l)

pub step_even : (l : Hundredths) → EvenParts (step_parts l)
unfolding step_parts
step_even l = chosen EvenParts (leb l.0 2000) p2 (chosen EvenParts (ltb l.0 4000) p4 (table_even l))

pub under_deck_even : (t l : Hundredths) → EvenParts (under_deck_parts t l)
unfolding under_deck_parts
under_deck_even t l = chosen EvenParts (eqb l.0 t.0) (table_even l) (step_even l)

pub depth_even : (d : Hundredths) → EvenParts (depth_parts d)
unfolding depth_parts
depth_even d = chosen EvenParts (leb d.0 1600) p4 p6

pub depth_most : (d : Hundredths) → depth_parts d ≤ 16
depth_most d = most (depth_even d)

pub depth_some : (d : Hundredths) → 1 ≤ depth_parts d
depth_some d = omega (arith, least (depth_even d))

pub under_deck_most : (t l : Hundredths) → under_deck_parts t l ≤ 16
under_deck_most t l = most (under_deck_even t l)

nearer_even : (t : Hundredths) (n : ℕ) (l : Hundredths) (b k : ℕ) → EvenParts b → EvenParts k → EvenParts (nearer t n l b k)
unfolding nearer
nearer_even t n l b k p q = chosen EvenParts (leb (distance t n l k * b) (distance t n l b * k)) q p

pub nearest_even : (t : Hundredths) (n : ℕ) (l : Hundredths) → EvenParts (nearest_parts t n l)
unfolding nearest_parts
nearest_even t n l =
    next p2 (next p4 (next p6 (next p8 (next p10 (next p12 (next p14 p16))))))
  where
    next : {b k : ℕ} → EvenParts b → EvenParts k → EvenParts (nearer t n l b k)
    next {b} {k} p q = nearer_even t n l b k p q

pub superstructure_even : (t l : Hundredths) → EvenParts (superstructure_parts t l)
unfolding superstructure_parts
superstructure_even t l = nearest_even t (table_parts t) l

-- the nearest of the last i + 1 even numbers: of all of them, where i is 7, it is `nearest_parts`
abbrev pub nearest_of_last : Hundredths → ℕ → Hundredths → ℕ → ℕ
nearest_of_last t n l zero = 16
nearest_of_last t n l (suc i) = nearer t n l (14 - 2 * i) (nearest_of_last t n l i)

pub nearest_of_last_le : (t : Hundredths) (n : ℕ) (l : Hundredths) (i : ℕ) → nearest_of_last t n l i ≤ 16
unfolding nearer
nearest_of_last_le t n l zero = lit≤ tt
nearest_of_last_le t n l (suc i) =
    let b = nearest_of_last t n l i in
    let k = 14 - 2 * i in
    chosen (λ x. x ≤ 16) (leb (distance t n l b * k) (distance t n l k * b)) (nearest_of_last_le t n l i) (omega arith)

pub parts_most : (k : Kind) (t l : Hundredths) → parts_of k t l ≤ 16
parts_most UnderDeck t l = most (under_deck_even t l)
parts_most BetweenDeck t l = most (table_even t)
parts_most Superstructure t l = most (superstructure_even t l)
parts_most Hatchway t l = lit≤ tt
parts_most Room t l = lit≤ tt
parts_most NoKind t l = lit≤ tt
