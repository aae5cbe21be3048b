-- An index of ids: one space more at the front, and what an index says once all are laid. Stands on Cases, Row.
use Rattle.std.proofs.Common.{ℕ, suc, ◌+◌, ◌≤◌, ◌<◌, ◌≡◌, ap, ◌∙◌, List, arith, ne_eqb, length, drop, get_or, replicate, drop_of_length-le}
use lib.ListN.{length-replicate, get_or-replicate}
use Rattle.spaces.specs.Space.{empty_space}
use Rattle.spaces.specs.Row.{place_of}
use Rattle.spaces.specs.declared.space.Space.{Space}
use Rattle.spaces.proofs.Laws.Row.{one_ahead}

-- an index with the places of the ids from `left` on
abbrev pub IndexedFrom : ℕ → List Space → List ℕ → Type 0
IndexedFrom left xs index = (id : ℕ) → id < length index → get_or index id 0 ≡ left + place_of id (drop left xs)

pub none_indexed : (xs : List Space) (m : ℕ) → IndexedFrom (length xs) xs (replicate m (length xs))
none_indexed xs m id h =
    let n = length xs in
    let ended : place_of id (drop n xs) ≡ 0 = ap (place_of id) (drop_of_length-le xs {i = n} (omega arith)) in
    let size : length (replicate m n) ≡ m = length-replicate m n in
    get_or-replicate m id n 0 (omega arith) ∙ omega arith

-- the space at i laid: each after it is laid already
module _ (xs : List Space) (index : List ℕ) (left i : ℕ) (next : left ≡ i + 1) (h : i < length xs) (each : IndexedFrom left xs index) where
  abbrev x : Space
  x = get_or xs i empty_space

  -- another id is one place further from i than from the next
  others : (id : ℕ) → id < length index → (x.id ≡ id → ⊥) → get_or index id 0 ≡ i + place_of id (drop i xs)
  others id l ne =
      let further : place_of id (drop i xs) ≡ suc (place_of id (drop (i + 1) xs)) = ap (place_of id) (one_ahead xs i h) ∙ simp (ne_eqb _ _ ne) in
      let after : place_of id (drop left xs) ≡ place_of id (drop (i + 1) xs) = ap (λ (k : ℕ). place_of id (drop k xs)) next in
      omega (arith, each id l)

  pub not_reached : (own : ℕ) → own ≡ x.id → length index ≤ own → IndexedFrom i xs index
  not_reached own is far id l = others id l (λ q. omega arith)
