-- The walk upward: its first step, its length, and what it answers past a space.
use Rattle.std.proofs.Common.{◌≡◌, refl, sym, ap, ap₂, ◌∙◌, Bool, true, false, not, cond, ◌&&◌, List, [], ◌∷◌, Option, None, Some, ◌||◌, ℕ, zero, suc, ◌+◌, ◌≤◌, ◌<◌, arith, length, get_or}
use Rattle.std.specs.List.{list_all, enumerate_from}
use Rattle.spaces.specs.Space.{empty_space, is_plain}
use Rattle.spaces.specs.Enclosure.{enclosing, onward, upward, above, visited, among, all_plain, below_of}
use Rattle.spaces.specs.declared.space.Space.{Space}

-- one level of the walk
pub upward_next : (left : ℕ) (xs : List Space) (x : Space) {z : Space} → enclosing xs x ≡ Some z → upward (suc left) xs x ≡ z ∷ upward left xs z
upward_next left xs x e = rw e

pub upward_none : (left : ℕ) (xs : List Space) (x : Space) → enclosing xs x ≡ None → upward left xs x ≡ []
upward_none zero xs x e = refl
upward_none (suc left) xs x e = rw e

onward_short : (o : Option Space) (further : Space → List Space) (left : ℕ) → ((z : Space) → length (further z) ≤ left) → length (onward o further) ≤ suc left
onward_short None further left h = omega arith
onward_short (Some z) further left h = omega (arith, h z)

pub upward_short : (left : ℕ) (xs : List Space) (x : Space) → length (upward left xs x) ≤ left
upward_short zero xs x = omega arith
upward_short (suc left) xs x = onward_short (enclosing xs x) (λ z. upward left xs z) left (λ z. upward_short left xs z)

-- "It is at most 8" (T-07)
pub visited_at_most : (xs : List Space) (x : Space) → visited xs x ≤ 8
unfolding above
visited_at_most xs x = upward_short 8 xs x

-- all below are plain where each space that isn't plain has none with the id above
module _ (id : ℕ) (xs : List Space) where
  abbrev pub not_taken : Space → Bool
  not_taken y = is_plain y || not (among id (above xs y))

  one_below : (below plain rest : Bool) (y : Space) (ys : List Space) → is_plain y ≡ plain → all_plain ys ≡ rest
      → (plain || not below) && rest ≡ all_plain (cond below (y ∷ ys) ys)
  one_below true true rest y ys p e = sym (rw p e)
  one_below true false rest y ys p e = sym (rw p)
  one_below false true rest y ys p e = sym e
  one_below false false rest y ys p e = sym e

  pub plain_below_is : (ys : List Space) → list_all not_taken ys ≡ all_plain (below_of id xs ys)
  plain_below_is [] = refl
  plain_below_is (y ∷ ys) =
      ap (λ (b : Bool). not_taken y && b) (plain_below_is ys) ∙ one_below (among id (above xs y)) (is_plain y) _ y (below_of id xs ys) refl refl

  -- the same of each space with its place, from a place of all on
  abbrev pub not_taken_at : List Space → ℕ × Space → Bool
  not_taken_at all p = is_plain p.1 || not (among id (above xs (get_or all p.0 empty_space)))

  pub each_not_taken : (all ys : List Space) (k : ℕ) → ((i : ℕ) → i < length ys → get_or all (k + i) empty_space ≡ get_or ys i empty_space)
      → list_all (not_taken_at all) (enumerate_from k ys) ≡ list_all not_taken ys
  each_not_taken all [] k there = refl
  each_not_taken all (y ∷ ys) k there =
      let here : get_or all k empty_space ≡ y = ap (λ (p : ℕ). get_or all p empty_space) (omega arith) ∙ there 0 (omega arith) in
      ap₂ (λ (z : Space) (b : Bool). (is_plain y || not (among id (above xs z))) && b) here
      (each_not_taken all ys (k + 1) (λ i l. ap (λ (p : ℕ). get_or all p empty_space) (omega arith) ∙ there (suc i) (omega arith)))
