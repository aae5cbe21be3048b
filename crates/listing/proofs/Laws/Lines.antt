-- How long lines are, by the lengths of what is put one behind the other; and the lines of some spaces.
use Rattle.std.proofs.Common.{ℕ, ◌+◌, ◌≤◌, ◌<◌, ◌≡◌, refl, List, [], ◌∷◌, ◌++◌, append_assoc, append-nil, add-one, arith, length, take, get_or, length-append, take-suc}
use Prim.Native.Char.{code}
use Rattle.spaces.specs.Space.{empty_space}
use Rattle.spaces.specs.declared.space.Space.{Space}
use Rattle.listing.specs.Text.{decimal, hundredths}
use Rattle.listing.specs.Lines.{figure_line, space_line, space_lines, refusal_line}
use Rattle.listing.specs.declared.listing.Listing.{Listing}
use Rattle.listing.specs.Handed.{line_room, PutLines}
use Rattle.listing.proofs.Laws.Decimal.{number_short, hundredths_short}
use Rattle.listing.proofs.Laws.Puts.{then}

pub figure_length : (name : List ℕ) (n : ℕ) → length (figure_line name n) ≡ length name + (1 + length (hundredths n ++ (code "\n" ∷ [])))
unfolding figure_line
figure_length name n = simp length-append (omega arith)

pub refusal_length : (number position : ℕ)
    → length (refusal_line number position) ≡ 8 + (length (decimal number ++ (code " " ∷ [])) + length (decimal position ++ (code "\n" ∷ [])))
unfolding refusal_line
refusal_length number position = simp length-append (omega arith)

pub space_length : (x : Space)
    → length (space_line x)
    ≡ length (decimal x.id ++ (code " " ∷ []))
    + length (decimal x.within ++ (code " " ∷ []))
    + 2
    + length (decimal x.standing ++ (code " " ∷ []))
    + length (hundredths x.tonnage ++ (code "\n" ∷ []))
unfolding space_line
space_length x = simp length-append (omega arith)

-- the numbers of a space in their widths
pub record Widths (x : Space) : Type 0 where
  pub id : x.id < 65536
  pub within : x.within < 65536
  pub standing : x.standing < 256
  pub tonnage : x.tonnage < 4294967296

-- so no word of its line is longer than these
pub record Words (x : Space) : Type 0 where
  pub id : length (decimal x.id ++ (code " " ∷ [])) ≤ 6
  pub within : length (decimal x.within ++ (code " " ∷ [])) ≤ 6
  pub standing : length (decimal x.standing ++ (code " " ∷ [])) ≤ 4
  pub tons : length (hundredths x.tonnage ++ (code "\n" ∷ [])) ≤ 12
  pub line : length (space_line x) ≤ line_room

pub words : (x : Space) → Widths x → Words x
words x w =
    let i = number_short 4 x.id (code " ") (omega (arith, w.id)) in
    let e = number_short 4 x.within (code " ") (omega (arith, w.within)) in
    let s = number_short 2 x.standing (code " ") (omega (arith, w.standing)) in
    let t = hundredths_short 7 x.tonnage (code "\n") (omega (arith, w.tonnage)) in
    record { id = i; within = e; standing = s; tons = t; line = omega (arith, i, e, s, t, space_length x) }

-- ---- the lines of some spaces

lines_append : (xs ys : List Space) → space_lines (xs ++ ys) ≡ space_lines xs ++ space_lines ys
lines_append [] ys = refl
lines_append (x ∷ xs) ys = rw (lines_append xs ys, append_assoc)

-- one space more is one line more
pub lines_more : (xs : List Space) (i : ℕ) → i < length xs
    → space_lines (take (i + 1) xs) ≡ space_lines (take i xs) ++ space_line (get_or xs i empty_space)
lines_more xs i h =
    rw (add-one i, take-suc xs i empty_space h, lines_append, append-nil)

pub put_more : {l m k : Listing} {a b : List ℕ} {i : ℕ} → PutLines l a i m → PutLines m b 1 k → PutLines l (a ++ b) (i + 1) k
put_more {l} {m} {k} {a} {b} first second =
    record { put = then first.put second.put; short = rw length-append (omega (arith, first.short, second.short)) }
