-- Texts put one behind the other.
use Rattle.std.proofs.Common.{ℕ, ◌≡◌, sym, ap₂, ◌∙◌, subst, List, [], ◌∷◌, ◌++◌, arith, length-append}
use lib.Seq.{sets, append_snoc}
use Rattle.listing.specs.Text.{decimal, hundredths}
use Rattle.listing.specs.Handed.{Put}
use Rattle.listing.specs.declared.listing.Listing.{Listing}
use Rattle.dayfile.proofs.Laws.Stores.{stored_behind}

-- two texts are one
pub then : {l m k : Listing} {a b : List ℕ} → Put l a m → Put m b k → Put l (a ++ b) k
then {l} {m} {k} {a} {b} first second =
    record {
      text =
          second.text
          ∙ ap₂ (λ (x : List ℕ) (n : ℕ). sets x n b) first.text first.size
          ∙ sym (stored_behind l.text a b l.size);
      size = rw length-append (omega (arith, first.size, second.size));
    }

-- the same where the first ends in a byte that stands in front of the second
pub then_behind : {l m k : Listing} {b : List ℕ} (a : List ℕ) (x : ℕ) → Put l (a ++ (x ∷ [])) m → Put m b k
    → Put l (a ++ (x ∷ b)) k
then_behind a x first second = rw append_snoc at (then first second)

-- a number put that is another one
pub same_number : {l m : Listing} {n k : ℕ} (behind : ℕ) → n ≡ k → Put l (decimal n ++ (behind ∷ [])) m → Put l (decimal k ++ (behind ∷ [])) m
same_number {l} {m} behind e p = let P : ℕ → Type 0 = λ n. Put l (decimal n ++ (behind ∷ [])) m in subst P e p

pub same_hundredths : {l m : Listing} {n k : ℕ} (behind : ℕ) → n ≡ k → Put l (hundredths n ++ (behind ∷ [])) m → Put l (hundredths k ++ (behind ∷ [])) m
same_hundredths {l} {m} behind e p = let P : ℕ → Type 0 = λ n. Put l (hundredths n ++ (behind ∷ [])) m in subst P e p
