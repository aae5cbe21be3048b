-- A number and its bytes, both ways, once over any width. Stands on nothing of the sheet.
use Rattle.std.proofs.Common.{ℕ, zero, suc, ◌+◌, ◌*◌, ◌/◌, ◌%◌, ◌^◌, ◌<◌, ◌≡◌, refl, ◌∙◌, List, pow-suc, div-lt_iff_lt-mul, mod-eq_of_lt, zero-add, arith, lit<, length}
use native.Mathlib.Nat.{mod-add-div, add-mul-mod_self_left, add-mul-div_left, div-eq_of_lt}
use Rattle.measure.specs.Handed.{none, more}
use Rattle.dayfile.specs.Numbers.{Bytes, bytes_of, number_of}

-- the bytes of a number that fits give it back: the lowest byte and 256 times what the others give
pub number_of_bytes : (width x : ℕ) → x < 256 ^ width → number_of (bytes_of width x) ≡ x
number_of_bytes zero x h = omega arith
number_of_bytes (suc width) x h =
    let k : x < 256 ^ width * 256 = rw pow-suc at h in
    rw (number_of_bytes width (x / 256) ((div-lt_iff_lt-mul (lit< tt)).1 k)) (mod-add-div x 256)

-- and the number of some bytes gives them back
pub bytes_of_number : {bytes : List ℕ} → Bytes bytes → bytes_of (length bytes) (number_of bytes) ≡ bytes
bytes_of_number none = refl
bytes_of_number (more {x = b} {xs = bytes} h others) =
    let n = number_of bytes in
    let k : b < 256 = omega arith in
    let lowest : (b + 256 * n) % 256 ≡ b = add-mul-mod_self_left b 256 n ∙ mod-eq_of_lt k in
    let rest : (b + 256 * n) / 256 ≡ n = add-mul-div_left b n (lit< tt) ∙ rw (div-eq_of_lt k) (zero-add n) in
    rw (lowest, rest, bytes_of_number others)

-- which is below the power of its width
pub number_below : {bytes : List ℕ} → Bytes bytes → number_of bytes < 256 ^ length bytes
number_below none = lit< tt
number_below (more {x = b} {xs = bytes} h others) =
    let power : 256 ^ suc (length bytes) ≡ 256 ^ length bytes * 256 = pow-suc 256 (length bytes) in
    omega (arith, power, number_below others)
