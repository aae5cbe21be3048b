-- One byte more of a number, written and read; and how large a number of some bytes is.
use Rattle.std.proofs.Common.{ℕ, zero, suc, ◌+◌, ◌*◌, ◌/◌, ◌%◌, ◌^◌, ◌-◌, ◌<◌, ◌≤◌, ◌≡◌, refl, ap, List, ◌++◌, pow-suc, add-one, arith, lit≤, length, take, drop, get_or, set, drop-cons, take-suc-set}
use native.Mathlib.Nat.{pow-le-pow_right}
use lib.Seq.{append_snoc}
use Rattle.dayfile.specs.Numbers.{bytes_of, number_of}

pub length_bytes : (width x : ℕ) → length (bytes_of width x) ≡ width
length_bytes zero x = refl
length_bytes (suc width) x = ap suc (length_bytes width (x / 256))

-- the lowest byte written leaves one byte less to write
pub byte_written : (l : List ℕ) (n i x : ℕ) → i < length l → i < n
    → take (i + 1) (set l i (x % 256)) ++ bytes_of (n - (i + 1)) (x / 256) ≡ take i l ++ bytes_of (n - i) x
byte_written l n i x h k =
    let e : n - i ≡ suc (n - (i + 1)) = omega arith in
    rw (e, add-one, take-suc-set l i (x % 256) h) (append_snoc (take i l) (x % 256) (bytes_of (n - suc i) (x / 256)))

-- a byte in front of the last i, which are read
pub byte_in_front : (bytes : List ℕ) (i : ℕ) → i < length bytes
    → number_of (drop (length bytes - (i + 1)) bytes) ≡ get_or bytes (length bytes - 1 - i) 0 + 256 * number_of (drop (length bytes - i) bytes)
byte_in_front bytes i h =
    let at = length bytes - (i + 1) in
    let e : length bytes - 1 - i ≡ at = omega arith in
    let f : length bytes - i ≡ suc at = omega arith in
    let g : at < length bytes = omega arith in
    rw (e, f, drop-cons bytes at 0 g)

-- the number of fewer than eight bytes has room for one byte more
pub one_byte_more : (k x b : ℕ) → k < 8 → x < 256 ^ k → b < 256 → b + 256 * x < 2 ^ 64
one_byte_more k x b h g l =
    let m : k ≤ 7 = omega arith in
    let e : 256 ^ k ≤ 256 ^ 7 = pow-le-pow_right (lit≤ tt) m in
    omega arith

-- and is then below the next power
pub below_next_power : (k x b : ℕ) → x < 256 ^ k → b < 256 → b + 256 * x < 256 ^ (k + 1)
below_next_power k x b g l = rw (add-one, pow-suc) (omega arith)
