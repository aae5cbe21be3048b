-- `number_at` meets its contract: each byte, from the last back, stands in front of those read.
use Rattle.std.proofs.Common.{ℕ, List, [], ◌∷◌, ◌++◌, ◌≡◌, ◌+◌, ◌-◌, ◌*◌, ◌^◌, ◌<◌, length, get_or, drop, arith, sym, ap₂, ◌∙◌, subst, length-append}
use Rattle.std.proofs.lemmas.Iterator.Adapters.{YieldsList-from_rev_slice}
use Rattle.std.proofs.lemmas.Iterator.Consumers.{YieldsList-turn, YieldsList-end}
use Rattle.std.proofs.lemmas.List.{get_or-reverse, length-reverse}
use Rattle.std.proofs.lemmas.Grind.{get_or_default_zero}
use Rattle.dayfile.specs.Handed.{Number}
use Rattle.dayfile.proofs.Laws.Numbers.{byte_in_front, one_byte_more, below_next_power}
use Rattle.dayfile.proofs.numbers.number_at.Goals.{After-from}
use Rattle.dayfile.proofs.numbers.number_at.Goals as goal

-- a byte in front of the last i
record Front (field : List ℕ) (i byte : ℕ) : Type 0 where
  inside : i < length field
  is : byte ≡ get_or field (length field - 1 - i) 0
  small : byte < 256

front : (c : After-from) → Front c.args.field.now (length c.loop-byte.yielded) c.from.result
front c =
    let bytes = c.args.field.now in
    let l = c.loop-byte in
    let i = length l.yielded in
    let turn = YieldsList-turn (YieldsList-from_rev_slice bytes (cc)) l.yielded l.byte-iterator l.yielded_by c.next.result _ c.in-Some.byte c.in-Some.is c.next.ensures.steps in
    let inside : i < length bytes = omega (arith, turn.0, length-reverse bytes) in
    let is : c.from.result ≡ get_or bytes (length bytes - 1 - i) 0 =
    c.from.ensures ∙ turn.1 ∙ get_or-reverse bytes i _ inside ∙ get_or_default_zero bytes (length bytes - 1 - i) _ (omega arith) in
    record { inside = inside; is = is; small = omega (arith, is, c.type_inv.field (length bytes - 1 - i)) }

more : (c : After-from) → c.from.result + 256 * c.loop-byte.number < 2 ^ 64
more c =
    let f = front c in
    one_byte_more (length c.loop-byte.yielded) c.loop-byte.number _ (omega (arith, f.inside)) c.loop-byte.invariant.fits f.small

pub overflow_mul-number : goal.overflow_mul-number
overflow_mul-number c = record { fits = omega (arith, more c) }

pub overflow_add-number : goal.overflow_add-number
overflow_add-number c = record { fits = more c }

pub loop-byte-preserved : goal.loop-byte-preserved
loop-byte-preserved c =
    let bytes = c.args.field.now in
    let l = c.loop-byte in
    let i = length l.yielded in
    let f = front c in
    let one : length (l.yielded ++ (c.in-Some.byte ∷ [])) ≡ i + 1 = length-append l.yielded (c.in-Some.byte ∷ []) in
    let P : ℕ → Type 0 = λ k. Number k (drop (length bytes - k) bytes) (c.from.result + 256 * l.number) in
    subst P (sym one)
    (record {
      is = ap₂ (λ (b n : ℕ). b + 256 * n) f.is l.invariant.is ∙ sym (byte_in_front bytes i f.inside);
      fits = below_next_power i l.number _ l.invariant.fits f.small;
    })

pub returns : goal.returns
returns c =
    let bytes = c.args.field.now in
    let l = c.loop-byte in
    let end = YieldsList-end (YieldsList-from_rev_slice bytes (cc)) l.yielded l.byte-iterator l.yielded_by c.next.result _ c.in-None.is c.next.ensures.steps in
    let all : length l.yielded ≡ length bytes = end.1 ∙ length-reverse bytes in
    let none : length bytes - length bytes ≡ 0 = omega arith in
    rw (all, none) at l.invariant
