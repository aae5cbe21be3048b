-- `read_vessel` meets its contract: a number of at most four bytes fits its type.
use Rattle.std.proofs.Common.{ℕ, ◌+◌, ◌^◌, ◌-◌, ◌≤◌, ◌≡◌, ap, ap₂, ◌∙◌, arith, lit≤, length, take, drop, length-take, length-drop}
use native.Mathlib.Nat.{pow-le-pow_right}
use Rattle.dayfile.specs.Trailer.{end_size}
use Rattle.dayfile.proofs.trailer.read_vessel.Goals.{After-from}
use Rattle.dayfile.proofs.trailer.read_vessel.Goals as goal

pub overflow_sub-at : goal.overflow_sub-at
overflow_sub-at c = omega (arith, c.end_size.ensures.0, c.requires.1)

-- the bytes that the form has for it
part : (c : After-from) → (let a = c.args in let file = a.file.now in
    take (length file - c.end_size.result + c.from.result - (length file - c.end_size.result)) (drop (length file - c.end_size.result) file) ≡ take a.form.vessel (drop (length file - end_size a.form) file))
part c = let file = c.args.file.now in
    let size : length file - c.end_size.result + c.from.result - (length file - c.end_size.result) ≡ c.args.form.vessel = omega (arith, c.from.ensures) in
    ap₂ (λ (n m : ℕ). take n (drop m file)) size (ap (λ (n : ℕ). length file - n) c.end_size.ensures.0)

sized : (c : After-from) → length (take c.args.form.vessel (drop (length c.args.file.now - end_size c.args.form) c.args.file.now)) ≡ c.args.form.vessel
sized c = simp (length-take, length-drop) (omega (arith, c.requires.1))

pub overflow_cast-result : goal.overflow_cast-result
overflow_cast-result c =
    let p = (goal.at.overflow_cast-result c).After-from in
    let four : 256 ^ c.args.form.vessel ≤ 256 ^ 4 = pow-le-pow_right (lit≤ tt) c.requires.0 in
    let room = ap (λ (n : ℕ). 256 ^ n) (ap length (part p) ∙ sized p) in
    omega (arith, c.number_at.ensures.fits, room, four)
