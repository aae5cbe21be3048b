-- `list` meets its contract: the text is put over zeros.
use Rattle.std.proofs.Common.{ℕ, List, ◌≡◌, ap, ap₂, ◌∙◌, length, arith}
use Rattle.std.proofs.Math.Seq.{sets}
use Rattle.listing.specs.Listing.{text_size, file_text, listed}
use Rattle.listing.proofs.Laws.Listing.{text_over_zeros}
use Rattle.listing.proofs.listing.list.Goals as goal

pub returns : goal.returns
unfolding listed
returns c =
    let text = file_text c.args.file.now in
    let p = c.put_text.ensures in
    let none = c.empty-listing in
    let size : c.put_text.new.self.size ≡ length text = omega (arith, p.put.size, none.ensures.none) in
    ap₂ (λ (t : List ℕ) (n : ℕ). record { text = t; size = n })
    (p.put.text ∙ ap (λ (n : ℕ). sets none.result.text n text) none.ensures.none ∙ text_over_zeros text_size none.result.text text none.ensures.zeros p.fits)
    size
