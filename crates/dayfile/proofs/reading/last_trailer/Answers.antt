-- `last_trailer` meets its contract: too short, a distance past the file's beginning, or a trailer that isn't right.
use Rattle.std.proofs.Common.{ℕ, Bool, List, ◌<◌, ◌≡◌, ap, ◌∙◌, length, get_or, drop, arith}
use Rattle.dayfile.specs.Trailer.{trailer_size, trailer_numbers, trailer_right, trailer_of}
use Rattle.dayfile.specs.Reading.{last_numbers}
use Rattle.dayfile.specs.Handed.{where_true}
use Rattle.dayfile.proofs.Laws.Stores.{lent_part}
use Rattle.dayfile.proofs.Laws.Reading.{too_short, too_far, by_trailer}
use Rattle.dayfile.proofs.reading.last_trailer.Goals.{After-read_trailer-numbers}
use Rattle.dayfile.proofs.reading.last_trailer.Goals as goal

pub returns-in_err-cut : goal.returns-in_err-cut
returns-in_err-cut c =
    let short : length c.args.file.now < trailer_size = omega (arith, c.in_err-cut.ensures) in
    c.from_residual.ensures ∙ rw (too_short _ short)

-- the numbers read are those of the last trailer
numbers : (c : After-read_trailer-numbers) → c.read_trailer-numbers.result ≡ last_numbers c.args.file.now
numbers c =
    let file = c.args.file.now in
    c.read_trailer-numbers.ensures
    ∙ ap trailer_numbers (lent_part file c.in_ok-cut.cut)
    ∙ ap (λ (cut : ℕ). trailer_numbers (drop cut file)) c.in_ok-cut.ensures.1

pub returns-then-size-distance : goal.returns-then-size-distance
returns-then-size-distance c =
    let file = c.args.file.now in
    let distance = ap (λ (v : List ℕ). get_or v 0 0) (numbers (goal.at.returns-then-size-distance c).After-read_trailer-numbers) in
    rw (too_far file (omega (arith, distance, c.if-size-distance.true)))

pub returns : goal.returns
returns c =
    let file = c.args.file.now in
    let read = numbers (goal.at.returns c).After-read_trailer-numbers in
    let distance = ap (λ (v : List ℕ). get_or v 0 0) read in
    c.trailer_of.ensures
    ∙ ap (λ (v : List ℕ). where_true (trailer_right v) (trailer_of v)) read
    ∙ ap (λ (test : Bool). where_true test (trailer_of (last_numbers file))) (by_trailer file (omega (arith, c.in_ok-cut.ensures.0)) (omega (arith, distance, c.if-size-distance.false)))
