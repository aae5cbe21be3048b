-- `put_space` meets its contract: its words are put one behind the other, none longer than its number's width allows.
use Rattle.std.proofs.Common.{[], ◌∷◌, ◌++◌, arith, rules}
use Prim.Native.Char.{code}
use Rattle.listing.specs.Text.{decimal}
use Rattle.listing.specs.Lines.{space_line}
use Rattle.listing.specs.Handed.{Put}
use Rattle.listing.proofs.Laws.Lines.{Words, words}
use Rattle.listing.proofs.Laws.Puts.{then, then_behind, same_number, same_hundredths}
use Rattle.listing.proofs.listing.Listing.put_space.Goals.{After-put_number, After-put_number-2, After-put_number-3}
use Rattle.listing.proofs.listing.Listing.put_space.Goals as goal

-- the words that are numbers
id : (c : After-put_number) → Put c.args.self.now (decimal c.args.x.id ++ (code " " ∷ [])) c.put_number.new.self
id c = same_number (code " ") c.from.ensures c.put_number.ensures

within : (c : After-put_number-2) → Put c.put_number.new.self (decimal c.args.x.within ++ (code " " ∷ [])) c.put_number-2.new.self
within c = same_number (code " ") c.from-2.ensures c.put_number-2.ensures

standing : (c : After-put_number-3) → Put c.put_letter.new.self (decimal c.args.x.standing ++ (code " " ∷ [])) c.put_number-3.new.self
standing c = same_number (code " ") c.from-3.ensures c.put_number-3.ensures

pub put_number-requires : goal.put_number-requires
put_number-requires c =
    let w : Words c.args.x = words c.args.x (search rules) in rw c.from.ensures (omega (arith, c.requires, w.id))

pub put_number-requires-2 : goal.put_number-requires-2
put_number-requires-2 c =
    let w : Words c.args.x = words c.args.x (search rules) in
    rw c.from-2.ensures (omega (arith, c.requires, w.id, w.within, (id (goal.at.put_number-requires-2 c).After-put_number).size))

pub put_letter-requires : goal.put_letter-requires
put_letter-requires c =
    let w : Words c.args.x = words c.args.x (search rules) in
    let p = (goal.at.put_letter-requires c).After-put_number-2 in
    omega (arith, c.requires, w.id, w.within, (id (goal.at.put_letter-requires c).After-put_number).size, (within p).size)

pub put_number-requires-3 : goal.put_number-requires-3
put_number-requires-3 c =
    let w : Words c.args.x = words c.args.x (search rules) in
    let p = goal.at.put_number-requires-3 c in
    rw c.from-3.ensures
    (omega (arith, c.requires, w.id, w.within, w.standing, (id p.After-put_number).size, (within p.After-put_number-2).size, c.put_letter.ensures.size))

pub put_hundredths-requires : goal.put_hundredths-requires
put_hundredths-requires c =
    let w : Words c.args.x = words c.args.x (search rules) in
    let p = goal.at.put_hundredths-requires c in
    rw c.from-4.ensures
    (omega (arith, c.requires, w.id, w.within, w.standing, w.tons, (id p.After-put_number).size, (within p.After-put_number-2).size, c.put_letter.ensures.size, (standing p.After-put_number-3).size))

pub returns : goal.returns
unfolding space_line
returns c =
    let x = c.args.x in
    let w : Words x = words x (search rules) in
    let p = goal.at.returns c in
    record {
      put =
          then_behind (decimal x.id) (code " ") (id p.After-put_number)
          (then_behind (decimal x.within) (code " ") (within p.After-put_number-2)
          (then c.put_letter.ensures
          (then_behind (decimal x.standing) (code " ") (standing p.After-put_number-3) (same_hundredths (code "\n") c.from-4.ensures c.put_hundredths.ensures))));
      short = w.line;
    }
