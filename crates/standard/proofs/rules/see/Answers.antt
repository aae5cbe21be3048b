-- `rules::see` meets its contract: what it finds around the entry is what the definition's tests ask.
use Rattle.std.proofs.Common.{◌∙◌, refl}
use Rattle.standard.proofs.Laws.Judged.{home_encloses}
use Rattle.standard.proofs.rules.see.Goals as goal

pub returns : goal.returns
returns c =
    let around = c.around_space-around in
    record {
      found_is = c.space_at.ensures ∙ home_encloses c.args.row.spaces.now c.args.x around.result around.ensures;
      around_is = around.ensures;
      full_is = refl;
    }
