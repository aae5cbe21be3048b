-- `put_bytes` meets its contract: the bytes are copied to the part behind the text.
use Rattle.std.proofs.Common.{◌≡◌, length, arith, rules}
use Rattle.dayfile.proofs.Laws.Stores.{stored_part}
use Rattle.listing.proofs.listing.Listing.put_bytes.Goals as goal

pub returns : goal.returns
returns c =
    let l = c.args.self.now in
    let full : length l.text ≡ 8192 = search rules in
    record {
      text = stored_part l.text _ c.args.bytes.now l.size _ c.copy_from_slice.ensures.after (omega arith) (omega arith);
      size = search rules;
    }
