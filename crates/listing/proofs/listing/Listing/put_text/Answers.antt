-- `put_text` meets its contract, by the file's size and the number that reading gives.
use Rattle.std.proofs.Common.{arith, rules}
use Rattle.dayfile.proofs.Laws.Reading.{read_reports}
use Rattle.listing.proofs.Laws.Listing.{too_long, refused_text, read_text_lem}
use Rattle.listing.proofs.listing.Listing.put_text.Goals as goal

pub returns-then-file-gt-MOST_BYTES : goal.returns-then-file-gt-MOST_BYTES
returns-then-file-gt-MOST_BYTES c =
    let file = c.args.file.now in
    let p = c.put_refusal.ensures in
    rw (too_long file c.if-file-gt-MOST_BYTES.true) (record { put = p.put; fits = omega (arith, p.short) })

pub returns-then-reading-ne0 : goal.returns-then-reading-ne0
returns-then-reading-ne0 c =
    let file = c.args.file.now in
    let r = c.read-reading in
    let p = c.put_refusal-then-reading-ne0.ensures in
    let text = refused_text file r.result r.ensures c.if-file-gt-MOST_BYTES.false c.if-reading-ne0.true in
    rw text (record { put = p.put; fits = omega (arith, p.short) })

pub put_sheet-requires : goal.put_sheet-requires
put_sheet-requires c =
    let file = c.args.file.now in
    let r = c.read-reading in
    (search rules, read_reports file r.result r.ensures c.if-reading-ne0.false)

pub returns : goal.returns
returns c =
    let file = c.args.file.now in
    let r = c.read-reading in
    let text = read_text_lem file r.result r.ensures c.if-file-gt-MOST_BYTES.false c.if-reading-ne0.false in
    rw text c.put_sheet.ensures
