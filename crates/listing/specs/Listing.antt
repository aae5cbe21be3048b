-- What `sheetlist` prints of the bytes on its standard input.
use Rattle.std.specs.Prelude.{ℕ, ◌-◌, cond, List, ◌++◌, eqb, ltb, length, replicate}
use Rattle.script.specs.Text.{ascii}
use Rattle.standard.specs.Gross.{gross, net}
use Rattle.sheet.specs.Sheet.{standing}
use Rattle.sheet.specs.declared.sheet.Sheet.{Sheet}
use Rattle.dayfile.specs.Reading.{read_of}
use Rattle.dayfile.specs.declared.reading.Reading.{Reading}
use Rattle.listing.specs.Lines.{figure_line, space_lines, refusal_line}
use Rattle.listing.specs.declared.listing.Listing.{Listing}

-- "`LENGTH` is the tonnage length in feet; then one line a space in order of entry, ...; then gross and net in tons."
unfoldable pub sheet_text : Sheet → List ℕ
sheet_text s =
    figure_line (ascii "LENGTH") s.length.0
    ++ space_lines (standing s)
    ++ figure_line (ascii "GROSS") (gross (standing s))
    ++ figure_line (ascii "NET") (net (standing s))

-- a sheet that was read, or "one line: `REFUSED`, the number and the position"
abbrev pub read_text : Reading → List ℕ
read_text r = cond (eqb r.number 0) (sheet_text r.sheet) (refusal_line r.number r.position)

-- "The input is at most 65,536 bytes and its last sheet is listed."
abbrev pub most_bytes : ℕ
most_bytes = 65536

-- the text of a file; a longer one is no day's file, 16
unfoldable pub file_text : List ℕ → List ℕ
file_text file = cond (ltb most_bytes (length file)) (refusal_line 16 0) (read_text (read_of file))

-- the room for a text
abbrev pub text_size : ℕ
text_size = 8192

-- the text, zeros behind it, and how long it is
unfoldable pub listed : List ℕ → Listing
listed file =
    let text = file_text file in
    record { text = text ++ replicate (text_size - length text) 0; size = length text }
