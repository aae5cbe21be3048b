-- A day's file: "Sheets follow one another; the last ends at the end of the file."
use Rattle.std.specs.Prelude.{ℕ, zero, suc, ◌≡◌, cond, List, [], ◌∷◌, ◌++◌, eqb, take}
use Rattle.sheet.specs.declared.sheet.Sheet.{Sheet}
use Rattle.dayfile.specs.Writing.{sheet_bytes}
use Rattle.dayfile.specs.Reading.{read_of}
use Rattle.dayfile.specs.declared.reading.Reading.{Reading}

-- a sheet as it is written: with its justified mark, in a form
pub record SheetWritten : Type 0 where
  pub sheet : Sheet
  pub justified : ℕ
  pub form : ℕ

-- such sheets one after another
abbrev pub day_bytes : List SheetWritten → List ℕ
day_bytes [] = []
day_bytes (first ∷ later) = sheet_bytes first.sheet first.justified first.form ++ day_bytes later

-- "the bytes ahead of that start are the earlier sheets, read the same way": the readings of at most n sheets of a file, the last
-- first, up to one that is refused
abbrev pub sheets_in : ℕ → List ℕ → List Reading
sheets_in zero file = []
sheets_in (suc n) file =
    let last = read_of file in
    let earlier = sheets_in n (take last.start file) in
    cond (eqb last.number 0) (last ∷ earlier) []

-- The same as a statement that names no n. Every file has exactly one such list, and `sheets_in` gives its first n (dayfile_laws, Day).
pub data Day : List ℕ → List Reading → Type 0 where
  none : {file : List ℕ} → ((read_of file).number ≡ 0 → ⊥) → Day file []
  last : {file : List ℕ} {earlier : List Reading} → (read_of file).number ≡ 0
      → Day (take (read_of file).start file) earlier → Day file (read_of file ∷ earlier)
