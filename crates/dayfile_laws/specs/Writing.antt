-- What a write does to a buffer, accepted or refused: "no byte before or after is touched".
use Rattle.std.specs.Prelude.{ℕ, ◌+◌, ◌≤◌, ◌≡◌, true, false, List, length, take, drop}
use Rattle.spaces.specs.declared.space.Space.{Space}
use Rattle.spaces_laws.specs.Above.{◌∈◌}
use Rattle.sheet.specs.Sheet.{standing}
use Rattle.sheet.specs.Calls.{reported}
use Rattle.sheet.specs.declared.sheet.Sheet.{Sheet}
use Rattle.dayfile.specs.Forms.{is_form, form_of}
use Rattle.dayfile.specs.Trailer.{sheet_size}
use Rattle.dayfile.specs.Writing.{sheet_bytes, loses_number, written, placed, written_into}

-- the bytes of a buffer after a write: as many as before, and the same before the named place and behind the bytes written
pub record Untouched (at bytes : ℕ) (buffer after : List ℕ) : Type 0 where
  pub as_many : length after ≡ length buffer
  pub before : take at after ≡ take at buffer
  pub behind : drop (at + bytes) after ≡ drop (at + bytes) buffer

-- an accepted write: its report is given, the form loses no number, there is room, and the sheet's bytes stand at the named place
pub record WriteAccepted (s : Sheet) (justified form at : ℕ) (buffer : List ℕ) : Type 0 where
  pub reports : (reported s justified).number ≡ 0
  pub known : is_form form ≡ true
  pub none_lost : loses_number (form_of form) s ≡ false
  pub room : at + sheet_size (form_of form) s.count ≤ length buffer
  pub bytes_are : (written s justified form (length buffer) at).bytes ≡ sheet_size (form_of form) s.count
  pub into : written_into s justified form at buffer ≡ placed buffer at (sheet_bytes s justified form)

-- a call that answers this number and so many bytes, and leaves the buffer as `after`, puts exactly these bytes at a place of it
pub record Puts (bytes : List ℕ) (number answered at : ℕ) (buffer after : List ℕ) : Type 0 where
  pub accepted : number ≡ 0
  pub as_many : answered ≡ length bytes
  pub into : after ≡ placed buffer at bytes

-- a write puts exactly these bytes at a place of a buffer
abbrev pub Writes : List ℕ → Sheet → ℕ → ℕ → ℕ → List ℕ → Type 0
Writes bytes s justified form at buffer =
    let w = written s justified form (length buffer) at in
    Puts bytes w.number w.bytes at buffer (written_into s justified form at buffer)

-- 20 as a statement on the numbers: form 1 has no place for a vessel number or a deck that isn't 0, and form 2 has one for every number
pub data LosesNumber : ℕ → Sheet → Type 0 where
  the_vessel_number : {s : Sheet} → (s.vessel ≡ 0 → ⊥) → LosesNumber 1 s
  a_deck : {s : Sheet} (x : Space) → x ∈ standing s → (x.deck ≡ 0 → ⊥) → LosesNumber 1 s

-- no deck and no vessel number
pub record Zeros (s : Sheet) : Type 0 where
  pub vessel_0 : s.vessel ≡ 0
  pub decks_0 : (x : Space) → x ∈ standing s → x.deck ≡ 0
