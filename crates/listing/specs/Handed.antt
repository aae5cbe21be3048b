-- What the functions inside the crate ask and tell one another. No promise of a public function cites anything here.
use Rattle.std.specs.Prelude.{ℕ, ◌+◌, ◌*◌, ◌≤◌, ◌≡◌, List, length, replicate}
use Rattle.std.proofs.lemmas.List.Edits.{sets}
use Rattle.listing.specs.Listing.{text_size}
use Rattle.listing.specs.declared.listing.Listing.{Listing}

-- a text laid up to a place, as a listing has it
abbrev pub up_to : ℕ → List ℕ → Listing
up_to place text = record { text = text; size = place }

-- a listing has room for some bytes behind its text
abbrev pub Room : Listing → List ℕ → Type 0
Room l bytes = l.size + length bytes ≤ text_size

-- bytes were put behind its text
pub record Put (before : Listing) (bytes : List ℕ) (after : Listing) : Type 0 where
  pub text : after.text ≡ sets before.text before.size bytes
  pub size : after.size ≡ before.size + length bytes

-- the bytes that a line has at most, by the widths of its numbers
abbrev pub line_room : ℕ
line_room = 33

-- the same of some lines, none of them longer than that
pub record PutLines (before : Listing) (bytes : List ℕ) (count : ℕ) (after : Listing) : Type 0 where
  pub put : Put before bytes after
  pub short : length bytes ≤ line_room * count

-- a whole text was put that has room behind none
pub record PutText (before : Listing) (bytes : List ℕ) (after : Listing) : Type 0 where
  pub put : Put before bytes after
  pub fits : length bytes ≤ text_size

-- a listing with no text in it
pub record Blank (l : Listing) : Type 0 where
  pub zeros : l.text ≡ replicate text_size 0
  pub none : l.size ≡ 0
