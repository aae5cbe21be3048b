-- What the functions inside the crate answer one another. No promise of a public function cites anything here.
use Rattle.std.specs.Prelude.{ℕ, ◌+◌, ◌<◌, ◌≡◌, ◌&&◌, List, eqb, length, get_or}
use Rattle.spaces.specs.Space.{empty_space}
use Rattle.spaces.specs.Row.{place_of}
use Rattle.spaces.specs.Around.{enclosing_place}
use Rattle.spaces.specs.declared.space.Space.{Space}
use Rattle.spaces.specs.declared.enclosure.Above.{Above}

-- a walk that goes past a space of a standing first
abbrev pub past_of : ℕ → Above → Above
past_of standing w = record { levels = w.levels + 1; plain = eqb standing 0 && w.plain }

-- an index of ids: at each id that it reaches the place of that id
abbrev pub Indexed : List Space → List ℕ → Type 0
Indexed xs index = (id : ℕ) → id < length index → get_or index id 0 ≡ place_of id xs

-- the places of the enclosing spaces: at each of 200 places that of the space there, and as many as stand where none does
abbrev pub Homed : List Space → List ℕ → Type 0
Homed xs homes = (length homes ≡ 200) × ((at : ℕ) → at < 200 → get_or homes at 0 ≡ enclosing_place xs (get_or xs at empty_space))
