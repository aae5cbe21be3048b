-- Enclosure ("Enclosure"): the chain upward, levels, and what stands above and below.
use Rattle.std.specs.Prelude.{ℕ, zero, suc, ◌+◌, Bool, true, false, cond, ◌&&◌, ◌||◌, List, [], ◌∷◌, eqb, length, Option, None, Some}
use Rattle.spaces.specs.Space.{is_room, is_plain}
use Rattle.spaces.specs.Row.{find}
use Rattle.spaces.specs.declared.space.Space.{Space}
use Rattle.spaces.specs.declared.enclosure.Above.{Above}

-- "Only a room has an enclosing space": the standing space with its enclosing id
abbrev pub enclosing : List Space → Space → Option Space
enclosing xs x = cond (is_room x) (find x.within xs) None

-- a space, where there is one, and those further on from it
abbrev pub onward : Option Space → (Space → List Space) → List Space
onward None further = []
onward (Some z) further = z ∷ further z

-- "The chain upward is walked one enclosing space at a time": the spaces above x, its enclosing space first, with `left` levels left
abbrev pub upward : ℕ → List Space → Space → List Space
upward zero xs x = []
upward (suc left) xs x = onward (enclosing xs x) (λ z. upward left xs z)

-- "at most 8" levels: the walk has 8 levels left
unfoldable pub above : List Space → Space → List Space
above xs x = upward 8 xs x

-- "A U, B, S or H is at level 1, a room one below its enclosing space"
abbrev pub level : List Space → Space → ℕ
level xs x = length (above xs x) + 1

-- "the number of enclosing spaces visited: one for the named space and one for each step above it to level 1" (T-07 of document 02)
abbrev pub visited : List Space → Space → ℕ
visited xs x = length (above xs x)

abbrev pub all_plain : List Space → Bool
all_plain [] = true
all_plain (z ∷ zs) = is_plain z && all_plain zs

-- what a walk that meets these spaces tells: how many there are, and whether all are plain
abbrev pub walked : List Space → Above
walked zs = record { levels = length zs; plain = all_plain zs }

-- an id is that of one of these
abbrev pub among : ℕ → List Space → Bool
among id [] = false
among id (z ∷ zs) = eqb z.id id || among id zs

-- of these spaces, those that the space with an id is above
abbrev pub below_of : ℕ → List Space → List Space → List Space
below_of id xs [] = []
below_of id xs (y ∷ ys) = cond (among id (above xs y)) (y ∷ below_of id xs ys) (below_of id xs ys)

abbrev pub below : ℕ → List Space → List Space
below id xs = below_of id xs xs
