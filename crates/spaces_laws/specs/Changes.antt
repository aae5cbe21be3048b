-- A withdrawal and a mark by id, as the paper speaks of them ("Changes: enter, withdraw, mark"). proofs/Places ties them to the place in
-- the order.
use Rattle.std.specs.Prelude.{ℕ, cond, List, [], ◌∷◌, map, eqb}
use Rattle.spaces.specs.Space.{restanding}
use Rattle.spaces.specs.declared.space.Space.{Space}

-- "withdraw": the spaces without the one with an id, the others in their order
abbrev pub without : ℕ → List Space → List Space
without id [] = []
without id (x ∷ xs) = cond (eqb x.id id) (without id xs) (x ∷ without id xs)

-- "mark (give a new standing, even the same one)": a space has the new standing where it has the id, and else its own
abbrev pub marking : ℕ → ℕ → Space → Space
marking id standing x = restanding (cond (eqb x.id id) standing x.standing) x

abbrev pub marked : ℕ → ℕ → List Space → List Space
marked id standing xs = map (marking id standing) xs
