-- The table of standings ("Standing").
use Rattle.std.specs.Prelude.{ℕ, zero, suc, Bool, true, false, List, [], ◌∷◌, get_or}

-- "0 plain, 1 exempt, 2 exempt as water ballast, 3 deducted"; "standing 4, machinery" (T-06 of document 02)
abbrev pub greatest_standing : ℕ
greatest_standing = 4

-- "Which kind may have which standing is a table of five rows by four columns": U and H take only 0; B and S take 0 or 1; R takes
-- all four; and a fifth column, "standing 4, machinery, for rooms" (T-06)
abbrev pub standings : List (List Bool)
standings =
    (true ∷ false ∷ false ∷ false ∷ false ∷ [])
    ∷ (true ∷ true ∷ false ∷ false ∷ false ∷ [])
    ∷ (true ∷ true ∷ false ∷ false ∷ false ∷ [])
    ∷ (true ∷ false ∷ false ∷ false ∷ false ∷ [])
    ∷ (true ∷ true ∷ true ∷ true ∷ true ∷ [])
    ∷ []

-- the row of a kind, from 1, and the column of a standing, from 0; no kind or standing outside the table
unfoldable pub may_take : ℕ → ℕ → Bool
may_take zero standing = false
may_take (suc kind) standing = get_or (get_or standings kind []) standing false
