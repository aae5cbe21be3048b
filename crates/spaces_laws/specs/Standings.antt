-- The table of standings ("Standing"), a place at a time.
use Rattle.std.specs.Prelude.{ℕ}

-- "0 plain, 1 exempt, 2 exempt as water ballast, 3 deducted. U and H take only 0; B and S take 0 or 1; R takes all four", and "standing 4,
-- machinery, for rooms" (T-06 of document 02): the kind with this code (1 U, 2 B, 3 S, 4 H, 5 R) may have this standing. So it is at eleven
-- of the twenty-five places, and at no other: `may_take` allows these, and nothing else (proofs/Standings).
pub data MayTake : ℕ → ℕ → Type 0 where
  plain_U : MayTake 1 0
  plain_B : MayTake 2 0
  plain_S : MayTake 3 0
  plain_H : MayTake 4 0
  plain_R : MayTake 5 0
  exempt_B : MayTake 2 1
  exempt_S : MayTake 3 1
  exempt_R : MayTake 5 1
  ballast_R : MayTake 5 2
  deducted_R : MayTake 5 3
  machinery_R : MayTake 5 4
