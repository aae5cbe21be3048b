-- "For every input, refusals too, each public promise determines the answer, the sheet handed back and each byte of a lent buffer.
-- Prove that no second answer could satisfy it": what that says of one function, about its contract itself. The check keeps of each
-- public function F
--   F.ended, in specs.contracts: what it takes, what it answers, and which parameters it is lent to change (`&mut`);
--   F.Reads.Asked, in proofs: what its `requires` come to, of the values given;
--   F.Reads.Learnt, there too: what its `ensures` come to, of the values given, the answer, and what a parameter lent to change holds
--     at the end.
-- Lifetimes, which say how long what is lent stays lent, are given with the values.
use Rattle.std.specs.Prelude.{◌≡◌}
use contract.Lifetimes.{Lfts}
use denote.Triple.Entry.{Args, Res}
use denote.Triple.Clauses.{Ended, Lasts, AtExit, at_exit}

-- one call that could end in two ways: with either answer, and with either last values of all that it was lent to change
pub record Twice (T : Ended) : Type 0 where
  pub lifetimes : Lfts T.signature.lifetimes
  pub given : Args T.signature lifetimes
  pub answer : Res T.signature lifetimes
  pub other : Res T.signature lifetimes
  pub lasts : Lasts T lifetimes given
  pub others : Lasts T lifetimes given

module _
    (T : Ended)
    (asked : (lives : Lfts T.signature.lifetimes) → Args T.signature lives → Type 0)
    (learnt : (lives : Lfts T.signature.lifetimes) → Args T.signature lives → Res T.signature lives → AtExit T lives → Type 0) where
  -- an end that the promise allows
  abbrev Allowed : (c : Twice T) → Res T.signature c.lifetimes → Lasts T c.lifetimes c.given → Type 0
  Allowed c answer lasts = learnt c.lifetimes c.given answer (at_exit T c.lifetimes c.given lasts)

  -- nothing is asked of what is given; and if both ends are allowed they are one, in what `view` sees of the answer and in every value
  -- left behind
  pub record Determined {View : Lfts T.signature.lifetimes → Type 0}
      (view : (lives : Lfts T.signature.lifetimes) → Res T.signature lives → View lives) (c : Twice T) : Type 0 where
    pub nothing_asked : asked c.lifetimes c.given
    pub one_answer : Allowed c c.answer c.lasts → Allowed c c.other c.others → view c.lifetimes c.answer ≡ view c.lifetimes c.other
    pub one_left : Allowed c c.answer c.lasts → Allowed c c.other c.others → c.lasts ≡ c.others

  -- whatever the function is given: one answer, as far as `view` sees it. (Of a part of a slice it sees the bytes: where they lie is
  -- no part of a promise.)
  abbrev pub OneBy : {View : Lfts T.signature.lifetimes → Type 0} → ((lives : Lfts T.signature.lifetimes) → Res T.signature lives → View lives) → Type 0
  OneBy view = (c : Twice T) → Determined view c

  -- whatever it is given: one answer
  abbrev pub One : Type 0
  One = OneBy (λ lives answer. answer)
