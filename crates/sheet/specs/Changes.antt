-- Changes: what each makes of the standing spaces, and what taking it back makes of them; and the list of open changes.
use Rattle.std.specs.Prelude.{ℕ, suc, ◌-◌, cond, List, [], ◌∷◌, ◌++◌, leb, length, take, drop, get_or, set}
use Rattle.spaces.specs.Space.{empty_space, restanding}
use Rattle.spaces.specs.declared.space.Space.{Space}
use Rattle.sheet.specs.Sheet.{standing, kept}
use Rattle.sheet.specs.declared.changes.Change.{Change}
use Rattle.sheet.specs.declared.changes.Change.TheVariants.{Entered, Withdrawn, Marked}
use Rattle.sheet.specs.declared.changes.OpenChange.{OpenChange}
use Rattle.sheet.specs.declared.sheet.Sheet.{Sheet}

-- a space at the end of the order; the last one taken off
abbrev pub appended : Space → List Space → List Space
appended x xs = xs ++ (x ∷ [])

abbrev pub without_last : List Space → List Space
without_last xs = take (length xs - 1) xs

-- the space at a place taken out; a space put in at a place
abbrev pub removed : ℕ → List Space → List Space
removed p xs = take p xs ++ drop (suc p) xs

abbrev pub inserted : ℕ → Space → List Space → List Space
inserted p x xs = take p xs ++ x ∷ drop p xs

-- the space at a place with another standing
abbrev pub restood : ℕ → ℕ → List Space → List Space
restood p standing xs = set xs p (restanding standing (get_or xs p empty_space))

-- "Changes: enter, withdraw, mark": what a change makes of the standing spaces
abbrev pub apply : Change → List Space → List Space
apply (Entered x) xs = appended x xs
apply (Withdrawn p x) xs = removed p xs
apply (Marked p before after) xs = restood p after xs

-- and what taking it back makes: "Undoing a withdrawal puts the space back at its former place in the order."
abbrev pub apply_back : Change → List Space → List Space
apply_back (Entered x) xs = without_last xs
apply_back (Withdrawn p x) xs = inserted p x xs
apply_back (Marked p before after) xs = restood p before xs

-- the sheet with other standing spaces in its places; more than 200 would not fit, and then it stays as it is, which no call asks
abbrev pub with_standing : List Space → Sheet → Sheet
with_standing xs s =
    record {
      opened = s.opened;
      length = s.length;
      vessel = s.vessel;
      spaces = xs ++ drop (length xs) s.spaces;
      count = length xs;
      changes = s.changes;
      undoable = s.undoable;
      redoable = s.redoable;
    }

unfoldable pub fitted : List Space → Sheet → Sheet
fitted xs s = cond (leb (length xs) 200) (with_standing xs s) s

abbrev pub made : Change → Sheet → Sheet
made c s = fitted (apply c (standing s)) s

abbrev pub taken_back : Change → Sheet → Sheet
taken_back c s = fitted (apply_back c (standing s)) s

-- the sheet with other open changes, and its two counts
abbrev pub with_changes : List OpenChange → ℕ → ℕ → Sheet → Sheet
with_changes changes undoable redoable s =
    record {
      opened = s.opened;
      length = s.length;
      vessel = s.vessel;
      spaces = s.spaces;
      count = s.count;
      changes = changes;
      undoable = undoable;
      redoable = redoable;
    }

-- the latest 64 of some changes: the oldest are pushed out
abbrev pub latest : List OpenChange → List OpenChange
latest cs = drop (length cs - 64) cs

-- "A change makes undoable one more, never above 64, and redoable 0": a change noted behind those that are undoable
unfoldable pub noted : Change → Sheet → Sheet
noted c s =
    let past = latest (take s.undoable s.changes ++ (kept c ∷ [])) in
    with_changes (past ++ drop (length past) s.changes) (length past) 0 s
