-- What a run of calls leaves: the calls that are accepted, the changes among them that aren't undone, the spaces that these leave if
-- made in order, and the paper's counts. All of it follows from the calls and the numbers that they are answered with.
use Rattle.std.specs.Prelude.{ℕ, ◌+◌, ◌-◌, min, cond, List, [], ◌∷◌, ◌++◌, eqb}
use Rattle.measure.specs.declared.units.Hundredths.{Hundredths}
use Rattle.spaces.specs.declared.space.Space.{Space}
use Rattle.spaces_laws.specs.Changes.{without, marked as marked_by_id}
use Rattle.sheet.specs.Calls.{space_of, entered, withdrawn, marked, undone, redone, counted, reported}
use Rattle.sheet.specs.Tanks.{tank_in, tank_entered}
use Rattle.sheet.specs.declared.sheet.Sheet.{Sheet}
use Rattle.sheet.specs.declared.calls.Entry.{Entry}
use Rattle.sheet.specs.declared.calls.Changed.{Changed}
use Rattle.sheet.specs.declared.tanks.Tank.{Tank}

-- ---- calls

-- with what is handed in: an entry, its heights and breadths; a tank, its depths and breadths; an id; an id and a standing; a justified
-- mark
pub data Call : Type 0 where
  enter : Entry → List ℕ → List ℕ → Call
  enter_tank : Tank → List ℕ → List ℕ → Call
  withdraw : ℕ → Call
  mark : ℕ → ℕ → Call
  undo : Call
  redo : Call
  counts : Call
  report : ℕ → Call

-- "every other call on a sheet takes it and hands back the sheet after it", and answers a number
unfoldable pub answer : Call → Sheet → Changed
answer (enter e heights breadths) s = entered s e heights breadths
answer (enter_tank k depths breadths) s = tank_entered s k depths breadths
answer (withdraw id) s = withdrawn s id
answer (mark id standing) s = marked s id standing
answer undo s = undone s
answer redo s = redone s
answer counts s = record { number = 0; sheet = (counted s).sheet }
answer (report justified) s = record { number = (reported s justified).number; sheet = (reported s justified).sheet }

-- the sheet after a run of calls
abbrev pub after : List Call → Sheet → Sheet
after [] s = s
after (c ∷ calls) s = after calls (answer c s).sheet

-- the calls of a run that are accepted, in order: "A report, a write and a refused call change nothing."
abbrev pub accepted : List Call → Sheet → List Call
accepted [] s = []
accepted (c ∷ calls) s =
    cond (eqb (answer c s).number 0) (c ∷ accepted calls (answer c s).sheet) (accepted calls (answer c s).sheet)

-- ---- changes by id

-- "Changes: enter, withdraw, mark (give a new standing, even the same one)."
-- A tank's tonnage hangs on its U, so it is told as it was handed in, with the tonnage length.
pub data ChangeById : Type 0 where
  space_entered : Space → ChangeById
  tank_given : Hundredths → Tank → List ℕ → List ℕ → ChangeById
  id_withdrawn : ℕ → ChangeById
  id_marked : ℕ → ℕ → ChangeById

-- what a change makes of the spaces: a new one comes last in order of entry
abbrev pub outcome : ChangeById → List Space → List Space
outcome (space_entered x) xs = xs ++ (x ∷ [])
-- a tank too, measured in the U that it names as that stands then
outcome (tank_given L k depths breadths) xs = xs ++ (tank_in L xs k depths breadths ∷ [])
outcome (id_withdrawn id) xs = without id xs
outcome (id_marked id standing) xs = marked_by_id id standing xs

-- changes made in order. The latest is named first, and is made on what the earlier ones leave
abbrev pub replay : List ChangeById → List Space → List Space
replay [] xs = xs
replay (c ∷ earlier) xs = outcome c (replay earlier xs)

-- ---- the log

-- the accepted changes not undone, however many, the latest first; and those undone that redo makes again, the one last undone first
pub record Log : Type 0 where
  pub not_undone : List ChangeById
  pub undone : List ChangeById

abbrev pub no_log : Log
no_log = record { not_undone = []; undone = [] }

-- a new change: those undone before it stay undone for good
abbrev pub log_change : ChangeById → Log → Log
log_change c log = record { not_undone = c ∷ log.not_undone; undone = [] }

-- "Undo takes back the latest accepted change not undone"
abbrev pub log_undo : List ChangeById → List ChangeById → Log
log_undo [] undone = record { not_undone = []; undone = undone }
log_undo (c ∷ earlier) undone = record { not_undone = earlier; undone = c ∷ undone }

-- "redo makes again the change last undone, which is then undone no longer"
abbrev pub log_redo : List ChangeById → List ChangeById → Log
log_redo not_undone [] = record { not_undone = not_undone; undone = [] }
log_redo not_undone (c ∷ others) = record { not_undone = c ∷ not_undone; undone = others }

-- what an accepted call makes of the log
abbrev pub log_after : Hundredths → Call → Log → Log
log_after L (enter e heights breadths) log = log_change (space_entered (space_of L e heights breadths)) log
log_after L (enter_tank k depths breadths) log = log_change (tank_given L k depths breadths) log
log_after L (withdraw id) log = log_change (id_withdrawn id) log
log_after L (mark id standing) log = log_change (id_marked id standing) log
log_after L undo log = log_undo log.not_undone log.undone
log_after L redo log = log_redo log.not_undone log.undone
log_after L counts log = log
log_after L (report justified) log = log

abbrev pub log_after_all : Hundredths → List Call → Log → Log
log_after_all L [] log = log
log_after_all L (c ∷ calls) log = log_after_all L calls (log_after L c log)

-- the log of a run from a sheet
abbrev pub log_of : Hundredths → List Call → Sheet → Log
log_of L calls s = log_after_all L (accepted calls s) no_log

-- ---- the counts

pub record OpenChanges : Type 0 where
  pub undoable : ℕ
  pub redoable : ℕ

-- "undoable starts at 0 and redoable at 0"
abbrev pub none_open : OpenChanges
none_open = record { undoable = 0; redoable = 0 }

-- "A change makes undoable one more, never above 64, and redoable 0."
abbrev pub one_more : OpenChanges → OpenChanges
one_more k = record { undoable = min 64 (k.undoable + 1); redoable = 0 }

-- what an accepted call makes of the counts
abbrev pub counts_after : Call → OpenChanges → OpenChanges
counts_after (enter e heights breadths) k = one_more k
counts_after (enter_tank t depths breadths) k = one_more k
counts_after (withdraw id) k = one_more k
counts_after (mark id standing) k = one_more k
-- "Undo .. takes one from undoable and adds it to redoable; redo .. counts the opposite way"
counts_after undo k = record { undoable = k.undoable - 1; redoable = k.redoable + 1 }
counts_after redo k = record { undoable = k.undoable + 1; redoable = k.redoable - 1 }
counts_after counts k = k
counts_after (report justified) k = k

abbrev pub counts_after_all : List Call → OpenChanges → OpenChanges
counts_after_all [] k = k
counts_after_all (c ∷ calls) k = counts_after_all calls (counts_after c k)

-- the counts after a run from a sheet
abbrev pub counts_of : List Call → Sheet → OpenChanges
counts_of calls s = counts_after_all (accepted calls s) none_open
