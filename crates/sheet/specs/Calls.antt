-- What each call on a sheet answers.
use Rattle.std.specs.Prelude.{ℕ, ◌+◌, ◌-◌, Bool, true, cond, not, ◌&&◌, ◌||◌, List, [], ◌∷◌, ◌++◌, eqb, ltb, get_or}
use Rattle.measure.specs.Ranges.{includes, tonnage_lengths}
use Rattle.measure.specs.Refusals.{first_of}
use Rattle.measure.specs.Kinds.{kind_of}
use Rattle.measure.specs.Offsets.{m_of, measured}
use Rattle.measure.specs.Roundings.{passed_on, no_roundings}
use Rattle.measure.specs.Ends.{ends_of}
use Rattle.measure.specs.declared.units.Hundredths.{Hundredths}
use Rattle.measure.specs.declared.offsets.Measured.{Measured}
use Rattle.spaces.specs.Row.{find, place_of, space_with, sum_of}
use Rattle.spaces.specs.Enclosure.{visited}
use Rattle.standard.specs.Standings.{greatest_standing}
use Rattle.standard.specs.Rules.{entry_tests, withdraw_tests, mark_tests}
use Rattle.standard.specs.Gross.{gross, net, needs_mark, deductions_pass}
use Rattle.spaces.specs.declared.space.Space.{Space}
use Rattle.spaces.specs.declared.sums.Amount.TheVariants.{Lengths}
use Rattle.sheet.specs.Sheet.{standing, usable, change_of, no_change, blank, not_open}
use Rattle.sheet.specs.Changes.{made, taken_back, with_changes, noted}
use Rattle.sheet.specs.Ends.{ends_fit, pointed_with_area}
use Rattle.sheet.specs.declared.changes.Change.{Change}
use Rattle.sheet.specs.declared.changes.Change.TheVariants.{Entered, Withdrawn, Marked}
use Rattle.sheet.specs.declared.sheet.Sheet.{Sheet}
use Rattle.sheet.specs.declared.calls.Entry.{Entry}
use Rattle.sheet.specs.declared.calls.Changed.{Changed}
use Rattle.sheet.specs.declared.calls.Entering.{Entering}
use Rattle.sheet.specs.declared.calls.Counted.{Counted}
use Rattle.sheet.specs.declared.calls.Reported.{Reported}
use Rattle.sheet.specs.declared.calls.Figures.{Figures}

-- "A sheet is opened with the tonnage length"; "the vessel number is given at opening" (T-05 of document 02). "A refused open .. hands
-- back a sheet not open."
unfoldable pub opened_with : Hundredths → ℕ → Changed
opened_with length vessel =
    cond (includes tonnage_lengths length.0)
    (record { number = 0; sheet = blank true length vessel })
    (record { number = 2; sheet = not_open })

-- "A refused change, undo or redo hands back the sheet as it came."
abbrev pub answered : ℕ → Sheet → Sheet → Changed
answered number s next = record { number = number; sheet = cond (eqb number 0) next s }

-- a change made, and noted as the latest
abbrev pub changed : Change → Sheet → Sheet
changed c s = noted c (made c s)

-- ---- enter

-- the record of an entry with its m and its tonnage: "Only a room has an enclosing space", of any other kind 0 is recorded
unfoldable pub entry_of : Entry → (m tonnage : ℕ) → Space
entry_of e m tonnage =
    record {
      id = e.id;
      within = cond (eqb e.kind 5) e.within 0;
      kind = e.kind;
      standing = e.standing;
      m = m;
      deck = e.deck;
      tonnage = tonnage;
      length = e.length;
    }

-- the space of an entry, measured from its offsets, where L is the tonnage length
abbrev pub space_of : Hundredths → Entry → List ℕ → List ℕ → Space
space_of L e heights breadths =
    entry_of e (m_of (kind_of e.kind) heights) (measured e.kind L e.length heights breadths).tonnage

abbrev pub measured_for : Sheet → Entry → List ℕ → List ℕ → Measured
measured_for s e heights breadths = measured e.kind s.length e.length heights breadths

-- 2 by a standing over 4, or a deck: "a deck above 99 on entry" (T-05)
abbrev pub out_of_range : (standing deck : ℕ) → Bool
out_of_range standing deck = ltb greatest_standing standing || ltb 99 deck

-- 2 by what an entry says beside its measures: its standing, its deck, and of a U its ends
abbrev pub misstated : Entry → Bool
misstated e = out_of_range e.standing e.deck || not (ends_fit e)

abbrev pub enter_number : Sheet → Entry → List ℕ → List ℕ → ℕ
enter_number s e heights breadths =
    let m = measured_for s e heights breadths in
    first_of
    -- 1: sheet not open; 2: standing, deck or an end outside its range; 2 or 3, as its offsets are judged; then 4 to 10; and 19, "after all the
    -- others"
    ((not (usable s), 1)
    ∷ (misstated e, 2)
    ∷ (not (eqb m.number 0), m.number)
    ∷ entry_tests s.length (standing s) (space_of s.length e heights breadths)
    ++ ((pointed_with_area e (ends_of heights breadths), 19) ∷ []))

unfoldable pub entered : Sheet → Entry → List ℕ → List ℕ → Changed
entered s e heights breadths =
    answered (enter_number s e heights breadths) s (changed (Entered (space_of s.length e heights breadths)) s)

-- "the number of enclosing spaces visited" (T-07 of document 02) where the space x is to be entered: none on a sheet not open
abbrev pub visited_for : Sheet → Space → ℕ
visited_for s x = cond (usable s) (visited (standing s) x) 0

-- with the change what it "passes on" (T-04 of document 02), the roundings of an accepted entry, none of a refused one; and the enclosing
-- spaces visited, whatever the number
unfoldable pub entering : Sheet → Entry → List ℕ → List ℕ → Entering
entering s e heights breadths =
    let change = entered s e heights breadths in
    record {
      number = change.number;
      roundings = cond (eqb change.number 0) (passed_on (kind_of e.kind) s.length e.length heights) no_roundings;
      visited = visited_for s (space_of s.length e heights breadths);
      sheet = change.sheet;
    }

-- a refused entry hands back the sheet as it came
abbrev pub entry_refused : (number visited : ℕ) → Sheet → Entering
entry_refused number visited s = record { number = number; roundings = no_roundings; visited = visited; sheet = s }

-- ---- withdraw and mark

abbrev pub withdrawal : Sheet → ℕ → Change
withdrawal s id = Withdrawn (place_of id (standing s)) (space_with (find id (standing s)))

unfoldable pub withdrawn : Sheet → ℕ → Changed
withdrawn s id =
    answered (first_of ((not (usable s), 1) ∷ withdraw_tests (standing s) id)) s (changed (withdrawal s id) s)

abbrev pub marking : Sheet → ℕ → ℕ → Change
marking s id standing' = Marked (place_of id (standing s)) (space_with (find id (standing s))).standing standing'

unfoldable pub marked : Sheet → ℕ → ℕ → Changed
marked s id standing' =
    answered
    (first_of ((not (usable s), 1) ∷ (ltb greatest_standing standing', 2) ∷ mark_tests (standing s) id standing'))
    s
    (changed (marking s id standing') s)

-- ---- undo and redo

-- the change at a place of the open ones
abbrev pub change_at : Sheet → ℕ → Change
change_at s i = change_of (get_or s.changes i no_change)

abbrev pub recounted : ℕ → ℕ → Sheet → Sheet
recounted undoable redoable s = with_changes s.changes undoable redoable s

-- "Undo takes back the latest accepted change not undone, takes one from undoable and adds it to redoable"
unfoldable pub undone : Sheet → Changed
undone s =
    answered
    (first_of ((not (usable s), 1) ∷ (eqb s.undoable 0, 12) ∷ []))
    s
    (recounted (s.undoable - 1) (s.redoable + 1) (taken_back (change_at s (s.undoable - 1)) s))

-- "redo makes again the change last undone, which is then undone no longer, and counts the opposite way"
unfoldable pub redone : Sheet → Changed
redone s =
    answered
    (first_of ((not (usable s), 1) ∷ (eqb s.redoable 0, 12) ∷ []))
    s
    (recounted (s.undoable + 1) (s.redoable - 1) (made (change_at s s.undoable) s))

-- "Both counts can be asked for and are 0 on a sheet not open."
unfoldable pub counted : Sheet → Counted
counted s =
    record { undoable = cond (usable s) s.undoable 0; redoable = cond (usable s) s.redoable 0; sheet = s }

-- ---- report

-- 13: "U lengths don't add up to the tonnage length"
abbrev pub lengths_short : Sheet → Bool
lengths_short s = not (eqb (sum_of Lengths (standing s)) s.length.0)

-- 14: "ballast over 30%, not justified"
abbrev pub ballast_unjustified : Sheet → ℕ → Bool
ballast_unjustified s justified = needs_mark (standing s) && eqb justified 0

-- the tests that a report and a write begin with; 2 where what each is given is outside its range
abbrev pub tests_to14 : Sheet → (justified : ℕ) → (outside : Bool) → List (Bool × ℕ)
tests_to14 s justified outside =
    (not (usable s), 1) ∷ (outside, 2) ∷ (lengths_short s, 13) ∷ (ballast_unjustified s justified, 14) ∷ []

-- "21 from report, write and read when deductions pass gross" (T-06 of document 02): after 14 in a report, after 15 in a write
abbrev pub deductions_test : Sheet → List (Bool × ℕ)
deductions_test s = (deductions_pass (standing s), 21) ∷ []

abbrev pub report_number : Sheet → ℕ → ℕ
report_number s justified = first_of (tests_to14 s justified (ltb 1 justified) ++ deductions_test s)

-- "A refused report gives 0 and 0", and no report changes the sheet
abbrev pub reported_with : ℕ → Sheet → Reported
reported_with n s =
    record { number = n; gross = cond (eqb n 0) (gross (standing s)) 0; net = cond (eqb n 0) (net (standing s)) 0; sheet = s }

unfoldable pub reported : Sheet → ℕ → Reported
reported s justified = reported_with (report_number s justified) s

-- what it tells, without the sheet
abbrev pub figures_of : Sheet → ℕ → Figures
figures_of s justified =
    record { number = (reported s justified).number; gross = (reported s justified).gross; net = (reported s justified).net }
