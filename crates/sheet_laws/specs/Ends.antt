-- An entry with one of its ends said otherwise (T-02), and what that changes.
use Rattle.std.specs.Prelude.{ℕ, ◌≡◌, List, ◌↔◌}
use Rattle.measure.specs.Ends.{ends_of}
use Rattle.measure.specs.declared.ends.EndAreas.{EndAreas}
use Rattle.sheet.specs.Calls.{entered}
use Rattle.sheet.specs.declared.sheet.Sheet.{Sheet}
use Rattle.sheet.specs.declared.calls.Entry.{Entry}

pub data Side : Type 0 where
  bow : Side
  stern : Side

-- this end there, and all else as it was
abbrev pub saying : Side → ℕ → Entry → Entry
saying bow end e =
    record { id = e.id; within = e.within; kind = e.kind; standing = e.standing; fore_end = end; aft_end = e.aft_end; deck = e.deck; length = e.length }
saying stern end e =
    record { id = e.id; within = e.within; kind = e.kind; standing = e.standing; fore_end = e.fore_end; aft_end = end; deck = e.deck; length = e.length }

abbrev pub area_at : Side → EndAreas → ℕ
area_at bow a = a.fore
area_at stern a = a.aft

-- of a U that is accepted with this end upright: "accepted as inner, and as pointed exactly where the end's area is 0", with the same answer
pub record AcceptedAs (side : Side) (s : Sheet) (e : Entry) (hs bs : List ℕ) : Type 0 where
  pub as_inner : entered s (saying side 1 e) hs bs ≡ entered s (saying side 2 e) hs bs
  pub as_pointed : ((entered s (saying side 3 e) hs bs).number ≡ 0) ↔ (area_at side (ends_of hs bs) ≡ 0)
  pub same_answer : area_at side (ends_of hs bs) ≡ 0 → entered s (saying side 3 e) hs bs ≡ entered s (saying side 2 e) hs bs
