-- A sheet that some opening within the limits, and some calls, lead to.
use Rattle.std.specs.Prelude.{◌≡◌, ◌*◌, ◌≤◌, List, length}
use Rattle.model.specs.Sheet.{Table, Change}
use Rattle.model.specs.Journal.{Sheet, Room, Right, Call, done, verdict, after}
use Rattle.model.specs.History.{final}

pub record Within {A : Type 0} (t : Table A) (room : Room) : Type 0 where
  pub right : Right t
  pub rows : t.rows ≤ 4096
  pub columns : t.columns ≤ 4096
  pub cells : t.rows * t.columns ≤ room.for_cells

pub record Reached {A : Type 0} (s : Sheet A) : Type 0 where
  pub table : Table A
  pub room : Room
  pub within : Within table room
  pub calls : List (Call A)
  pub is : final table room calls ≡ s

abbrev pub Reachable : {A : Type 0} → Sheet A → Type 0
Reachable s = ∥ Reached s ∥₁

-- what every reachable sheet keeps to
pub record Bounds {A : Type 0} (s : Sheet A) : Type 0 where
  pub within : Within s.table s.room
  pub entries : length s.entries ≤ s.room.for_entries
  pub runs : length s.runs ≤ s.room.for_runs
  pub saved : length s.saved ≤ s.room.for_saved

-- s is what an accepted change of a former sheet left, and its entry is the newest
pub record Newest {A : Type 0} (s : Sheet A) : Type 0 where
  pub former : Sheet A
  pub bounds : Bounds former
  pub last : Change A
  pub accepted : verdict former last ≡ done
  pub is : s ≡ after former last
