-- The questions that every change puts.
use Rattle.std.specs.Prelude.{ℕ, ◌*◌, ◌≤◌, Bool, List, length}
use Rattle.layout.specs.declared.side.Side.{Side}
use Rattle.moves.specs.Blocks.{columns_with, rows_with}
use Rattle.moves.specs.Stores.{HasRoom}
use Rattle.journal.specs.declared.parts.Parts.{Parts}
use Rattle.journal.specs.View.{view}
use Rattle.model.specs.Journal.{rooms}

-- there is room for all of it
pub record Fits {A : Type 0} (p : Parts A) (m n k l : ℕ) : Type 0 where
  pub rows : m ≤ 4096
  pub columns : n ≤ 4096
  pub cells : m * n ≤ length p.table.cells.now
  pub entries : HasRoom p.entries 1
  pub runs : HasRoom p.runs k
  pub saved : HasRoom p.saved l

-- the same, of a change to k lines of the side
abbrev pub FitsWith : {A : Type 0} → Parts A → Side → (k runs cells : ℕ) → Type 0
FitsWith p side k runs cells = Fits p (rows_with side k p.table.rows) (columns_with side k p.table.columns) runs cells

abbrev pub rooms_with : {A : Type 0} → Parts A → Side → (k runs cells : ℕ) → List (ℕ × Bool)
rooms_with p side k runs cells = rooms (view p) (rows_with side k p.table.rows) (columns_with side k p.table.columns) runs cells
