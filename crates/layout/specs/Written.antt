-- What a call that writes through a layout leaves in the buffer.
use Rattle.std.specs.Prelude.{◌≡◌, ℕ, ◌<◌, List, length, ◌≢◌, slice_index_or}
use Rattle.layout.specs.Lawful.{Grid}

-- the cell of row r and column c of the table that the grid has in xs, or d where xs ends before its place
abbrev pub cell_of : {T : Type 0} → Grid → List T → ℕ → ℕ → T → T
cell_of grid xs r c d = slice_index_or xs (grid.place r c) d

-- k is no cell's place
abbrev pub NoCell : Grid → ℕ → Type 0
NoCell grid k = (r c : ℕ) → r < grid.rows → c < grid.columns → k ≢ grid.place r c

-- `was` has become `is`: the cells that `at` names hold `cell`, every other cell and every other place what it held
pub record Written {T : Type 0} (grid : Grid) (was is : List T) (at : ℕ → ℕ → Type 0) (cell : ℕ → ℕ → T → T) : Type 0 where
  pub long : length is ≡ length was
  pub written : (r c : ℕ) (d : T) → r < grid.rows → c < grid.columns → at r c → cell_of grid is r c d ≡ cell r c d
  pub kept : (r c : ℕ) (d : T) → r < grid.rows → c < grid.columns → (at r c → ⊥) → cell_of grid is r c d ≡ cell_of grid was r c d
  pub others : (k : ℕ) (d : T) → NoCell grid k → slice_index_or is k d ≡ slice_index_or was k d
