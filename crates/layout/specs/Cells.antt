-- A layout's table in a buffer: a cell read, a column handed out, all of it copied to a dense one.
use Rattle.std.specs.Prelude.{◌≡◌, ℕ, ◌+◌, ◌*◌, ◌<◌, ◌≤◌, List, [], ◌∷◌, length, Some, None, Option, slice_index_or}
use Rattle.layout.specs.declared.refusal.Refusal.{Refusal}
use Rattle.layout.specs.Checks.{Rule, ◌else◌, reaches}
use Rattle.layout.specs.Lawful.{Grid}

-- what copying a table asks, of a source and of a buffer for it of so many cells
abbrev pub clone_rules : Grid → ℕ → ℕ → List Rule
clone_rules grid source cells =
    ((grid.rows * grid.columns ≤ cells) else Refusal.TooManyCells) ∷ reaches grid source ∷ []

-- `is` has the first n cells of column c of the table that the grid has in xs, and is `was` elsewhere
pub record ColumnCloned {T : Type 0} (grid : Grid) (xs was is : List T) (c n : ℕ) : Type 0 where
  pub long : length is ≡ length was
  pub cells : (r : ℕ) (d : T) → r < n → slice_index_or is (c * grid.rows + r) d ≡ slice_index_or xs (grid.place r c) d
  pub before : (k : ℕ) (d : T) → k < c * grid.rows → slice_index_or is k d ≡ slice_index_or was k d
  pub behind : (k : ℕ) (d : T) → c * grid.rows + n ≤ k → slice_index_or is k d ≡ slice_index_or was k d

-- `is` begins with the first n columns of the table that the grid has in xs, and is `was` behind them
pub record Cloned {T : Type 0} (grid : Grid) (xs was is : List T) (n : ℕ) : Type 0 where
  pub long : length is ≡ length was
  pub cells : (r c : ℕ) (d : T) → r < grid.rows → c < n → slice_index_or is (r + c * grid.rows) d ≡ slice_index_or xs (grid.place r c) d
  pub rest : (k : ℕ) (d : T) → n * grid.rows ≤ k → slice_index_or is k d ≡ slice_index_or was k d

-- the cell, if it is in the shape and the span is within the buffer; else nothing
abbrev pub Read : {T : Type 0} (grid : Grid) (buffer : List T) (row column : ℕ) → Option T → Type 0
Read {T} grid buffer row column (Some x) =
    (row < grid.rows) × (column < grid.columns) × (grid.span ≤ length buffer) × ((d : T) → slice_index_or buffer (grid.place row column) d ≡ x)
Read grid buffer row column None = (row < grid.rows) × (column < grid.columns) × (grid.span ≤ length buffer) → ⊥

-- what handing out column c asks, of a buffer of so many cells
abbrev pub column_rules : Grid → ℕ → ℕ → List Rule
column_rules grid c cells = ((c < grid.columns) else Refusal.NoSuchLine) ∷ reaches grid cells ∷ []
