-- What a layout means: a shape, a span, and a place for each cell of the shape; and the law it keeps.
use Rattle.std.specs.Prelude.{◌≡◌, ℕ, ◌+◌, ◌*◌, ◌<◌, ◌≤◌, List, length, slice_index}

pub record Grid : Type 0 where
  pub rows : ℕ
  pub columns : ℕ
  pub span : ℕ
  pub place : ℕ → ℕ → ℕ

-- two different cells have two different places
abbrev pub Distinct : Grid → Type 0
Distinct grid =
    (r c i j : ℕ) → r < grid.rows → c < grid.columns → i < grid.rows → j < grid.columns
    → grid.place r c ≡ grid.place i j → (r ≡ i) × (c ≡ j)

pub record Lawful (grid : Grid) : Type 0 where
  pub few_rows : grid.rows ≤ 4096
  pub few_columns : grid.columns ≤ 4096
  pub short_span : grid.span ≤ 65536
  -- a cell's place lies below the span
  pub within : (r c : ℕ) → r < grid.rows → c < grid.columns → grid.place r c < grid.span
  pub distinct : Distinct grid

-- column by column, with no gap
abbrev pub dense : (rows columns : ℕ) → Grid
dense rows columns =
    record { rows = rows; columns = columns; span = rows * columns; place = λ r c. r + c * rows }

-- the listed rows of a table, in the list's order
abbrev pub selected_rows : Grid → List ℕ → Grid
selected_rows grid list =
    record { rows = length list; columns = grid.columns; span = grid.span; place = λ k c. grid.place (slice_index list k) c }
