-- A table of m rows and n columns that gets its former shape back, R rows and C columns. It lies column by column at the start of a
-- buffer: the cell of row r and column c is at r + c * m before and at r + c * R after.
use Rattle.std.specs.Prelude.{◌≡◌, ℕ, ◌+◌, ◌-◌, ◌*◌, ◌<◌, ◌≤◌, min, List, length, slice_index_or}

-- ys holds the C columns of xs's table with R rows each, where those from row m on are the ones that src holds
pub record RowsBack {X : Type 0} (src xs ys : List X) (m R C : ℕ) : Type 0 where
  pub long : length ys ≡ length xs
  pub stay : (r c : ℕ) (d : X) → r < m → r < R → c < C → slice_index_or ys (r + c * R) d ≡ slice_index_or xs (r + c * m) d
  pub lower : (r c : ℕ) (d : X) → r < R - m → c < C → slice_index_or ys (m + r + c * R) d ≡ slice_index_or src (r + c * (R - m)) d
  pub rest : (k : ℕ) (d : X) → C * R ≤ k → slice_index_or ys k d ≡ slice_index_or xs k d

-- ys holds the table of xs in its former shape: src has the cells that xs's table has no place for, first those below the
-- corner that is in both shapes, then those behind it
pub record ShapeBack {X : Type 0} (src xs ys : List X) (m n R C : ℕ) : Type 0 where
  pub long : length ys ≡ length xs
  pub stay : (r c : ℕ) (d : X) → r < m → r < R → c < n → c < C → slice_index_or ys (r + c * R) d ≡ slice_index_or xs (r + c * m) d
  pub lower : (r c : ℕ) (d : X) → r < R - m → c < n → c < C → slice_index_or ys (m + r + c * R) d ≡ slice_index_or src (r + c * (R - m)) d
  pub behind : (r c : ℕ) (d : X) → r < R → c < C - n → slice_index_or ys (r + (n + c) * R) d ≡ slice_index_or src ((R - m) * min C n + (r + c * R)) d
  pub rest : (k : ℕ) (d : X) → C * R ≤ k → slice_index_or ys k d ≡ slice_index_or xs k d
