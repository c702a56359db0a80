-- A table of R rows and C columns that gets another shape, m rows and n columns. It lies column by column at the start of a buffer:
-- the cell of row r and column c is at r + c * R before and at r + c * m after.
use Rattle.std.specs.Prelude.{◌≡◌, ℕ, ◌+◌, ◌-◌, ◌*◌, ◌<◌, ◌≤◌, List, length, slice_index_or}

-- ys is xs and behind it the cells of src's table outside its corner of a rows and b columns: those below the corner,
-- then those behind it
pub record OutsideSaved {X : Type 0} (src xs ys : List X) (R C a b : ℕ) : Type 0 where
  pub long : length ys ≡ length xs + (R * C - a * b)
  pub first : (k : ℕ) (d : X) → k < length xs → slice_index_or ys k d ≡ slice_index_or xs k d
  pub lower : (r c : ℕ) (d : X) → r < R - a → c < b → slice_index_or ys (length xs + (r + c * (R - a))) d ≡ slice_index_or src (a + r + c * R) d
  pub behind : (k : ℕ) (d : X) → k < (C - b) * R → slice_index_or ys (length xs + (R - a) * b + k) d ≡ slice_index_or src (b * R + k) d

-- ys holds the C columns of xs's table with m rows each, where v stands in those that are new
pub record RowsResized {X : Type 0} (xs ys : List X) (R C m : ℕ) (v : X) : Type 0 where
  pub long : length ys ≡ length xs
  pub stay : (r c : ℕ) (d : X) → r < R → r < m → c < C → slice_index_or ys (r + c * m) d ≡ slice_index_or xs (r + c * R) d
  pub come : (r c : ℕ) (d : X) → R ≤ r → r < m → c < C → slice_index_or ys (r + c * m) d ≡ v
  pub rest : (k : ℕ) (d : X) → C * m ≤ k → slice_index_or ys k d ≡ slice_index_or xs k d

-- ys holds the table of xs in the new shape, where v stands in the cells that are new
pub record Resized {X : Type 0} (xs ys : List X) (R C m n : ℕ) (v : X) : Type 0 where
  pub long : length ys ≡ length xs
  pub stay : (r c : ℕ) (d : X) → r < R → r < m → c < C → c < n → slice_index_or ys (r + c * m) d ≡ slice_index_or xs (r + c * R) d
  pub lower : (r c : ℕ) (d : X) → R ≤ r → r < m → c < n → slice_index_or ys (r + c * m) d ≡ v
  pub behind : (r c : ℕ) (d : X) → r < m → C ≤ c → c < n → slice_index_or ys (r + c * m) d ≡ v
  pub rest : (k : ℕ) (d : X) → n * m ≤ k → slice_index_or ys k d ≡ slice_index_or xs k d
