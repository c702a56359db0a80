-- A table of cells that lies column by column at the start of a buffer: the cell of row r and column c is at r + c * rows.
use Rattle.std.specs.Prelude.{◌≡◌, ℕ, ◌+◌, ◌-◌, ◌*◌, ◌<◌, ◌≤◌, List, length, slice_index_or}
use Rattle.moves.specs.declared.vec_storage.Block.{Block}

-- ys holds the table of xs without the block's rows
pub record Compressed {X : Type 0} (xs ys : List X) (b : Block) : Type 0 where
  pub long : length ys ≡ length xs
  pub upper : (r c : ℕ) (d : X) → r < b.first → c < b.columns → slice_index_or ys (r + c * (b.rows - b.count)) d ≡ slice_index_or xs (r + c * b.rows) d
  pub lower : (r c : ℕ) (d : X) → b.first ≤ r → r < b.rows - b.count → c < b.columns → slice_index_or ys (r + c * (b.rows - b.count)) d ≡ slice_index_or xs (r + b.count + c * b.rows) d
  pub rest : (k : ℕ) (d : X) → b.columns * (b.rows - b.count) ≤ k → slice_index_or ys k d ≡ slice_index_or xs k d

-- ys is xs with the block's columns of so many rows, the first of them at b.first, moved to where each lies after b.count
-- places more; those places hold what they held
pub record Opened {X : Type 0} (xs ys : List X) (b : Block) : Type 0 where
  pub long : length ys ≡ length xs
  pub moved : (k c : ℕ) (d : X) → k < b.rows → c < b.columns → slice_index_or ys (b.first + b.count + k + c * (b.rows + b.count)) d ≡ slice_index_or xs (b.first + k + c * b.rows) d
  pub gap : (r c : ℕ) (d : X) → r < b.count → c < b.columns → slice_index_or ys (b.first + r + c * (b.rows + b.count)) d ≡ slice_index_or xs (b.first + r + c * (b.rows + b.count)) d
  pub below : (k : ℕ) (d : X) → k < b.first + b.count → slice_index_or ys k d ≡ slice_index_or xs k d
  pub above : (k : ℕ) (d : X) → b.first + b.columns * (b.rows + b.count) ≤ k → slice_index_or ys k d ≡ slice_index_or xs k d

-- ys is xs and behind it the block's rows of src's table, column by column, rows rising
pub record Saved {X : Type 0} (src xs ys : List X) (b : Block) : Type 0 where
  pub long : length ys ≡ length xs + b.columns * b.count
  pub saved : (r c : ℕ) (d : X) → r < b.count → c < b.columns → slice_index_or ys (length xs + (r + c * b.count)) d ≡ slice_index_or src (b.first + r + c * b.rows) d
  pub below : (k : ℕ) (d : X) → k < length xs → slice_index_or ys k d ≡ slice_index_or xs k d

-- ys is xs, but that the block's rows of its table hold what `cell` says, by row and column of the block
pub record RowsWritten {X : Type 0} (xs ys : List X) (b : Block) (cell : ℕ → ℕ → X → X) : Type 0 where
  pub long : length ys ≡ length xs
  pub put : (r c : ℕ) (d : X) → r < b.count → c < b.columns → slice_index_or ys (b.first + r + c * b.rows) d ≡ cell r c d
  pub upper : (r c : ℕ) (d : X) → r < b.first → slice_index_or ys (r + c * b.rows) d ≡ slice_index_or xs (r + c * b.rows) d
  pub lower : (r c : ℕ) (d : X) → b.first + b.count ≤ r → r < b.rows → slice_index_or ys (r + c * b.rows) d ≡ slice_index_or xs (r + c * b.rows) d
  pub rest : (k : ℕ) (d : X) → b.columns * b.rows ≤ k → slice_index_or ys k d ≡ slice_index_or xs k d

-- the rows are those that src holds, column by column
abbrev pub Put : {X : Type 0} (src xs ys : List X) → Block → Type 0
Put src xs ys b = RowsWritten xs ys b (λ r c d. slice_index_or src (r + c * b.count) d)

-- the rows hold v
abbrev pub RowsFilled : {X : Type 0} (xs ys : List X) → Block → X → Type 0
RowsFilled xs ys b v = RowsWritten xs ys b (λ r c d. v)

-- ys holds the table of xs with the block's rows more, and in those what `cell` says, by row and column of the block
pub record Joined {X : Type 0} (xs ys : List X) (b : Block) (cell : ℕ → ℕ → X → X) : Type 0 where
  pub long : length ys ≡ length xs
  pub upper : (r c : ℕ) (d : X) → r < b.first → c < b.columns → slice_index_or ys (r + c * (b.rows + b.count)) d ≡ slice_index_or xs (r + c * b.rows) d
  pub put : (r c : ℕ) (d : X) → r < b.count → c < b.columns → slice_index_or ys (b.first + r + c * (b.rows + b.count)) d ≡ cell r c d
  pub lower : (r c : ℕ) (d : X) → b.first ≤ r → r < b.rows → c < b.columns → slice_index_or ys (r + b.count + c * (b.rows + b.count)) d ≡ slice_index_or xs (r + c * b.rows) d
  pub rest : (k : ℕ) (d : X) → b.columns * (b.rows + b.count) ≤ k → slice_index_or ys k d ≡ slice_index_or xs k d

-- the rows are what stood at their places
abbrev pub Extended : {X : Type 0} (xs ys : List X) → Block → Type 0
Extended xs ys b = Joined xs ys b (λ r c d. slice_index_or xs (b.first + r + c * (b.rows + b.count)) d)

-- the rows are those that src holds, column by column
abbrev pub Restored : {X : Type 0} (src xs ys : List X) → Block → Type 0
Restored src xs ys b = Joined xs ys b (λ r c d. slice_index_or src (r + c * b.count) d)

-- the rows hold v
abbrev pub Inserted : {X : Type 0} (xs ys : List X) → Block → X → Type 0
Inserted xs ys b v = Joined xs ys b (λ r c d. v)
