-- The lines of a side, and some of them as rows of a table.
use Rattle.std.specs.Prelude.{◌≡◌, ℕ, ◌+◌, ◌-◌, ◌*◌, ◌≤◌, min}
use Rattle.layout.specs.declared.side.Side.{Side}
use Rattle.layout.specs.declared.side.Side.TheVariants.{Rows, Columns}
use Rattle.moves.specs.declared.vec_storage.Block.{Block}
use Rattle.moves.specs.declared.vec_storage.Table.{Table}

-- how many lines the side has
abbrev pub lines_in : Side → (rows columns : ℕ) → ℕ
lines_in Rows rows columns = rows
lines_in Columns rows columns = columns

-- the rows and the columns of a table that is given k lines of the side
abbrev pub rows_with : Side → (k rows : ℕ) → ℕ
rows_with Rows k rows = k
rows_with Columns k rows = rows

abbrev pub columns_with : Side → (k columns : ℕ) → ℕ
columns_with Rows k columns = columns
columns_with Columns k columns = k

-- how many cells k lines of the side have
abbrev pub cells_in : Side → (k rows columns : ℕ) → ℕ
cells_in side k rows columns = rows_with side k rows * columns_with side k columns

-- n rows at i
abbrev pub rows_block : (rows columns i n : ℕ) → Block
rows_block rows columns i n = record { rows = rows; columns = columns; first = i; count = n }

-- n lines at i, as rows: a column is `rows` rows of the table seen as one column
abbrev pub block_of : Side → (rows columns i n : ℕ) → Block
block_of Rows rows columns i n = rows_block rows columns i n
block_of Columns rows columns i n = rows_block (rows * columns) 1 (i * rows) (n * rows)

-- the same of a table: how many lines of the side it has, how many cells k of them have, and n lines at i as rows
abbrev pub count_of : {X : Type 0} → Table X → Side → ℕ
count_of t side = lines_in side t.rows t.columns

abbrev pub cells_of : {X : Type 0} → Table X → Side → ℕ → ℕ
cells_of t side k = cells_in side k t.rows t.columns

abbrev pub block_in : {X : Type 0} → Table X → Side → (i n : ℕ) → Block
block_in t side i n = block_of side t.rows t.columns i n

-- t has the shape of s with k lines of the side
abbrev pub Shaped : {X : Type 0} → (s t : Table X) → Side → ℕ → Type 0
Shaped s t side k = (t.rows ≡ rows_with side k s.rows) × (t.columns ≡ columns_with side k s.columns)

-- and the shape of s itself
abbrev pub SameShape : {X : Type 0} → (s t : Table X) → Type 0
SameShape s t = (t.rows ≡ s.rows) × (t.columns ≡ s.columns)

-- the block lies in its table, and that in so many cells
abbrev pub Inside : Block → ℕ → Type 0
Inside b cells = (b.first + b.count ≤ b.rows) × (b.rows * b.columns ≤ cells)

-- with the block's rows more the table lies in so many cells
abbrev pub Opens : Block → ℕ → Type 0
Opens b cells = (b.first ≤ b.rows) × ((b.rows + b.count) * b.columns ≤ cells)

-- how many cells of a table of R rows and C columns one of m rows and n columns has no place for
abbrev pub count_of_lost : (R C m n : ℕ) → ℕ
count_of_lost R C m n = R * C - min R m * min C n
