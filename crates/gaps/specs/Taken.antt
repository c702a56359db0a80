-- Cells that take a list, and a value where the list is used up.
use Rattle.std.specs.Prelude.{ℕ, ◌+◌, ◌*◌, List, slice_index_or}
use Rattle.moves.specs.declared.vec_storage.Block.{Block}
use Rattle.moves.specs.Slides.{Written}
use Rattle.moves.specs.Tables.{RowsWritten}

-- ys is xs with the list, and v behind it, in the `len` cells at `from`
abbrev pub Taken : {X : Type 0} (xs ys : List X) (from len : ℕ) → List X → X → Type 0
Taken xs ys from len vs v = Written xs ys from len (λ k d. slice_index_or vs k v)

-- ys is xs with the list, and v behind it, in the block's rows of its table, column by column
abbrev pub RowsTaken : {X : Type 0} (xs ys : List X) → Block → List X → X → Type 0
RowsTaken xs ys b vs v = RowsWritten xs ys b (λ r c d. slice_index_or vs (r + c * b.count) v)
