-- What moving, copying or writing a block of cells leaves in a buffer.
use Rattle.std.specs.Prelude.{◌≡◌, ℕ, ◌+◌, ◌<◌, ◌≤◌, List, length, slice_index_or}

-- ys is xs, but that the `len` cells at `to` hold what `cell` says, each by how many of them stand before it; beyond the
-- end of what it reads `cell` is d, as reading a list is
pub record Written {X : Type 0} (xs ys : List X) (to len : ℕ) (cell : ℕ → X → X) : Type 0 where
  pub long : length ys ≡ length xs
  pub put : (k : ℕ) (d : X) → k < len → slice_index_or ys (to + k) d ≡ cell k d
  pub below : (k : ℕ) (d : X) → k < to → slice_index_or ys k d ≡ slice_index_or xs k d
  pub above : (k : ℕ) (d : X) → to + len ≤ k → slice_index_or ys k d ≡ slice_index_or xs k d

-- ys is xs with the `len` cells at `from` of src copied to `to`; where src is xs, they are moved within it
abbrev pub Copied : {X : Type 0} (src xs ys : List X) (from to len : ℕ) → Type 0
Copied src xs ys from to len = Written xs ys to len (λ k d. slice_index_or src (from + k) d)

-- ys is xs with v in each of the `len` cells at `from`
abbrev pub Filled : {X : Type 0} (xs ys : List X) (from len : ℕ) → X → Type 0
Filled xs ys from len v = Written xs ys from len (λ k d. v)
