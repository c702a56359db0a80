-- The lines of a side as rows: they lie in the table, and there is room for them.
use Rattle.std.proofs.Common.{◌≡◌, ℕ, ◌+◌, ◌*◌, ◌≤◌, sym, refl, subst, mul_comm, mul-le-mul_right, add-mul, mul-one, arith}
use Rattle.layout.specs.declared.side.Side.{Side}
use Rattle.layout.specs.declared.side.Side.TheVariants.{Rows, Columns}
use Rattle.moves.specs.declared.vec_storage.Block.{Block}
use Rattle.moves.specs.Blocks.{Inside, Opens, block_of, cells_in, lines_in}

pub block_inside : (side : Side) (rows columns i n cells : ℕ) (b : Block) → b ≡ block_of side rows columns i n → i + n ≤ lines_in side rows columns
    → rows * columns ≤ cells → Inside b cells × (b.count * b.columns ≡ cells_in side n rows columns)
block_inside side rows columns i n cells b e h k =
    subst (λ z. Inside z cells × (z.count * z.columns ≡ cells_in side n rows columns)) (sym e) (go side h)
  where
    go : (s : Side) → i + n ≤ lines_in s rows columns → Inside (block_of s rows columns i n) cells × ((block_of s rows columns i n).count * (block_of s rows columns i n).columns ≡ cells_in s n rows columns)
    go Rows h = ((h, k), refl)
    go Columns h = (
      (omega (arith, mul-le-mul_right rows h, add-mul i n rows, mul_comm rows columns), omega (arith, mul-one (rows * columns))),
      omega (arith, mul-one (n * rows), mul_comm n rows),
    )

pub block_opens : (side : Side) (rows columns i n cells : ℕ) (b : Block) → b ≡ block_of side rows columns i n → i ≤ lines_in side rows columns
    → cells_in side (lines_in side rows columns + n) rows columns ≤ cells → Opens b cells × (b.count * b.columns ≡ cells_in side n rows columns)
block_opens side rows columns i n cells b e h k = subst (λ z. Opens z cells × (z.count * z.columns ≡ cells_in side n rows columns)) (sym e) (go side h k)
  where
    go : (s : Side) → i ≤ lines_in s rows columns → cells_in s (lines_in s rows columns + n) rows columns ≤ cells
        → Opens (block_of s rows columns i n) cells × ((block_of s rows columns i n).count * (block_of s rows columns i n).columns ≡ cells_in s n rows columns)
    go Rows h k = ((h, k), refl)
    go Columns h k = (
      (
        omega (arith, mul-le-mul_right rows h, mul_comm rows columns),
        omega (arith, mul-one (rows * columns + n * rows), mul_comm rows (columns + n), add-mul columns n rows, mul_comm rows columns),
      ),
      omega (arith, mul-one (n * rows), mul_comm n rows),
    )
