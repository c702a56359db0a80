use Rattle.std.proofs.Common.{◌≡◌, ℕ, ◌+◌, refl, ap₂, arith}
use Rattle.layout.specs.declared.side.Side.{Side}
use Rattle.layout.specs.declared.side.Side.TheVariants.{Rows, Columns}
use Rattle.moves.specs.Blocks.{columns_with, lines_in, rows_with}
use Rattle.moves.proofs.Sides.{block_inside}
use Rattle.gaps.proofs.filling.take_lines.Goals as goal

counted : (s : Side) (k rows columns : ℕ) → lines_in s (rows_with s k rows) (columns_with s k columns) ≡ k
counted Rows k rows columns = refl
counted Columns k rows columns = refl

pub take_rows-requires : goal.take_rows-requires
take_rows-requires g c =
    let a = c.args in
    let t = c.set_count.new.self in
    let lines = ap₂ (lines_in a.side) c.set_count.ensures.shape.0 c.set_count.ensures.shape.1 in
    let many = counted a.side (c.count.result + a.n) a.table.now.rows a.table.now.columns in
    (block_inside a.side t.rows t.columns a.i a.n _ _ c.block-gap.ensures (omega (arith, lines, many, c.count.ensures, c.requires.there)) t.fits).0
