use Rattle.std.proofs.Common.{◌-◌, mul_comm, arith}
use Rattle.moves.proofs.Places.{columns_same, columns_split, columns_wider}
use Rattle.undo_resize.proofs.Corners.{both_parts, widened}
use Rattle.undo_resize.proofs.shapes.bring_back_shape.Goals as goal

pub bring_back_rows-requires : goal.bring_back_rows-requires
bring_back_rows-requires g c =
    let a = c.args in
    let t = a.table.now in
    let b = c.min-both.result in
    let e = c.min-both.ensures in (
      omega (arith, columns_wider t.rows b t.columns (omega arith), t.fits),
      omega (arith, columns_wider a.rows b a.columns (omega arith), c.requires.fits),
      omega (arith, both_parts t.rows t.columns a.rows a.columns b e, c.requires.there),
    )

pub copy_block-requires : goal.copy_block-requires
copy_block-requires g c =
    let a = c.args in
    let t = a.table.now in
    let b = c.min-both.result in
    let e = c.min-both.ensures in
    let s = columns_same c.saturating_sub.result (a.rows - t.rows) b c.saturating_sub.ensures in (
      omega (arith, s, both_parts t.rows t.columns a.rows a.columns b e, c.requires.there),
      omega (arith, c.bring_back_rows.ensures.long, columns_split b a.columns a.rows (omega arith), mul_comm a.columns a.rows, c.requires.fits),
    )

pub returns-clause-cells : goal.returns-clause-cells
returns-clause-cells g c =
    let a = c.args in
    let t = a.table.now in
    widened t.rows t.columns a.rows a.columns _ c.min-both.ensures _ _ _ _ _ c.saturating_sub.ensures c.bring_back_rows.ensures c.copy_block.ensures
