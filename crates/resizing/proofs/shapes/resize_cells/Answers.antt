use Rattle.std.proofs.Common.{ap}
use Rattle.resizing.proofs.Corners.{widened}
use Rattle.resizing.proofs.shapes.resize_cells.Goals as goal

pub returns-clause-cells : goal.returns-clause-cells
returns-clause-cells g c =
    let a = c.args in
    let t = a.table.now in
    rw (ap (λ r. r.now) c.set_shape.ensures.cells)
    (widened t.rows t.columns a.m a.n c.min-stay.result c.min-stay.ensures _ _ _ a.v c.resize_rows.ensures c.fill_range.ensures)
