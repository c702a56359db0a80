use Rattle.std.proofs.Common.{subst}
use Rattle.layout.specs.Cells.{ColumnCloned}
use Rattle.layout.proofs.Cloning.{cloned_more}
use Rattle.layout.proofs.storage.clone_cells.Goals as goal

pub loop-c-preserved : goal.loop-c-preserved
loop-c-preserved g c =
    let grid = g.L.Layout.grid c.args.layout.now in
    cloned_more grid c.args.source.now c.args.cells.now c.loop-c.cells c.clone_column.new.cells c.loop-c.c c.loop-c.invariant
    (subst (ColumnCloned grid c.args.source.now c.loop-c.cells c.clone_column.new.cells c.loop-c.c) c.shape-rows.ensures.0 c.clone_column.ensures)
