use Rattle.layout.specs.Cells.{ColumnCloned}
use Rattle.layout.proofs.storage.clone_column.Given as goal

abbrev pub invariant-loop-r : goal.invariant-loop-r
invariant-loop-r g l = ColumnCloned (g.L.Layout.grid l.layout) l.source l.initial.cells l.cells l.column l.r
