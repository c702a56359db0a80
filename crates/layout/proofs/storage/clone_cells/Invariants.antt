use Rattle.layout.specs.Cells.{Cloned}
use Rattle.layout.proofs.storage.clone_cells.Given as goal

abbrev pub invariant-loop-c : goal.invariant-loop-c
invariant-loop-c g l = Cloned (g.L.Layout.grid l.layout) l.source l.initial.cells l.cells l.c
