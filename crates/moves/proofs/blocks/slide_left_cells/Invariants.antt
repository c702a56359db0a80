use Rattle.moves.specs.Slides.{Copied}
use Rattle.moves.proofs.blocks.slide_left_cells.Given as goal

abbrev pub invariant-loop-i : goal.invariant-loop-i
invariant-loop-i g l = Copied l.initial.cells l.initial.cells l.cells l.from l.to l.i
