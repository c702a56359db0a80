use Rattle.moves.proofs.Slides.{SlidFrom}
use Rattle.moves.proofs.blocks.slide_right_cells.Given as goal

abbrev pub invariant-loop-i : goal.invariant-loop-i
invariant-loop-i g l = SlidFrom l.initial.cells l.cells l.from l.to l.i l.len
