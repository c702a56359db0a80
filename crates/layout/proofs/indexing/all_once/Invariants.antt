use Rattle.layout.proofs.Marks.{Marked}
use Rattle.layout.proofs.indexing.all_once.Given as goal

abbrev pub invariant-loop-row : goal.invariant-loop-row
invariant-loop-row l = Marked l.list l.marks l.row-index
