use Rattle.moves.specs.Blocks.{rows_block}
use Rattle.gaps.specs.Taken.{RowsTaken}
use Rattle.gaps.proofs.taking.take_rows.Given as goal

abbrev pub invariant-loop-c : goal.invariant-loop-c
invariant-loop-c g l = RowsTaken l.initial.cells l.cells (rows_block l.b.rows l.c l.b.first l.b.count) l.list l.v
