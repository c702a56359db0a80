use Rattle.moves.specs.Blocks.{rows_block}
use Rattle.moves.specs.Tables.{Put}
use Rattle.moves.proofs.edition.put_rows.Given as goal

abbrev pub invariant-loop-c : goal.invariant-loop-c
invariant-loop-c g l = Put l.saved l.initial.cells l.cells (rows_block l.b.rows l.c l.b.first l.b.count)
