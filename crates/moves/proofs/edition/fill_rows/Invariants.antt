use Rattle.moves.specs.Blocks.{rows_block}
use Rattle.moves.specs.Tables.{RowsFilled}
use Rattle.moves.proofs.edition.fill_rows.Given as goal

abbrev pub invariant-loop-c : goal.invariant-loop-c
invariant-loop-c g l = RowsFilled l.initial.cells l.cells (rows_block l.b.rows l.c l.b.first l.b.count) l.v
