use Rattle.std.proofs.Common.{◌+◌}
use Rattle.moves.proofs.Rows.{Opening}
use Rattle.moves.proofs.edition.open_columns.Given as goal

abbrev pub invariant-loop-c : goal.invariant-loop-c
invariant-loop-c g l = Opening l.initial.cells l.cells l.b.rows (l.b.rows + l.b.count) l.b.columns l.b.first l.b.count l.c
