use Rattle.std.proofs.Common.{◌+◌, ◌*◌}
use Rattle.moves.proofs.Rows.{Compressing}
use Rattle.moves.proofs.edition.compress_rows.Given as goal

abbrev pub invariant-loop-c : goal.invariant-loop-c
invariant-loop-c g l = Compressing l.initial.cells l.cells l.b.rows l.left l.b.first l.b.count (l.b.first + l.c * l.left)
