use Rattle.moves.specs.Blocks.{rows_block}
use Rattle.moves.specs.Stores.{Kept, items}
use Rattle.moves.specs.Tables.{Saved}
use Rattle.moves.proofs.edition.save_rows.Given as goal

abbrev pub invariant-loop-c : goal.invariant-loop-c
invariant-loop-c g l = Saved l.cells (items l.initial.saved) (items l.saved) (rows_block l.b.rows l.c l.b.first l.b.count) × Kept l.initial.saved l.saved
