use Rattle.std.proofs.Common.{◌-◌, refl, arith}
use Rattle.moves.proofs.Rows.{opening_more}
use Rattle.moves.proofs.edition.open_columns.Goals as goal

pub loop-c-preserved : goal.loop-c-preserved
loop-c-preserved g c =
    opening_more c.args.cells.now c.loop-c.cells c.slide.new.cells _ _ _ _ _ refl (c.loop-c.c - 1) c.loop-c.c _ _ (omega arith) (omega arith) refl (omega arith) c.loop-c.invariant c.slide.ensures
