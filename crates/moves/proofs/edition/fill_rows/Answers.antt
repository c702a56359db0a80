use Rattle.std.proofs.Common.{refl}
use Rattle.moves.proofs.Saves.{writing_more}
use Rattle.moves.proofs.edition.fill_rows.Goals as goal

pub loop-c-preserved : goal.loop-c-preserved
loop-c-preserved g c =
    writing_more c.args.cells.now c.loop-c.cells c.fill_range.new.cells _ _ _ _ c.requires.0 c.loop-c.c _ _ refl (λ r d h. refl) c.loop-c.invariant c.fill_range.ensures
