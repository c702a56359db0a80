use Rattle.std.proofs.Common.{◌+◌, ◌*◌, refl, arith}
use Rattle.moves.proofs.Slides.{at}
use Rattle.moves.proofs.Saves.{writing_more}
use Rattle.moves.proofs.edition.put_rows.Goals as goal

pub loop-c-preserved : goal.loop-c-preserved
loop-c-preserved g c =
    let k = c.loop-c.c in
    let n = c.args.b.count in
    writing_more c.args.cells.now c.loop-c.cells c.copy_block.new.cells _ _ _ _ c.requires.0.0 k _ _ refl
    (λ r d h. at c.args.saved.now d (k * n + r) (r + k * n) (omega arith)) c.loop-c.invariant c.copy_block.ensures
