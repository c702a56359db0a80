use Rattle.std.proofs.Common.{◌+◌, ◌*◌, refl, arith}
use Rattle.std.proofs.lemmas.List.{take_rest}
use Rattle.moves.proofs.Saves.{writing_more}
use Rattle.gaps.proofs.Blocks.{used_up}
use Rattle.gaps.proofs.taking.take_rows.Goals as goal

pub loop-c-preserved : goal.loop-c-preserved
loop-c-preserved g c =
    let k = c.loop-c.c in
    let n = c.args.b.count in
    writing_more c.args.cells.now c.loop-c.cells c.take_block.new.cells _ _ _ _ c.requires.0 k _ _ refl
    (λ r d h. used_up c.args.list.now c.args.v _ (k * n) r (r + k * n) c.min-used.ensures (omega arith)) c.loop-c.invariant
    (rw take_rest at c.take_block.ensures)
