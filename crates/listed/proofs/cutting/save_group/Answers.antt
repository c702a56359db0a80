use Rattle.std.proofs.Common.{arith}
use Rattle.moves.specs.Stores.{items}
use Rattle.listed.proofs.Blocks.{saving_fits, saving_inside}
use Rattle.listed.proofs.cutting.save_group.Goals as goal

pub overflow_mul-len : goal.overflow_mul-len
overflow_mul-len g c =
    let a = c.args in
    let l = c.loop-run in
    let h = saving_inside a.lines.width a.cells.now _ c.requires.inside a.runs.now l.run-index (omega arith) l.invariant.rising in
    omega arith

pub extend_from_slice-requires : goal.extend_from_slice-requires
extend_from_slice-requires g c =
    let a = c.args in
    let l = c.loop-run in
    saving_fits a.lines.width a.cells.now _ c.requires.inside a.runs.now l.run-index (omega arith) l.invariant.rising (items l.saved) (items a.saved.now) _ _ l.invariant.saved (omega arith)
