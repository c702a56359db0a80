use Rattle.std.proofs.Common.{◌*◌, ◌++◌, map, ap, ◌∙◌, arith}
use Rattle.moves.specs.Stores.{items}
use Rattle.moves.proofs.Saves.{grown_long, kept_on}
use Rattle.journal.specs.View.{run_of}
use Rattle.listed.specs.Cuts.{taken}
use Rattle.listed.proofs.Blocks.{group_fits, group_saved, open_end}
use Rattle.listed.proofs.cutting.save_runs.Goals as goal

pub save_group-requires-clause-fits : goal.save_group-requires-clause-fits
save_group-requires-clause-fits g c =
    let a = c.args in
    let size = a.lines.count * a.lines.width in
    rw open_end (group_fits a.lines.width size c.loop-g.g a.lines.groups a.cells.now (map run_of a.runs.now) (omega arith)
    (items c.loop-g.saved) (items a.saved.now) _ _ c.loop-g.invariant.saved (omega arith))

pub loop-g-preserved : goal.loop-g-preserved
loop-g-preserved g c =
    let a = c.args in
    let size = a.lines.count * a.lines.width in
    record {
      saved = group_saved a.lines.width size c.loop-g.g a.lines.groups a.cells.now (map run_of a.runs.now) (omega arith)
          (items c.loop-g.saved) (items c.save_group.new.saved) _
          (c.save_group.ensures.more ∙ ap (λ zs. items c.loop-g.saved ++ taken a.lines.width zs (map run_of a.runs.now)) (open_end a.cells.now (c.loop-g.g * size)))
          c.loop-g.invariant.saved;
      kept = kept_on a.saved.now c.loop-g.saved c.save_group.new.saved c.loop-g.invariant.kept (grown_long _ _ _ c.save_group.ensures) c.save_group.ensures.kept;
    }
