use Rattle.std.proofs.Common.{◌*◌, map, length, ap, arith}
use Rattle.moves.proofs.Places.{next_column}
use Rattle.journal.specs.View.{run_of}
use Rattle.listed.specs.Cuts.{between}
use Rattle.listed.proofs.Blocks.{drop_on, group_long, group_next, group_same, groups_rest}
use Rattle.listed.proofs.cutting.close_runs.Goals as goal

pub loop-g-preserved : goal.loop-g-preserved
loop-g-preserved g c =
    let a = c.args in
    let l = c.loop-g in
    let size = a.lines.count * a.lines.width in
    let rs = between 0 (map run_of a.runs.now) a.lines.count in
    let e = c.close_group-to.ensures in
    let h = group_long a.lines.width size l.g a.lines.groups a.cells.now rs (omega arith) in
    let same = group_same a.lines.width (l.g * size) a.cells.now l.cells rs (drop_on l.cells a.cells.now l.to (l.g * size) (omega arith) l.invariant.rest) in
    let long = ap length same in
    let next = next_column l.g size in
    record {
      back = omega (arith, e.ends.1);
      long = omega (arith, l.invariant.long, e.ends.0);
      moved = group_next a.lines.width size l.g a.lines.groups a.cells.now rs (omega arith) l.cells c.close_group-to.new.cells l.to _ _ _ same e.ends.0 e.put l.invariant.moved;
      rest = groups_rest a.cells.now l.cells c.close_group-to.new.cells _ l.to _ e.ends.0 l.invariant.rest e.put;
    }
