use Rattle.std.proofs.Common.{ap, ◌∙◌}
use Rattle.model.specs.Journal.{opened}
use Rattle.sheet.specs.Opening.{room_in, table_in}
use Rattle.sheet.proofs.Openings.{filled_reachable, holds_room}
use Rattle.sheet.proofs.sheet.Sheet.new.Goals as goal

pub invariant_of-result : goal.invariant_of-result
invariant_of-result g c =
    let grid = g.L.Layout.grid c.args.layout.now in
    let e = holds_room c.new-parts.result _ _ _ _ c.new-parts.ensures in
    record {
      reachable = filled_reachable grid (g.L.Layout.lawful c.args.layout.now) c.args.source.now c.fill.new.p (room_in c.args.cells.now c.args.entries.now c.args.runs.now c.args.saved.now) c.in_ok-check.ensures
          (c.fill.ensures ∙ ap (opened (table_in grid c.args.source.now)) e);
    }
