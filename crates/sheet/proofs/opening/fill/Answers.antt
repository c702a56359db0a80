use Rattle.std.proofs.Common.{◌*◌, take, refl, ap, ◌∙◌, ap₂}
use Rattle.model.specs.Journal.{opened}
use Rattle.journal.specs.View.{room_of}
use Rattle.journal.proofs.Answering.{cleared, same_sheet, same_room}
use Rattle.sheet.specs.Opening.{table_in}
use Rattle.sheet.proofs.Openings.{cloned_cells}
use Rattle.sheet.proofs.opening.fill.Goals as goal

pub returns : goal.returns
returns g c =
    let grid = g.L.Layout.grid c.args.layout.now in
    let h = c.copy_table.ensures in
    cleared _ _ c.clear.ensures
    ∙ same_sheet _ (opened (table_in grid c.args.source.now) (room_of c.args.p.now)) h.shape.0 h.shape.1
    (ap (λ k. take k c.copy_table.new.table.cells.now) (ap₂ ◌*◌ h.shape.0 h.shape.1) ∙ cloned_cells grid (g.L.Layout.lawful c.args.layout.now) c.args.source.now c.requires.1.0 _ _ c.requires.0 h.cells)
    refl refl refl (same_room _ _ _ _ _ _ _ _ h.cells.long refl refl refl)
