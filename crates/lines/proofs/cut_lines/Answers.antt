use Rattle.std.proofs.Common.{refl, ◌∙◌, ap₂}
use Rattle.journal.specs.declared.parts.Note.TheVariants.{Removal}
use Rattle.journal.specs.View.{table_of}
use Rattle.journal.specs.Entering.{entry_for}
use Rattle.journal.proofs.Answering.{entered, right, same_room}
use Rattle.lines.proofs.Sides.{compressed_cells, saved_cells}
use Rattle.lines.proofs.cut_lines.Goals as goal

pub returns : goal.returns
returns g c =
    let p = c.args.p.now in
    let a = c.args in
    let h = c.remove_lines.ensures in
    let note = Removal a.side a.i a.n in
    record {
      note = note;
      noted = refl;
      rows = h.shape.0;
      columns = h.shape.1;
      cells = compressed_cells (table_of p) a.i a.n (right p) p.table.cells.now refl a.side c.requires.there _ h.cells;
      saved = saved_cells (table_of p) a.i a.n (right p) p.table.cells.now refl a.side c.requires.there _ _ c.save_lines.ensures.saved;
      runs = c.note_run.ensures.noted;
      entries = entered p _ _ _ (c.entry-entry.ensures ∙ ap₂ (entry_for p note) c.run_count.ensures c.cells_in-lost.ensures) c.push.ensures;
      room = same_room _ _ _ _ _ _ _ _ h.cells.long c.push.ensures.kept.room c.note_run.ensures.kept.room c.save_lines.ensures.kept.room;
    }
