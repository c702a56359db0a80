use Rattle.std.proofs.Common.{sym, refl, ap, ◌∙◌, append-nil}
use Rattle.journal.specs.declared.parts.Note.TheVariants.{Resizing}
use Rattle.journal.specs.View.{table_of}
use Rattle.journal.specs.Entering.{entry_for}
use Rattle.journal.proofs.Answering.{entered, right, same_room}
use Rattle.resizing.proofs.Cells.{resized_cells, saved_cells}
use Rattle.resizing.proofs.reshape.Goals as goal

pub returns : goal.returns
returns g c =
    let p = c.args.p.now in
    let m = c.args.m in
    let n = c.args.n in
    let h = c.resize_cells.ensures in
    let note = Resizing m n in
    record {
      note = note;
      noted = refl;
      rows = h.shape.0;
      columns = h.shape.1;
      cells = resized_cells (table_of p) (right p) p.table.cells.now refl m n c.args.v _ c.requires.cells h.cells;
      saved = saved_cells (table_of p) (right p) p.table.cells.now refl m n c.args.v _ _ c.save_outside.ensures.saved;
      runs = sym (append-nil _);
      entries = entered p _ _ _ (c.entry-entry.ensures ∙ ap (entry_for p note 0) c.lost_count-lost.ensures) c.push.ensures;
      room = same_room _ _ _ _ _ _ _ _ h.cells.long c.push.ensures.kept.room refl c.save_outside.ensures.kept.room;
    }
