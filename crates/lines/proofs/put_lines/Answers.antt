use Rattle.std.proofs.Common.{sym, refl, append-nil}
use Rattle.journal.specs.declared.parts.Note.TheVariants.{Insertion}
use Rattle.model.specs.Sheet.{insert_lines}
use Rattle.journal.specs.View.{side_of, table_of}
use Rattle.journal.proofs.Answering.{entered, nothing_lost, right, same_room}
use Rattle.lines.proofs.Sides.{inserted_cells, inserted_lost}
use Rattle.lines.proofs.put_lines.Goals as goal

pub returns : goal.returns
returns g c =
    let p = c.args.p.now in
    let h = c.insert_lines.ensures in
    record {
      note = Insertion c.args.side c.args.i c.args.n;
      noted = refl;
      rows = h.shape.0;
      columns = h.shape.1;
      cells = inserted_cells (table_of p) c.args.i c.args.n (right p) p.table.cells.now refl c.args.side c.requires.there c.args.v _ c.requires.fits.cells h.cells;
      saved = nothing_lost p (insert_lines (side_of c.args.side) c.args.i c.args.n c.args.v) (inserted_lost (table_of p) c.args.i c.args.n c.args.side c.args.v c.requires.there);
      runs = sym (append-nil _);
      entries = entered p _ _ _ c.entry-entry.ensures c.push.ensures;
      room = same_room _ _ _ _ _ _ _ _ h.cells.long c.push.ensures.kept.room refl refl;
    }
