use Rattle.std.proofs.Common.{sym, refl, append-nil}
use Rattle.journal.specs.declared.parts.Note.TheVariants.{Exchange}
use Rattle.model.specs.Sheet.{swap_lines}
use Rattle.journal.specs.View.{side_of, table_of}
use Rattle.journal.proofs.Answering.{entered, nothing_lost, right, same_room}
use Rattle.swaps.proofs.Exchanging.{exchanged_cells, lost, swapped_long}
use Rattle.swaps.proofs.exchange.Goals as goal

pub returns : goal.returns
returns g c =
    let p = c.args.p.now in
    let a = c.args in
    let there = c.requires.there in
    let h = c.swap_cells.ensures in
    record {
      note = Exchange a.side a.i a.j;
      noted = refl;
      rows = h.shape.0;
      columns = h.shape.1;
      cells = exchanged_cells a.side (table_of p) a.i a.j there.0 there.1 (right p) p.table.cells.now _ h.cells refl;
      saved = nothing_lost p (swap_lines (side_of a.side) a.i a.j) (lost a.side (table_of p) a.i a.j there.0 there.1);
      runs = sym (append-nil _);
      entries = entered p _ _ _ c.entry-entry.ensures c.push.ensures;
      room = same_room _ _ _ _ _ _ _ _ (swapped_long a.side _ _ _ _ _ h.cells) c.push.ensures.kept.room refl refl;
    }
