use Rattle.std.proofs.Common.{List, MutBor, ◌*◌, take, ap, ◌∙◌}
use base.Stored.{Coded-set}
use Rattle.leaving.proofs.Undoing.{moved_leaves, moved_undone, own_cells}
use Rattle.undo_remove.proofs.Taking.{all_there, lines_there, room, table_back}
use Rattle.undo_remove.proofs.undo_remove.Goals as goal

pub newest-own-requires : goal.newest-own-requires
newest-own-requires g c = own_cells c.args.p.now c.args.entry c.requires.held c.requires.newest

pub restore_lines-requires : goal.restore_lines-requires
restore_lines-requires g c =
    let a = c.args in
    let r = c.requires in
    record {
      there = lines_there a.p.now a.entry r.held r.newest a.side a.i a.n r.noted;
      fits = room a.p.now a.entry r.held r.newest a.side a.i a.n r.noted;
      saved = all_there a.p.now a.entry r.held r.newest a.side a.i a.n r.noted _ c.newest-own.ensures;
    }

pub leave-requires : goal.leave-requires
leave-requires g c =
    moved_leaves c.args.p.now c.restore_lines.new.self c.args.entry c.requires.held c.requires.newest c.restore_lines.ensures.cells.long

pub returns : goal.returns
returns g c =
    let a = c.args in
    let p = a.p.now in
    let r = c.requires in
    let h = c.restore_lines.ensures.cells in
    moved_undone p c.restore_lines.new.self a.entry r.held r.newest h.long c.leave.new.p c.leave.ensures.rest
    (Coded-set g.row.T.coded)
    (λ w. ap (λ (z : MutBor (List g.row.T.Denot)). take (w.former.table.rows * w.former.table.columns) z.now) c.leave.ensures.cells
    ∙ table_back p a.entry r.held r.newest a.side a.i a.n r.noted _ c.newest-own.ensures _ h w)
