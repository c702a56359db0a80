use Rattle.std.proofs.Common.{◌*◌, take, ap, ◌∙◌}
use base.Stored.{Coded-set}
use Rattle.leaving.proofs.Undoing.{leaves, moved_leaves, moved_undone, own_cells}
use Rattle.undo_resize.proofs.Taking.{all_there, table_back}
use Rattle.undo_resize.proofs.undo_resize.Goals as goal

pub returns : goal.returns
returns g c =
    let p = c.args.p.now in
    let e = c.args.entry in
    let held = c.requires.held in
    let is = c.requires.newest in
    let h = c.bring_back_shape.ensures.cells in
    moved_undone p c.bring_back_shape.new.table e held is h.long c.leave.new.p c.leave.ensures.rest
    (Coded-set g.row.T.coded)
    (λ v. ap (λ r. take (v.former.table.rows * v.former.table.columns) r.now) c.leave.ensures.cells ∙ table_back p e held is c.requires.noted _ c.newest-own.ensures v _ h)

pub newest-own-requires : goal.newest-own-requires
newest-own-requires g c = own_cells c.args.p.now c.args.entry c.requires.held c.requires.newest

pub bring_back_shape-requires-clause-fits : goal.bring_back_shape-requires-clause-fits
bring_back_shape-requires-clause-fits g c = (leaves c.args.p.now c.args.entry c.requires.held c.requires.newest).cells

pub bring_back_shape-requires-clause-there : goal.bring_back_shape-requires-clause-there
bring_back_shape-requires-clause-there g c =
    all_there c.args.p.now c.args.entry c.requires.held c.requires.newest c.requires.noted _ c.newest-own.ensures

pub leave-requires : goal.leave-requires
leave-requires g c =
    let p = c.args.p.now in
    let e = c.args.entry in
    moved_leaves p c.bring_back_shape.new.table e c.requires.held c.requires.newest c.bring_back_shape.ensures.cells.long
