use Rattle.std.proofs.Common.{◌≡◌, sym, ap, subst, arith}
use base.Stored.{Coded-set}
use Rattle.layout.specs.Lawful.{dense}
use Rattle.leaving.proofs.Undoing.{moved_leaves, moved_undone}
use Rattle.swaps.specs.Exchange.{Swapped}
use Rattle.swaps.proofs.Exchanging.{swapped_long}
use Rattle.swaps.proofs.Back.{lines_there, swapped_back}
use Rattle.swaps.proofs.undo_swap.Goals as goal

pub swap_cells-requires : goal.swap_cells-requires
swap_cells-requires g c =
    let l = lines_there c.args.p.now c.args.entry c.requires.held c.requires.newest c.args.side c.args.i c.args.j c.requires.noted in
    (omega (arith, l.0, l.1), omega (arith, l.0, l.1))

pub leave-requires : goal.leave-requires
leave-requires g c =
    let p = c.args.p.now in
    let e = c.args.entry in
    moved_leaves p c.swap_cells.new.table e c.requires.held c.requires.newest (swapped_long c.args.side _ _ _ _ _ c.swap_cells.ensures.cells)

pub returns : goal.returns
returns g c =
    let p = c.args.p.now in
    let e = c.args.entry in
    let side = c.args.side in
    let i = c.args.i in
    let j = c.args.j in
    let s = c.swap_cells.ensures.cells in
    let left : c.swap_cells.new.table.cells.now ≡ c.leave.new.p.table.cells.now = sym (ap (λ r. r.now) c.leave.ensures.cells) in
    moved_undone p c.swap_cells.new.table e c.requires.held c.requires.newest (swapped_long side _ _ _ _ _ s) c.leave.new.p c.leave.ensures.rest
    (Coded-set g.row.T.coded)
    (swapped_back p e c.requires.held c.requires.newest side i j c.requires.noted _
    (subst (λ z. Swapped side (dense p.table.rows p.table.columns) p.table.cells.now z i j) left s))
