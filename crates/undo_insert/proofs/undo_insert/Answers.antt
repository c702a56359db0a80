use Rattle.std.proofs.Common.{List, MutBor, sym, ap, subst, arith}
use base.Stored.{Coded-set}
use Rattle.moves.specs.Blocks.{block_of}
use Rattle.moves.specs.Tables.{Compressed}
use Rattle.leaving.proofs.Undoing.{moved_leaves, moved_undone}
use Rattle.undo_insert.proofs.Undoing.{lines_there, lines_back}
use Rattle.undo_insert.proofs.undo_insert.Goals as goal

pub remove_lines-requires : goal.remove_lines-requires
remove_lines-requires g c =
    omega (arith, lines_there c.args.p.now c.args.entry c.requires.held c.requires.newest c.args.i c.args.n c.args.side c.requires.noted)

pub leave-requires : goal.leave-requires
leave-requires g c =
    let p = c.args.p.now in
    let e = c.args.entry in
    moved_leaves p c.remove_lines.new.self e c.requires.held c.requires.newest c.remove_lines.ensures.cells.long

pub returns : goal.returns
returns g c =
    let p = c.args.p.now in
    let e = c.args.entry in
    let a = c.args in
    let h = c.remove_lines.ensures.cells in
    let left = sym (ap (λ (r : MutBor (List g.row.T.Denot)). r.now) c.leave.ensures.cells) in
    moved_undone p c.remove_lines.new.self e c.requires.held c.requires.newest h.long c.leave.new.p c.leave.ensures.rest
    (Coded-set g.row.T.coded)
    (lines_back p e c.requires.held c.requires.newest a.i a.n a.side c.requires.noted _
    (subst (λ z. Compressed p.table.cells.now z (block_of a.side p.table.rows p.table.columns a.i a.n)) left h))
