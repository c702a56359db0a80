use Rattle.std.proofs.Common.{List, MutBor, ◌*◌, take, ap, ◌∙◌}
use base.Stored.{Coded-set}
use Rattle.leaving.proofs.Undoing.{leaves, moved_leaves, moved_undone, own_cells}
use Rattle.undo_listed.proofs.Taking.{own_long, runs_rise, table_back}
use Rattle.undo_listed.proofs.undo_listed.Goals as goal

pub newest-own-requires : goal.newest-own-requires
newest-own-requires g c = own_cells c.args.p.now c.args.entry c.requires.held c.requires.newest

pub newest-runs-requires : goal.newest-runs-requires
newest-runs-requires g c = (leaves c.args.p.now c.args.entry c.requires.held c.requires.newest).runs

pub put_runs-requires : goal.put_runs-requires
put_runs-requires g c =
    let a = c.args in
    let r = c.requires in
    let l = leaves a.p.now a.entry r.held r.newest in
    record {
      few = (l.rows, l.columns);
      fits = l.cells;
      rising = runs_rise a.p.now a.entry r.held r.newest a.side r.noted _ c.newest-runs.ensures _ c.newest-own.ensures;
      own = own_long a.p.now a.entry r.held r.newest a.side r.noted _ c.newest-runs.ensures _ c.newest-own.ensures;
    }

pub leave-requires : goal.leave-requires
leave-requires g c =
    moved_leaves c.args.p.now c.put_runs.new.table c.args.entry c.requires.held c.requires.newest c.put_runs.ensures.long

pub returns : goal.returns
returns g c =
    let a = c.args in
    let p = a.p.now in
    let r = c.requires in
    let h = c.put_runs.ensures in
    moved_undone p c.put_runs.new.table a.entry r.held r.newest h.long c.leave.new.p c.leave.ensures.rest
    (Coded-set g.row.T.coded)
    (λ w. ap (λ (z : MutBor (List g.row.T.Denot)). take (w.former.table.rows * w.former.table.columns) z.now) c.leave.ensures.cells
    ∙ table_back p a.entry r.held r.newest a.side r.noted _ c.newest-runs.ensures _ c.newest-own.ensures _ h.long (leaves p a.entry r.held r.newest).cells h.own h.left w)
