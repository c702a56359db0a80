use Rattle.std.proofs.Common.{◌+◌, ◌-◌, ◌*◌, length, refl, arith}
use Rattle.listed.proofs.Returns.{rising_gone, group_sizes, group_saved_all, group_room, groups_first, groups_next, groups_done, own_block}
use Rattle.listed.proofs.putting.open_runs.Goals as goal

pub count_lines-requires : goal.count_lines-requires
count_lines-requires g c = let h = rising_gone 0 c.args.lines.count c.args.runs.now c.requires.rising in omega arith

pub overflow_mul-lost : goal.overflow_mul-lost
overflow_mul-lost g c =
    let a = c.args in
    let s = group_sizes a.lines a.runs.now c.count_lines.result c.requires.rising c.count_lines.ensures in
    omega arith

pub overflow_sub-left : goal.overflow_sub-left
overflow_sub-left g c =
    let a = c.args in
    let s = group_sizes a.lines a.runs.now c.count_lines.result c.requires.rising c.count_lines.ensures in
    omega arith

pub loop-g-init : goal.loop-g-init
loop-g-init g c =
    let a = c.args in
    let s = group_sizes a.lines a.runs.now c.count_lines.result c.requires.rising c.count_lines.ensures in
    groups_first a.cells.now a.saved.now a.lines a.runs.now (c.count_lines.result * a.lines.width) (a.lines.count * a.lines.width - c.count_lines.result * a.lines.width)
    s.3 (group_saved_all a.lines.groups _ a.lines.width (c.count_lines.result * a.lines.width) (length a.saved.now) s.1 c.requires.own) c.requires.inside.1

pub overflow_mul-g : goal.overflow_mul-g
overflow_mul-g g c =
    let l = c.loop-g in
    let room = group_room l.invariant (l.g - 1) (omega arith) (omega arith) in
    omega arith

pub overflow_add-own : goal.overflow_add-own
overflow_add-own g c =
    let l = c.loop-g in
    let room = group_room l.invariant (l.g - 1) (omega arith) (omega arith) in
    omega arith

pub slice_bounds-own-end : goal.slice_bounds-own-end
slice_bounds-own-end g c =
    let l = c.loop-g in
    let room = group_room l.invariant (l.g - 1) (omega arith) (omega arith) in
    omega arith

pub overflow_mul-g-in-loop-g : goal.overflow_mul-g-in-loop-g
overflow_mul-g-in-loop-g g c =
    let l = c.loop-g in
    let room = group_room l.invariant (l.g - 1) (omega arith) (omega arith) in
    omega arith

pub open_group-requires-clause-inside : goal.open_group-requires-clause-inside
open_group-requires-clause-inside g c =
    let l = c.loop-g in
    let room = group_room l.invariant (l.g - 1) (omega arith) (omega arith) in
    omega arith

pub open_group-requires-clause-on : goal.open_group-requires-clause-on
open_group-requires-clause-on g c =
    let l = c.loop-g in
    let room = group_room l.invariant (l.g - 1) (omega arith) (omega arith) in
    omega arith

pub loop-g-preserved : goal.loop-g-preserved
loop-g-preserved g c =
    let l = c.loop-g in
    let room = group_room l.invariant (l.g - 1) (omega arith) (omega arith) in
    let one = c.count_lines.result * c.args.lines.width in
    let at = (l.g - 1) * one in
    let own = own_block c.args.saved.now at one (at + one - at) (omega arith) room.2 in
    groups_next l.invariant (l.g - 1) (omega arith) (omega arith) c.open_group.new.cells _ own.0 own.1 c.open_group.ensures

pub returns : goal.returns
returns g c =
    let a = c.args in
    let s = group_sizes a.lines a.runs.now c.count_lines.result c.requires.rising c.count_lines.ensures in
    groups_done c.loop-g.invariant (omega arith) s.1 refl s.0
