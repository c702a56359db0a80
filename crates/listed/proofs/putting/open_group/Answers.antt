use Rattle.std.proofs.Common.{◌-◌, arith}
use Rattle.listed.proofs.Returns.{lost_fits, coming_first, coming_room, turn_room, coming_next, coming_done}
use Rattle.listed.proofs.putting.open_group.Goals as goal

pub overflow_sub-from : goal.overflow_sub-from
overflow_sub-from g c =
    let a = c.args in
    lost_fits a.cells.now a.saved.now a.first a.top a.lines.width a.lines.count a.runs.now c.requires.on c.requires.inside c.requires.own c.requires.rising

pub loop-j-init : goal.loop-j-init
loop-j-init g c =
    let a = c.args in
    coming_first a.cells.now a.saved.now a.first a.top a.lines.width a.lines.count a.runs.now c.requires.on c.requires.inside c.requires.own c.requires.rising

pub overflow_sub-spared : goal.overflow_sub-spared
overflow_sub-spared g c =
    let l = c.loop-j in
    let inside = c.requires.inside in
    let room = coming_room l.invariant in
    let turn = turn_room l.invariant (l.j - 1) (omega arith) (omega arith) in
    omega arith

pub overflow_mul-spared : goal.overflow_mul-spared
overflow_mul-spared g c =
    let l = c.loop-j in
    let inside = c.requires.inside in
    let room = coming_room l.invariant in
    let turn = turn_room l.invariant (l.j - 1) (omega arith) (omega arith) in
    omega arith

pub overflow_sub-from-in-loop-j : goal.overflow_sub-from-in-loop-j
overflow_sub-from-in-loop-j g c =
    let l = c.loop-j in
    let inside = c.requires.inside in
    let room = coming_room l.invariant in
    let turn = turn_room l.invariant (l.j - 1) (omega arith) (omega arith) in
    omega arith

pub overflow_sub-to : goal.overflow_sub-to
overflow_sub-to g c =
    let l = c.loop-j in
    let inside = c.requires.inside in
    let room = coming_room l.invariant in
    let turn = turn_room l.invariant (l.j - 1) (omega arith) (omega arith) in
    omega arith

pub slide-requires : goal.slide-requires
slide-requires g c =
    let l = c.loop-j in
    let inside = c.requires.inside in
    let room = coming_room l.invariant in
    let turn = turn_room l.invariant (l.j - 1) (omega arith) (omega arith) in
    (omega arith, omega arith)

pub overflow_sub-own : goal.overflow_sub-own
overflow_sub-own g c =
    let l = c.loop-j in
    let inside = c.requires.inside in
    let room = coming_room l.invariant in
    let turn = turn_room l.invariant (l.j - 1) (omega arith) (omega arith) in
    omega arith

pub overflow_sub-to-in-loop-j : goal.overflow_sub-to-in-loop-j
overflow_sub-to-in-loop-j g c =
    let l = c.loop-j in
    let inside = c.requires.inside in
    let room = coming_room l.invariant in
    let turn = turn_room l.invariant (l.j - 1) (omega arith) (omega arith) in
    omega arith

pub copy_block-requires : goal.copy_block-requires
copy_block-requires g c =
    let l = c.loop-j in
    let inside = c.requires.inside in
    let room = coming_room l.invariant in
    let turn = turn_room l.invariant (l.j - 1) (omega arith) (omega arith) in
    (omega arith, omega arith)

pub loop-j-preserved : goal.loop-j-preserved
loop-j-preserved g c =
    let l = c.loop-j in
    coming_next l.invariant (l.j - 1) (omega arith) (omega arith) c.slide.new.cells c.copy_block.new.cells c.slide.ensures c.copy_block.ensures

pub overflow_mul-at : goal.overflow_mul-at
overflow_mul-at g c = let room = coming_room c.loop-j.invariant in omega arith

pub slide-requires-2 : goal.slide-requires-2
slide-requires-2 g c = let room = coming_room c.loop-j.invariant in (omega arith, omega arith)

pub returns : goal.returns
returns g c =
    let h = coming_done c.loop-j.invariant (omega arith) c.slide-2.new.cells c.slide-2.ensures in
    record { long = h.0; put = h.1; kept = h.2; below = h.3; above = h.4 }
