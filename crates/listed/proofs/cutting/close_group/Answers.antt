use Rattle.std.proofs.Common.{arith}
use Rattle.listed.proofs.Walks.{rising_ends}
use Rattle.listed.proofs.Blocks.{closing_room, closing_next, stretch, closed}
use Rattle.listed.proofs.cutting.close_group.Goals as goal

pub overflow_mul-len : goal.overflow_mul-len
overflow_mul-len g c =
    let a = c.args in
    let l = c.loop-run in
    let h = closing_room a.lines.width a.cells.now a.from a.lines.count c.requires.inside a.runs.now l.run-index l.at l.to (omega arith) l.invariant.rising l.invariant.back in
    omega arith

pub overflow_mul-at : goal.overflow_mul-at
overflow_mul-at g c =
    let a = c.args in
    let l = c.loop-run in
    let h = closing_room a.lines.width a.cells.now a.from a.lines.count c.requires.inside a.runs.now l.run-index l.at l.to (omega arith) l.invariant.rising l.invariant.back in
    omega arith

pub overflow_add-from : goal.overflow_add-from
overflow_add-from g c =
    let a = c.args in
    let l = c.loop-run in
    let h = closing_room a.lines.width a.cells.now a.from a.lines.count c.requires.inside a.runs.now l.run-index l.at l.to (omega arith) l.invariant.rising l.invariant.back in
    omega arith

pub overflow_add-to : goal.overflow_add-to
overflow_add-to g c =
    let a = c.args in
    let l = c.loop-run in
    let h = closing_room a.lines.width a.cells.now a.from a.lines.count c.requires.inside a.runs.now l.run-index l.at l.to (omega arith) l.invariant.rising l.invariant.back in
    omega arith

pub slide-requires : goal.slide-requires
slide-requires g c =
    let a = c.args in
    let l = c.loop-run in
    let h = closing_room a.lines.width a.cells.now a.from a.lines.count c.requires.inside a.runs.now l.run-index l.at l.to (omega arith) l.invariant.rising l.invariant.back in
    (omega arith, omega arith)

pub loop-run-preserved : goal.loop-run-preserved
loop-run-preserved g c =
    let a = c.args in
    let l = c.loop-run in
    let h = closing_next a.lines.width a.cells.now a.from a.lines.count c.requires.inside a.runs.now l.run-index l.at l.to (omega arith) l.invariant.rising l.invariant.back
    l.cells c.slide.new.cells _ l.auto.cells l.invariant.rest c.slide.ensures l.invariant.moved in
    record { rising = h.0; back = h.1; moved = h.2; rest = h.3 }

pub returns : goal.returns
returns g c =
    let a = c.args in
    let l = c.loop-run in
    let ends = rising_ends l.at a.lines.count _ l.invariant.rising in
    let reach = stretch a.lines.width a.cells.now a.from l.at a.lines.count ends c.requires.inside l.to l.invariant.back in
    let h = closed a.lines.width a.cells.now a.from a.lines.count c.requires.inside a.runs.now l.run-index l.at l.to a.top (omega arith)
    ends l.invariant.back (omega arith) l.cells c.slide-2.new.cells _ l.auto.cells (omega arith) l.invariant.rest c.slide-2.ensures l.invariant.moved in
    record { ends = (h.0, reach.1); put = h.1 }
