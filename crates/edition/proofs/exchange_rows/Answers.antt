use Rattle.std.proofs.Common.{arith}
use Rattle.edition.proofs.Swapping.{swapped_more}
use Rattle.edition.proofs.exchange_rows.Goals as goal

pub swap-requires : goal.swap-requires
swap-requires g c =
    let law = g.L.Layout.lawful c.args.layout.now in
    let p = law.within c.args.i c.loop-column.column (omega arith) (omega arith) in
    let q = law.within c.args.j c.loop-column.column (omega arith) (omega arith) in
    let i = c.place-p.ensures.inside (omega arith) (omega arith) in
    let j = c.place-q.ensures.inside (omega arith) (omega arith) in
    let room = c.requires.1.0 in
    record { a_in_bounds = omega (arith, room); b_in_bounds = omega (arith, room) }

pub loop-column-preserved : goal.loop-column-preserved
loop-column-preserved g c =
    let s = c.args.layout.now in
    let e = c.swap.ensures.by_index in
    swapped_more (g.L.Layout.grid s) (g.L.Layout.lawful s).distinct _ _ _ c.args.i c.args.j (omega arith) (omega arith)
    c.loop-column.column c.place-p.result c.place-q.result (omega arith)
    (c.place-p.ensures.inside (omega arith) (omega arith)) (c.place-q.ensures.inside (omega arith) (omega arith))
    (record { long = c.swap.ensures.len; there = e.0; back = e.1; rest = e.2 }) c.loop-column.invariant
