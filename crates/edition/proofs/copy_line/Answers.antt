use Rattle.std.proofs.Common.{◌+◌, ◌*◌, refl, sym, arith}
use Rattle.edition.specs.Selections.{spread}
use Rattle.edition.proofs.Selecting.{line_more}
use Rattle.edition.proofs.copy_line.Goals as goal

pub overflow_mul-k : goal.overflow_mul-k
overflow_mul-k g c = let h = c.requires.packed.0 c.args.k c.loop-c.c (omega arith) (omega arith) in omega arith

pub overflow_mul-c : goal.overflow_mul-c
overflow_mul-c g c = let h = c.requires.packed.0 c.args.k c.loop-c.c (omega arith) (omega arith) in omega arith

pub loop-c-preserved : goal.loop-c-preserved
loop-c-preserved g c =
    let grid = g.L.Layout.grid c.args.layout.now in
    let room = c.requires.packed.0 c.args.k c.loop-c.c (omega arith) (omega arith) in
    line_more (spread c.args.to grid.columns) c.args.target.now c.loop-c.target _ c.requires.packed.1
    c.args.k c.loop-c.c (c.args.k * c.args.to.line_step + c.loop-c.c * c.args.to.cell_step) c.read.result
    (omega arith) (omega arith) refl (omega arith) (λ d. sym (c.read.ensures d)) c.loop-c.invariant
