use Rattle.std.proofs.Common.{◌+◌, sym, ◌∙◌, arith}
use Rattle.edition.proofs.Filling.{column_more}
use Rattle.edition.proofs.copy_across.Goals as goal

pub loop-r-preserved : goal.loop-r-preserved
loop-r-preserved g c =
    column_more (g.L.Layout.grid c.args.layout.now) c.args.buffer.now c.loop-r.buffer c.write.new.buffer _
    c.args.column (c.args.column + 1) c.loop-r.r c.read-across.result (omega arith)
    (λ d. sym (c.read-across.ensures d) ∙ c.loop-r.invariant.kept c.args.column c.loop-r.r d (omega arith) (omega arith) (λ z. omega (arith, z.0)))
    c.loop-r.invariant c.write.ensures
