use Rattle.std.proofs.Common.{refl, arith}
use Rattle.edition.proofs.Filling.{column_more}
use Rattle.edition.proofs.fill_column_from.Goals as goal

pub loop-r-preserved : goal.loop-r-preserved
loop-r-preserved g c =
    column_more (g.L.Layout.grid c.args.layout.now) c.args.buffer.now c.loop-r.buffer c.write.new.buffer _
    c.args.column c.args.row c.loop-r.r c.args.v (omega arith) (λ d. refl) c.loop-r.invariant c.write.ensures
