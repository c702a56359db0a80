use Rattle.std.proofs.Common.{◌+◌, refl, arith}
use Rattle.edition.proofs.Filling.{columns_more}
use Rattle.edition.proofs.fill_lower_triangle.Goals as goal

pub loop-c-preserved : goal.loop-c-preserved
loop-c-preserved g c =
    let s = c.args.layout.now in
    let few = (g.L.Layout.lawful s).few_rows in
    columns_more (g.L.Layout.grid s) c.args.buffer.now c.loop-c.buffer c.fill_column_from.new.buffer _
    (λ z. z + c.args.s) c.loop-c.c c.saturating_add.result _
    (λ r h. (λ k. omega arith, λ k. omega arith)) c.loop-c.invariant c.fill_column_from.ensures (λ r k d p q h. refl)
