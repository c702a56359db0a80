use Rattle.std.proofs.Common.{◌+◌, arith}
use Rattle.edition.proofs.Filling.{columns_more}
use Rattle.edition.proofs.fill_lower_triangle_with_upper_triangle.Goals as goal

pub loop-c-preserved : goal.loop-c-preserved
loop-c-preserved g c =
    columns_more (g.L.Layout.grid c.args.layout.now) c.args.buffer.now c.loop-c.buffer c.copy_across.new.buffer _
    (λ z. z + 1) c.loop-c.c (c.loop-c.c + 1) _ (λ r h. (λ k. k, λ k. k)) c.loop-c.invariant c.copy_across.ensures
    (λ r k d p q h. c.loop-c.invariant.kept k r d (omega (arith, h.0)) (omega arith) (λ z. omega (arith, z.0, z.1, h.0, h.1)))
