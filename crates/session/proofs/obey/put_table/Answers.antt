use Rattle.std.proofs.Common.{ℕ, ◌++◌, vec_items, ap, ◌∙◌}
use Rattle.model.specs.Sheet.{Table}
use Rattle.session.specs.Transcript.{printed}
use Rattle.session.proofs.Printing.{one_more, none_left}
use Rattle.session.proofs.obey.put_table.Goals as goal

pub loop-r-preserved : goal.loop-r-preserved
loop-r-preserved c =
    one_more (record { rows = c.shape-rows.result.0; columns = c.shape-rows.result.1; cells = c.cells-cells.result.now }) _ _ c.loop-r.r _ c.loop-r-test.true c.in_ok-put_row.ensures c.loop-r.invariant

pub returns : goal.returns
returns c =
    let t : Table ℕ = record { rows = c.shape-rows.result.0; columns = c.shape-rows.result.1; cells = c.cells-cells.result.now } in
    let shape = c.shape-rows.ensures in
    none_left t _ _ c.loop-r.r c.loop-r-test.false c.loop-r.invariant
    ∙ ap (λ u. vec_items c.args.out.now ++ printed u) (λ i. record { rows = shape.0 i; columns = shape.1 i; cells = c.cells-cells.ensures i })
