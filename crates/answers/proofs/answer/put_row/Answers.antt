use Rattle.std.proofs.Common.{◌≡◌, ◌+◌, ◌*◌, ◌++◌, ℕ, get_or, is_ok, vec_items, ap, ◌∙◌}
use Rattle.std.proofs.ResultArms.{chosen}
use Rattle.answers.proofs.Writing.{spaced_more, row_is, first, begun, not_begun}
use Rattle.answers.proofs.answer.put_row.Goals as goal
use Rattle.answers.proofs.answer.put_row.Goals.{then-columns-gt0+in_ok-put_number, else-columns-gt0}

pub loop-column-preserved : goal.loop-column-preserved
loop-column-preserved c =
    spaced_more (λ k. get_or c.args.cells.now (c.args.row + k * c.args.rows) 0) _ _ _ _ _ _ c.loop-column-test.true (c.from-in-loop-column.ensures ∙ c.cell-in-loop-column.ensures) c.in_ok-put_field.ensures c.loop-column.invariant

pub returns : goal.returns
returns c =
    let f = λ (k : ℕ). get_or c.args.cells.now (c.args.row + k * c.args.rows) 0 in
    let start : vec_items c.if-columns-gt0.out ≡ vec_items c.args.out.now ++ first f c.args.columns =
    elim c.if-columns-gt0.branch [
      | then-columns-gt0+in_ok-put_number w ↦ begun f c.args.columns _ _ _ w.if-columns-gt0.true (w.from.ensures ∙ w.cell.ensures) (ap vec_items w.out-is ∙ w.in_ok-put_number.ensures)
      | else-columns-gt0 w ↦ not_begun f c.args.columns _ _ w.if-columns-gt0.false (ap vec_items w.out-is)
    ] in
    row_is f c.args.columns c.loop-column.column _ _ _ _ c.loop-column-test.false start c.loop-column.invariant (chosen _ _ _ _ c.push.ensures.items (ap is_ok c.in_ok-push.was))
