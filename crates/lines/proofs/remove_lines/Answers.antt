use Rattle.std.proofs.Common.{◌-◌, ap, arith}
use Rattle.std.proofs.lemmas.Result.{err_from_is_err_and}
use Rattle.journal.specs.View.{table_of}
use Rattle.journal.proofs.Asking.{asked_with}
use Rattle.journal.proofs.Answering.{full, accepted, right}
use Rattle.lines.proofs.Sides.{removed}
use Rattle.lines.proofs.remove_lines.Goals as goal

pub returns-in_err-ask_with : goal.returns-in_err-ask_with
returns-in_err-ask_with g c =
    let p = c.args.p.now in
    let a = c.args in
    let q = err_from_is_err_and c.from_residual.result c.from_residual.ensures.1 in
    rw (q.1, q.2) (full p _ _ _ _ _ (removed (table_of p) a.i a.n (right p) a.side (omega (arith, c.count-count.ensures))) _ c.requires
    (asked_with p a.side _ _ _ _ _ _ _ (ap (λ z. z - a.n) c.count-count.ensures) c.run_count.ensures c.cells_in-lost.ensures c.in_err-ask_with.ensures.which))

pub returns : goal.returns
returns g c =
    let p = c.args.p.now in
    let a = c.args in
    accepted p _ _ _ _ _ _ (removed (table_of p) a.i a.n (right p) a.side (omega (arith, c.count-count.ensures))) c.cut_lines.ensures c.requires
    (asked_with p a.side _ _ _ _ _ _ _ (ap (λ z. z - a.n) c.count-count.ensures) c.run_count.ensures c.cells_in-lost.ensures c.in_ok-ask_with.ensures.which)
