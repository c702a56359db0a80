use Rattle.std.proofs.Common.{arith}
use Rattle.std.proofs.lemmas.Result.{err_from_is_err_and}
use Rattle.journal.specs.View.{table_of}
use Rattle.journal.proofs.Answering.{full, accepted}
use Rattle.swaps.proofs.Exchanging.{counts}
use Rattle.swaps.proofs.swap.Goals as goal

pub returns-in_err-ask : goal.returns-in_err-ask
returns-in_err-ask g c =
    let p = c.args.p.now in
    let a = c.args in
    let q = err_from_is_err_and c.from_residual.result c.from_residual.ensures.1 in
    rw (q.1, q.2) (full p _ _ _ _ _ (counts a.side (table_of p) a.i a.j (omega arith) (omega arith)) _ c.requires c.in_err-ask.ensures.which)

pub returns : goal.returns
returns g c =
    let p = c.args.p.now in
    let a = c.args in
    accepted p _ _ _ _ _ _ (counts a.side (table_of p) a.i a.j (omega arith) (omega arith)) c.exchange.ensures c.requires c.in_ok-ask.ensures.which
