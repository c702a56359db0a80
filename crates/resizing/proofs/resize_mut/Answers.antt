use Rattle.std.proofs.Common.{refl}
use Rattle.std.proofs.lemmas.Result.{err_from_is_err_and}
use Rattle.model.proofs.Resized.{resized}
use Rattle.journal.specs.View.{table_of}
use Rattle.journal.proofs.Asking.{asked_as}
use Rattle.journal.proofs.Answering.{full, accepted, right}
use Rattle.resizing.proofs.resize_mut.Goals as goal

pub returns-in_err-ask : goal.returns-in_err-ask
returns-in_err-ask g c =
    let p = c.args.p.now in
    let a = c.args in
    let q = err_from_is_err_and c.from_residual.result c.from_residual.ensures.1 in
    rw (q.1, q.2) (full p _ _ _ _ _ (resized (table_of p) a.rows a.columns a.v (right p)) _ c.requires
    (asked_as p _ a.rows a.columns 0 _ a.rows a.columns 0 _ refl refl refl c.lost_count-lost.ensures c.in_err-ask.ensures.which))

pub returns : goal.returns
returns g c =
    let p = c.args.p.now in
    let a = c.args in
    accepted p _ _ _ _ _ _ (resized (table_of p) a.rows a.columns a.v (right p)) c.reshape.ensures c.requires
    (asked_as p _ a.rows a.columns 0 _ a.rows a.columns 0 _ refl refl refl c.lost_count-lost.ensures c.in_ok-ask.ensures.which)
