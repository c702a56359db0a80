use Rattle.std.proofs.Common.{◌+◌, refl, ap, arith}
use Rattle.journal.proofs.Asking.{asked_with}
use Rattle.gaps.proofs.Questions.{asked_rooms}
use Rattle.gaps.proofs.opening.ask_gap.Goals as goal

pub returns-clause-which : goal.returns-clause-which
returns-clause-which g c =
    let p = c.args.p.now in
    let a = c.args in
    asked_rooms p a.i a.n a.side c.ask_with.result (omega (arith, c.count-count.ensures))
    (asked_with p a.side _ _ _ _ _ _ _ (ap (λ z. z + a.n) c.count-count.ensures) refl refl c.ask_with.ensures.which)
