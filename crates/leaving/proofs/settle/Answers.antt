use Rattle.std.proofs.Common.{sym, refl}
use Rattle.model.specs.Journal.{settle}
use Rattle.model.proofs.Reaching.{still_reached}
use Rattle.model.proofs.Replays.{not_done}
use Rattle.journal.specs.View.{view}
use Rattle.journal.proofs.Answering.{cleared}
use Rattle.leaving.proofs.settle.Goals as goal

pub returns : goal.returns
returns g c =
    let p = c.args.p.now in
    let st = cleared p _ c.clear.ensures in
    record {
      which = refl;
      state = st;
      same = λ k z. absurd (not_done k (sym z));
      held = still_reached (view p) _ settle st c.requires;
    }
