use Rattle.std.proofs.Common.{refl}
use Rattle.session.proofs.Plain.{new_opened}
use Rattle.session.proofs.state.Session.open_new.Goals as goal

pub returns : goal.returns
returns c =
    let few = c.in_ok-dense.ensures.answer in
    let made = c.in_ok-dense.ensures.made in
    let asked = c.in_ok-reopen.ensures in
    new_opened c.args.self.now _ c.args.rows c.args.columns c.args.value c.in_ok-dense.dense.rows c.in_ok-dense.dense.columns few made.0 made.1 refl asked.which asked.state
