use Rattle.std.proofs.Common.{refl, Ok}
use Rattle.gaps.proofs.Joining.{fills}
use Rattle.gaps.proofs.filling.fill_lines.Goals as goal

pub returns : goal.returns
returns g c =
    let a = c.args in
    fills c.open_gap.new.p c.fill_gap.new.p a.side a.i a.n (Ok c.in_ok-open_gap.field-0) a.list.now a.v refl c.fill_gap.ensures a.p.now c.in_ok-open_gap.ensures
