use Rattle.std.proofs.Common.{◌∙◌}
use Rattle.layout.specs.declared.side.Side.TheVariants.{Rows}
use Rattle.sheet.proofs.Gapping.{gap_filled}
use Rattle.gap_uses.proofs.put_listed_rows.Goals as goal

pub returns : goal.returns
returns g c =
    let opened = c.open_gap-gap.ensures in
    let a = gap_filled c.args.sheet.parts _ c.fill.result.parts Rows _ c.args.i c.args.n _ _ _ c.args.list.now c.args.v opened.gap opened.place c.fill.ensures in
    record { state = a.state; same = λ k e. a.same k (a.which ∙ e) }
