use Rattle.sheet.proofs.Openings.{refilled_reachable}
use Rattle.sheet.proofs.sheet.Sheet.reopen.Goals as goal

pub invariant_of-self : goal.invariant_of-self
invariant_of-self g c =
    let s = c.args.layout.now in
    record {
      reachable = refilled_reachable (g.L.Layout.grid s) (g.L.Layout.lawful s) c.args.source.now c.args.self.now.parts c.refill.new.p c.refill.result
          c.args.self.now.reachable c.refill.ensures.which c.refill.ensures.state;
    }
