use Rattle.std.proofs.Common.{length, take, refl, ap, ◌∙◌}
use Rattle.std.proofs.Math.Nat.{min_comm}
use Rattle.std.proofs.lemmas.List.{take_min}
use Rattle.session.proofs.state.Lines.new.Goals as goal

pub returns : goal.returns
returns c = (ap (λ n. take n c.args.script.now) (c.min.ensures ∙ min_comm (length c.args.script.now) 65536) ∙ take_min 65536 c.args.script.now, refl)
