use Rattle.journal.specs.View.{view}
use Rattle.calls.proofs.Runs.{Turn}
use Rattle.calls.proofs.playing.perform_all.Given as goal

abbrev pub invariant-loop-k : goal.invariant-loop-k
invariant-loop-k g l = Turn (view l.fn.p) l.call-items l.fn.answers l.answers l.p l.k
