use Rattle.listed.proofs.Returns.{Regrouped}
use Rattle.listed.proofs.putting.open_runs.Given as goal

-- the groups from g on are put together again
abbrev pub invariant-loop-g : goal.invariant-loop-g
invariant-loop-g g l = Regrouped l.initial.cells l.saved l.lines l.runs l.lost l.left l.cells l.g
