use Rattle.listed.proofs.Returns.{Coming}
use Rattle.listed.proofs.putting.open_group.Given as goal

-- the lines from `at` on stand where they are to stand
abbrev pub invariant-loop-j : goal.invariant-loop-j
invariant-loop-j g l = Coming l.initial.cells l.saved l.first l.top l.lines.width l.lines.count l.runs l.cells l.j l.at l.from l.to l.own
