use Rattle.std.proofs.Common.{◌-◌}
use Rattle.moves.specs.Slides.{Filled}
use Rattle.moves.proofs.blocks.fill_range.Given as goal

abbrev pub invariant-loop-i : goal.invariant-loop-i
invariant-loop-i g l = Filled l.initial.cells l.cells l.from (l.i - l.from) l.v
