use Rattle.std.proofs.Common.{◌-◌, ◌*◌, ◌<◌, ◌≤◌, min}
use Rattle.moves.specs.Slides.{Copied}
use Rattle.moves.proofs.Slides.{SlidFrom}
use Rattle.moves.proofs.blocks.slide_within.Given as goal

-- to the left the first parts are moved, to the right the last ones
abbrev pub invariant-loop-k : goal.invariant-loop-k
invariant-loop-k g l =
    (l.to < l.from → Copied l.initial.cells l.initial.cells l.cells l.from l.to (min (4096 * l.k) l.len))
    × (l.from ≤ l.to → SlidFrom l.initial.cells l.cells l.from l.to (min (4096 * (l.parts - l.k)) l.len) l.len)
