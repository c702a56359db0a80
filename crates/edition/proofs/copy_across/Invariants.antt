use Rattle.std.proofs.Common.{◌≡◌, ◌+◌, ◌<◌, ◌≤◌}
use Rattle.layout.specs.Written.{Written, cell_of}
use Rattle.edition.proofs.copy_across.Given as goal

abbrev pub invariant-loop-r : goal.invariant-loop-r
invariant-loop-r g l =
    Written (g.L.Layout.grid l.layout) l.initial.buffer l.buffer (λ r c. (c ≡ l.column) × (l.column + 1 ≤ r) × (r < l.r))
    (λ r c d. cell_of (g.L.Layout.grid l.layout) l.initial.buffer c r d)
