use Rattle.std.proofs.Common.{◌+◌, ◌<◌, ◌≤◌}
use Rattle.layout.specs.Written.{Written, cell_of}
use Rattle.edition.proofs.fill_lower_triangle_with_upper_triangle.Given as goal

abbrev pub invariant-loop-c : goal.invariant-loop-c
invariant-loop-c g l =
    Written (g.L.Layout.grid l.layout) l.initial.buffer l.buffer (λ r c. (c < l.c) × (c + 1 ≤ r))
    (λ r c d. cell_of (g.L.Layout.grid l.layout) l.initial.buffer c r d)
