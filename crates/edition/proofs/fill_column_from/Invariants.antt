use Rattle.std.proofs.Common.{◌≡◌, ◌<◌, ◌≤◌}
use Rattle.layout.specs.Written.{Written}
use Rattle.edition.proofs.fill_column_from.Given as goal

abbrev pub invariant-loop-r : goal.invariant-loop-r
invariant-loop-r g l =
    Written (g.L.Layout.grid l.layout) l.initial.buffer l.buffer (λ r c. (c ≡ l.column) × (l.row ≤ r) × (r < l.r)) (λ r c d. l.v)
