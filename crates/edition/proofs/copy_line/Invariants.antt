use Rattle.std.proofs.Common.{◌≡◌, ◌<◌}
use Rattle.layout.specs.Written.{Written, cell_of}
use Rattle.edition.specs.Selections.{spread}
use Rattle.edition.proofs.copy_line.Given as goal

abbrev pub invariant-loop-c : goal.invariant-loop-c
invariant-loop-c g l =
    Written (spread l.to (g.L.Layout.grid l.layout).columns) l.initial.target l.target (λ i c. (i ≡ l.k) × (c < l.c))
    (λ i c d. cell_of (g.L.Layout.grid l.layout) l.source l.line c d)
