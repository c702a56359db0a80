use Rattle.std.proofs.Common.{◌<◌, get_or}
use Rattle.layout.specs.Written.{Written, cell_of}
use Rattle.edition.specs.Selections.{spread}
use Rattle.edition.proofs.select_lines.Given as goal

abbrev pub invariant-loop-k : goal.invariant-loop-k
invariant-loop-k g l =
    Written (spread l.to (g.L.Layout.grid l.layout).columns) l.initial.target l.target (λ i c. i < l.k)
    (λ i c d. cell_of (g.L.Layout.grid l.layout) l.source (get_or l.list i 0) c d)
