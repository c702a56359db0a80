use Rattle.std.proofs.Common.{◌≡◌, ◌<◌, ◌⊎◌}
use Rattle.layout.specs.Written.{Written, cell_of}
use Rattle.edition.specs.Swaps.{other}
use Rattle.edition.proofs.exchange_rows.Given as goal

abbrev pub invariant-loop-column : goal.invariant-loop-column
invariant-loop-column g l =
    Written (g.L.Layout.grid l.layout) l.initial.buffer l.buffer
    (λ r c. ((r ≡ l.i) ⊎ (r ≡ l.j)) × (c < l.column)) (λ r c d. cell_of (g.L.Layout.grid l.layout) l.initial.buffer (other l.i l.j r) c d)
