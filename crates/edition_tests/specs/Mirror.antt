-- A layout with its columns in the opposite order.
use Rattle.std.specs.Prelude.{◌-◌}
use Rattle.std.proofs.Common.{arith}
use Rattle.layout.specs.Lawful.{Grid, Lawful}

abbrev pub mirror : Grid → Grid
mirror grid = record { rows = grid.rows; columns = grid.columns; span = grid.span; place = λ r c. grid.place r (grid.columns - 1 - c) }

pub mirror_lawful : {grid : Grid} → Lawful grid → Lawful (mirror grid)
mirror_lawful {grid} law =
    record {
      few_rows = law.few_rows;
      few_columns = law.few_columns;
      short_span = law.short_span;
      within = λ r c p q. law.within r (grid.columns - 1 - c) p (omega arith);
      distinct = λ r c i j p q p' q' e.
          let s = law.distinct r (grid.columns - 1 - c) i (grid.columns - 1 - j) p (omega arith) p' (omega arith) e in
          (s.0, omega (arith, s.1));
    }
