-- A layout with rows and columns in each other's place.
use Rattle.layout.specs.Lawful.{Grid, Lawful}

abbrev pub turn : Grid → Grid
turn grid = record { rows = grid.columns; columns = grid.rows; span = grid.span; place = λ r c. grid.place c r }

pub turn_lawful : {grid : Grid} → Lawful grid → Lawful (turn grid)
turn_lawful law =
    record {
      few_rows = law.few_columns;
      few_columns = law.few_rows;
      short_span = law.short_span;
      within = λ r c p q. law.within c r q p;
      distinct = λ r c i j p q p' q' e. let s = law.distinct c r j i q p q' p' e in (s.1, s.0);
    }
