-- Lines of a side taken out of a sheet and put into it: what it leaves.
use Rattle.std.specs.Prelude.{ℕ, ◌+◌, ◌-◌, []}
use Rattle.layout.specs.declared.side.Side.{Side}
use Rattle.moves.specs.Blocks.{cells_of, columns_with, count_of, rows_with}
use Rattle.journal.specs.declared.parts.Parts.{Parts}
use Rattle.journal.specs.View.{side_of}
use Rattle.journal.specs.Answering.{Performed}
use Rattle.model.specs.Sheet.{insert_lines, remove_lines}
use Rattle.model.specs.Journal.{one_run}

abbrev pub Removed : {A : Type 0} → Parts A → Parts A → Side → (i n : ℕ) → Type 0
Removed p q side i n =
    Performed p q (remove_lines (side_of side) i n)
    (rows_with side (count_of p.table side - n) p.table.rows) (columns_with side (count_of p.table side - n) p.table.columns)
    (one_run i n) (cells_of p.table side n)

abbrev pub Inserted : {A : Type 0} → Parts A → Parts A → Side → (i n : ℕ) → A → Type 0
Inserted p q side i n v =
    Performed p q (insert_lines (side_of side) i n v)
    (rows_with side (count_of p.table side + n) p.table.rows) (columns_with side (count_of p.table side + n) p.table.columns) [] 0
