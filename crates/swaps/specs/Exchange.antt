-- Two lines of a side.
use Rattle.std.specs.Prelude.{ℕ, List}
use Rattle.layout.specs.Lawful.{Grid}
use Rattle.layout.specs.declared.side.Side.{Side}
use Rattle.layout.specs.declared.side.Side.TheVariants.{Rows, Columns}
use Rattle.edition.specs.Swaps.{ColumnsSwapped, RowsSwapped}

-- lines i and j of the side have changed places
abbrev pub Swapped : {T : Type 0} → Side → Grid → (was is : List T) → (i j : ℕ) → Type 0
Swapped Rows grid was is i j = RowsSwapped grid was is i j
Swapped Columns grid was is i j = ColumnsSwapped grid was is i j
