-- Lines of a table selected by a list.
use Rattle.std.specs.Prelude.{ℕ, ◌+◌, ◌*◌, ◌<◌, List, ◌∷◌, length, slice_index}
use Rattle.layout.specs.declared.refusal.Refusal.{Refusal}
use Rattle.layout.specs.Cells.{clone_rules}
use Rattle.layout.specs.Checks.{Rule, ◌else◌, few_lines}
use Rattle.layout.specs.Lawful.{Grid, Distinct, selected_rows}
use Rattle.layout.specs.Picked.{Below}
use Rattle.layout.specs.Written.{Written, cell_of}
use Rattle.edition.specs.declared.Lines.{Lines}

-- what selecting rows asks, of a source and of a target of so many places
abbrev pub select_rules : Grid → List ℕ → (source target : ℕ) → List Rule
select_rules grid list source target =
    (Below list grid.rows else Refusal.NoSuchLine)
    ∷ few_lines (length list) grid.columns
    ∷ clone_rules (selected_rows grid list) source target

-- the listed columns of a table, in the list's order
abbrev pub selected_columns : Grid → List ℕ → Grid
selected_columns grid list =
    record { rows = grid.rows; columns = length list; span = grid.span; place = λ r k. grid.place r (slice_index list k) }

-- lines of so many cells in a buffer, by where each begins and how far apart its cells are
abbrev pub spread : Lines → ℕ → Grid
spread to cells =
    record { rows = to.count; columns = cells; span = to.count * cells; place = λ k c. k * to.line_step + c * to.cell_step }

-- each cell's place lies below the span, and no two cells are at one place
abbrev pub Packed : Grid → Type 0
Packed grid = ((r c : ℕ) → r < grid.rows → c < grid.columns → grid.place r c < grid.span) × Distinct grid

-- the listed rows of the table that the grid has in xs are written as lines of `is`
abbrev pub Selected : {T : Type 0} → Grid → List ℕ → Lines → (xs was is : List T) → Type 0
Selected grid list to xs was is =
    Written (spread to grid.columns) was is (λ k c. k < length list) (λ k c d. cell_of grid xs (slice_index list k) c d)
