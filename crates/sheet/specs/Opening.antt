-- Opening a sheet, and reading a cell.
use Rattle.std.specs.Prelude.{◌≡◌, ℕ, ◌<◌, ◌≤◌, List, [], ◌∷◌, length, take, drop, Some, None, Option}
use Rattle.std.specs.List.{flat_map}
use Rattle.layout.specs.declared.refusal.Refusal.{Refusal}
use Rattle.layout.specs.Lawful.{Grid}
use Rattle.layout.specs.Cells.{clone_rules}
use Rattle.layout.specs.Checks.{Rule, ◌else◌, few_lines}
use Rattle.model.specs.Sheet.{Table, cell_at}
use Rattle.model.specs.Journal.{Room, places}

-- the table that a layout has in a buffer, column by column
abbrev pub table_in : {A : Type 0} → Grid → List A → Table A
table_in grid xs = record {
  rows = grid.rows;
  columns = grid.columns;
  cells = flat_map (λ (q : ℕ × ℕ). take 1 (drop (grid.place q.0 q.1) xs)) (places grid.rows grid.columns);
}

abbrev pub no_table : {A : Type 0} → Table A
no_table = record { rows = 0; columns = 0; cells = [] }

-- the room in buffers of these lengths
abbrev pub room : (cells entries runs saved : ℕ) → Room
room cells entries runs saved = record { for_cells = cells; for_entries = entries; for_runs = runs; for_saved = saved }

-- the room in these buffers
abbrev pub room_in : {A E R : Type 0} → List A → List E → List R → List A → Room
room_in cells entries runs saved = room (length cells) (length entries) (length runs) (length saved)

-- what opening asks: of the buffers, of the shape, of the cells, and of the source, which has so many cells
abbrev pub opening_rules : Grid → ℕ → Room → List Rule
opening_rules grid source r =
    (((r.for_cells ≤ 65536) × (r.for_entries ≤ 4096) × (r.for_runs ≤ 32768) × (r.for_saved ≤ 65536)) else Refusal.BufferTooLarge)
    ∷ few_lines grid.rows grid.columns
    ∷ clone_rules grid source r.for_cells

-- the cell if it is in the shape, else nothing
abbrev pub Read : {A : Type 0} → Table A → ℕ → ℕ → Option A → Type 0
Read t row column (Some x) = (row < t.rows) × (column < t.columns) × (cell_at t row column ≡ x ∷ [])
Read t row column None = (row < t.rows) × (column < t.columns) → ⊥
