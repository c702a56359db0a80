-- Lines taken out and put in, on either side.
use Rattle.std.proofs.Common.{◌≡◌, ℕ, ◌+◌, ◌-◌, ◌*◌, ◌≤◌, List, [], ◌++◌, length, take}
use Rattle.layout.specs.declared.side.Side.{Side}
use Rattle.layout.specs.declared.side.Side.TheVariants.{Rows, Columns}
use Rattle.moves.specs.Blocks.{block_of, cells_in, columns_with, lines_in, rows_with}
use Rattle.moves.specs.Tables.{Compressed, Inserted, Saved}
use Rattle.model.specs.Sheet.{insert_lines, remove_lines, Table, changed}
use Rattle.model.specs.Journal.{Right, lost_of, one_run}
use Rattle.model.proofs.Counting.{Counts, rows_inserted, rows_inserted_lost, rows_removed, columns_inserted, columns_inserted_lost, columns_removed}
use Rattle.journal.specs.View.{side_of}
use Rattle.lines.proofs.Rows as rows
use Rattle.lines.proofs.Columns as columns

module _ {A : Type 0} (t : Table A) (i n : ℕ) where
  pub inserted : (s : Side) (v : A) → i ≤ lines_in s t.rows t.columns
      → Counts t (insert_lines (side_of s) i n v) (rows_with s (lines_in s t.rows t.columns + n) t.rows) (columns_with s (lines_in s t.rows t.columns + n) t.columns) [] 0
  inserted Rows v h = rows_inserted t i n v h
  inserted Columns v h = columns_inserted t i n v h

  pub inserted_lost : (s : Side) (v : A) → i ≤ lines_in s t.rows t.columns → lost_of t (insert_lines (side_of s) i n v) ≡ []
  inserted_lost Rows v h = rows_inserted_lost t i n v h
  inserted_lost Columns v h = columns_inserted_lost t i n v h

  module _ (right : Right t) where
    pub removed : (s : Side) → i + n ≤ lines_in s t.rows t.columns
        → Counts t (remove_lines (side_of s) i n) (rows_with s (lines_in s t.rows t.columns - n) t.rows) (columns_with s (lines_in s t.rows t.columns - n) t.columns) (one_run i n) (cells_in s n t.rows t.columns)
    removed Rows h = rows_removed t right i n h
    removed Columns h = columns_removed t right i n h

    module _ (xs : List A) (lies : t.cells ≡ take (t.rows * t.columns) xs) where
      pub compressed_cells : (s : Side) → i + n ≤ lines_in s t.rows t.columns → (ys : List A) → Compressed xs ys (block_of s t.rows t.columns i n)
          → take (cells_in s (lines_in s t.rows t.columns - n) t.rows t.columns) ys ≡ (changed t (remove_lines (side_of s) i n)).cells
      compressed_cells Rows h = rows.compressed_cells t right xs lies i n h
      compressed_cells Columns h = columns.compressed_cells t right xs lies i n h

      pub saved_cells : (s : Side) → i + n ≤ lines_in s t.rows t.columns → (was is : List A) → Saved xs was is (block_of s t.rows t.columns i n)
          → is ≡ was ++ lost_of t (remove_lines (side_of s) i n)
      saved_cells Rows h = rows.saved_cells t right xs lies i n h
      saved_cells Columns h = columns.saved_cells t right xs lies i n h

      pub inserted_cells : (s : Side) → i ≤ lines_in s t.rows t.columns → (v : A) (ys : List A)
          → cells_in s (lines_in s t.rows t.columns + n) t.rows t.columns ≤ length xs → Inserted xs ys (block_of s t.rows t.columns i n) v
          → take (cells_in s (lines_in s t.rows t.columns + n) t.rows t.columns) ys ≡ (changed t (insert_lines (side_of s) i n v)).cells
      inserted_cells Rows h = rows.inserted_cells t right xs lies i n h
      inserted_cells Columns h = columns.inserted_cells t right xs lies i n h
