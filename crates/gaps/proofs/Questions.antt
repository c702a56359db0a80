-- The answer to the questions of a gap.
use Rattle.std.proofs.Common.{◌≡◌, ℕ, ◌+◌, ◌≤◌, List, [], Result, ◌∙◌}
use Rattle.layout.specs.declared.refusal.Refusal.{Refusal}
use Rattle.layout.specs.declared.side.Side.{Side}
use Rattle.layout.specs.declared.side.Side.TheVariants.{Rows, Columns}
use Rattle.moves.specs.Blocks.{columns_with, lines_in, rows_with}
use Rattle.model.specs.Sheet.{fill_lines, Table}
use Rattle.model.specs.Journal.{first_no, lost_of, rooms}
use Rattle.model.proofs.Counting.{Counts}
use Rattle.model.proofs.Gaps.{row_gap, row_gap_lost, column_gap, column_gap_lost}
use Rattle.journal.specs.declared.parts.Parts.{Parts}
use Rattle.journal.specs.View.{answered, side_of, table_of, view}
use Rattle.journal.proofs.Asking.{verdict_is}
use Rattle.gaps.specs.Gaps.{Asked}

module _ {A : Type 0} (t : Table A) (i n : ℕ) (vs : List A) (v : A) where
  pub gap_lost : (s : Side) → i ≤ lines_in s t.rows t.columns → lost_of t (fill_lines (side_of s) i n vs v) ≡ []
  gap_lost Rows h = row_gap_lost t i n vs v h
  gap_lost Columns h = column_gap_lost t i n vs v h

  pub gap_counts : (s : Side) → i ≤ lines_in s t.rows t.columns
      → Counts t (fill_lines (side_of s) i n vs v) (rows_with s (lines_in s t.rows t.columns + n) t.rows) (columns_with s (lines_in s t.rows t.columns + n) t.columns) [] 0
  gap_counts Rows h = row_gap t i n vs v h
  gap_counts Columns h = column_gap t i n vs v h

module _ {A : Type 0} (p : Parts A) (i n : ℕ) where
  -- questions 3 to 7, asked of a gap that has a place
  pub asked_rooms :
      (s : Side) (r : Result Unit Refusal) → i ≤ lines_in s p.table.rows p.table.columns
      → answered r ≡ first_no (rooms (view p) (rows_with s (lines_in s p.table.rows p.table.columns + n) p.table.rows) (columns_with s (lines_in s p.table.rows p.table.columns + n) p.table.columns) 0 0)
      → Asked p s i n r
  asked_rooms s r there e vs v = e ∙ verdict_is (view p) (fill_lines (side_of s) i n vs v) _ _ [] 0 (gap_counts (table_of p) i n vs v s there)
