-- A filled gap in numbers: those of an insertion.
use Rattle.std.proofs.Common.{◌≡◌, ℕ, ◌+◌, ◌≤◌, true, leb, List, [], length, refl, ap}
use Rattle.std.proofs.lemmas.Bool.{and_from, le-leb}
use Rattle.model.specs.Sheet.{row, column, fill_lines, Table}
use Rattle.model.specs.Journal.{lost_of}
use Rattle.model.proofs.Lines.{keep_length, keep_stays, insert_length, insert_stays}
use Rattle.model.proofs.Counting.{Counts, none_lost}

module _ {A : Type 0} (t : Table A) (i n : ℕ) (vs : List A) (v : A) where
  pub row_gap_lost : i ≤ t.rows → lost_of t (fill_lines row i n vs v) ≡ []
  row_gap_lost there =
      none_lost t (fill_lines row i n vs v) (λ k h. insert_stays i n t.rows k there h) (keep_stays t.columns)

  pub column_gap_lost : i ≤ t.columns → lost_of t (fill_lines column i n vs v) ≡ []
  column_gap_lost there =
      none_lost t (fill_lines column i n vs v) (keep_stays t.rows) (λ k h. insert_stays i n t.columns k there h)

  pub row_gap : i ≤ t.rows → Counts t (fill_lines row i n vs v) (t.rows + n) t.columns [] 0
  row_gap there = record {
    named = and_from (leb i t.rows) true (le-leb i t.rows there) refl;
    rows = insert_length i n t.rows there;
    columns = keep_length t.columns;
    runs = refl;
    lost = ap length (row_gap_lost there);
    columned = refl;
  }

  pub column_gap : i ≤ t.columns → Counts t (fill_lines column i n vs v) t.rows (t.columns + n) [] 0
  column_gap there = record {
    named = le-leb i t.columns there;
    rows = keep_length t.rows;
    columns = insert_length i n t.columns there;
    runs = refl;
    lost = ap length (column_gap_lost there);
    columned = refl;
  }
