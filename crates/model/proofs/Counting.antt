-- Each change in numbers: what the questions ask of it, and what it adds to the journal.
use Rattle.std.proofs.Common.{◌≡◌, ℕ, ◌+◌, ◌-◌, ◌*◌, ◌<◌, ◌≤◌, true, false, leb, List, [], ◌∷◌, ◌++◌, length, filter, refl, ap, ◌∙◌, append-nil, arith}
use Rattle.std.specs.List.{range_with_len, flat_map}
use Rattle.std.proofs.lemmas.Bool.{and_from, le-leb}
use Rattle.model.specs.Sheet.{within, row, column, Change, insert_lines, remove_lines, Table, cell_at, pairs, rows_of, columns_of}
use Rattle.model.specs.Journal.{Right, survives, one_run, runs_of, lost_of, named_in, has_column}
use Rattle.model.proofs.Lines.{keep_length, keep_stays, insert_length, insert_stays, remove_length, others_stays, gone_are, run_is}
use Rattle.model.proofs.Regions.{region, region_right, lost_rows, lost_columns}

pub record Counts {A : Type 0} (t : Table A) (ch : Change A) (m n : ℕ) (rs : List (ℕ × ℕ)) (l : ℕ) : Type 0 where
  pub named : named_in t ch ≡ true
  pub rows : length (rows_of t ch) ≡ m
  pub columns : length (columns_of t ch) ≡ n
  pub runs : runs_of t ch ≡ rs
  pub lost : length (lost_of t ch) ≡ l
  pub columned : has_column t ch ≡ true

-- where every line stays, no cell is lost
pub none_lost :
    {A : Type 0} (t : Table A) (ch : Change A)
    → ((k : ℕ) → k < t.rows → survives k (rows_of t ch) ≡ true)
    → ((l : ℕ) → l < t.columns → survives l (columns_of t ch) ≡ true)
    → lost_of t ch ≡ []
none_lost t ch hr hc =
    lost_rows t ch (λ k. false) hr hc
    ∙ ap (λ ks. flat_map (λ (q : ℕ × ℕ). cell_at t q.0 q.1) (pairs ks (range_with_len 0 t.columns))) (none (range_with_len 0 t.rows))
    ∙ no_rows (range_with_len 0 t.columns)
  where
    none : (xs : List ℕ) → filter (λ k. false) xs ≡ []
    none [] = refl
    none (x ∷ xs) = none xs

    no_rows : (ys : List ℕ) → flat_map (λ (q : ℕ × ℕ). cell_at t q.0 q.1) (pairs {X = ℕ} [] ys) ≡ []
    no_rows [] = refl
    no_rows (y ∷ ys) = no_rows ys

module _ {A : Type 0} (t : Table A) (i n : ℕ) (v : A) where
  pub rows_inserted_lost : i ≤ t.rows → lost_of t (insert_lines row i n v) ≡ []
  rows_inserted_lost there =
      none_lost t (insert_lines row i n v) (λ k h. insert_stays i n t.rows k there h) (keep_stays t.columns)

  pub columns_inserted_lost : i ≤ t.columns → lost_of t (insert_lines column i n v) ≡ []
  columns_inserted_lost there =
      none_lost t (insert_lines column i n v) (keep_stays t.rows) (λ k h. insert_stays i n t.columns k there h)

  pub rows_inserted : i ≤ t.rows → Counts t (insert_lines row i n v) (t.rows + n) t.columns [] 0
  rows_inserted there = record {
    named = and_from (leb i t.rows) true (le-leb i t.rows there) refl;
    rows = insert_length i n t.rows there;
    columns = keep_length t.columns;
    runs = refl;
    lost = ap length (rows_inserted_lost there);
    columned = refl;
  }

  pub columns_inserted : i ≤ t.columns → Counts t (insert_lines column i n v) t.rows (t.columns + n) [] 0
  columns_inserted there = record {
    named = le-leb i t.columns there;
    rows = keep_length t.rows;
    columns = insert_length i n t.columns there;
    runs = refl;
    lost = ap length (columns_inserted_lost there);
    columned = refl;
  }

module _ {A : Type 0} (t : Table A) (right : Right t) (i n : ℕ) where
  -- a removal loses the rectangle of its lines
  pub rows_removed_lost : i + n ≤ t.rows → lost_of t (remove_lines row i n) ≡ (region t i n 0 t.columns).cells
  rows_removed_lost there =
      lost_rows t (remove_lines row i n) (within i n) (others_stays (within i n) t.rows) (keep_stays t.columns)
      ∙ ap (λ ks. flat_map (λ (q : ℕ × ℕ). cell_at t q.0 q.1) (pairs ks (range_with_len 0 t.columns))) (gone_are i n t.rows there)

  pub columns_removed_lost : i + n ≤ t.columns → lost_of t (remove_lines column i n) ≡ (region t 0 t.rows i n).cells
  columns_removed_lost there =
      lost_columns t (remove_lines column i n) (within i n) (keep_stays t.rows) (others_stays (within i n) t.columns)
      ∙ ap (λ ks. flat_map (λ (q : ℕ × ℕ). cell_at t q.0 q.1) (pairs (range_with_len 0 t.rows) ks)) (gone_are i n t.columns there)

  pub rows_removed : i + n ≤ t.rows → Counts t (remove_lines row i n) (t.rows - n) t.columns (one_run i n) (n * t.columns)
  rows_removed there = record {
    named = and_from (leb (i + n) t.rows) true (le-leb (i + n) t.rows there) refl;
    rows = remove_length i n t.rows there;
    columns = keep_length t.columns;
    runs = ap (λ rs. rs ++ []) (run_is i n t.rows there) ∙ append-nil (one_run i n);
    lost = ap length (rows_removed_lost there) ∙ region_right t right i n 0 t.columns there (omega arith);
    columned = refl;
  }

  pub columns_removed : i + n ≤ t.columns → Counts t (remove_lines column i n) t.rows (t.columns - n) (one_run i n) (t.rows * n)
  columns_removed there = record {
    named = le-leb (i + n) t.columns there;
    rows = keep_length t.rows;
    columns = remove_length i n t.columns there;
    runs = run_is i n t.columns there;
    lost = ap length (columns_removed_lost there) ∙ region_right t right 0 t.rows i n (omega arith) there;
    columned = refl;
  }
