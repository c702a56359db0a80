-- The removal of listed lines in numbers: its runs, what it leaves, what it loses.
use Rattle.std.proofs.Common.{◌≡◌, ℕ, zero, suc, ◌+◌, ◌-◌, ◌*◌, ◌<◌, ◌≤◌, Bool, true, false, cond, not, List, [], ◌∷◌, ◌++◌, map, length, filter, sym, refl, ap, ◌∙◌, ap₂, append-nil, arith}
use Rattle.std.specs.List.{range_with_len, flat_map, AllByRecursion as All}
use Rattle.std.proofs.lemmas.List.{length-map}
use Rattle.std.proofs.lemmas.List.FromFn.{length-range_with_len}
use Rattle.std.proofs.ByRecursion.{all_kept_by}
use Rattle.model.specs.Sheet.{old, listed, row, column, Change, remove_listed, Table, cell_at, cell_of, pairs, rows_of, columns_of, changed}
use Rattle.model.specs.Journal.{Right, begun, runs_from, lines_of, runs_of, lost_of, named_in, has_column}
use Rattle.model.proofs.Grids.{Single, one_column, length_grid, single_cell, all_counting}
use Rattle.std.proofs.lemmas.List.Folds.{flat_map-map}
use Rattle.model.proofs.Edits.{lines_runs}
use Rattle.model.proofs.Lines.{keep_length, keep_stays, others_stays}
use Rattle.model.proofs.Regions.{lost_rows, lost_columns}
use Rattle.model.proofs.Counting.{Counts}

-- runs of the lines that pass

pub runs_same : (p q : ℕ → Bool) (n a : ℕ) → ((k : ℕ) → a ≤ k → k < a + n → p k ≡ q k) → runs_from p a n ≡ runs_from q a n
runs_same p q zero a h = refl
runs_same p q (suc n) a h =
    ap₂ (λ b zs. cond b (begun a zs) zs) (h a (omega arith) (omega arith)) (runs_same p q n (a + 1) (λ k l m. h k (omega arith) (omega arith)))

-- each line passes or not
kept_or_not : (p : ℕ → Bool) (xs : List ℕ) → length (filter (λ k. not (p k)) xs) + length (filter p xs) ≡ length xs
kept_or_not p [] = refl
kept_or_not p (x ∷ xs) = go (p x) (kept_or_not p xs)
  where
    go :
        (b : Bool) → length (filter (λ k. not (p k)) xs) + length (filter p xs) ≡ length xs
        → length (cond (not b) (x ∷ filter (λ k. not (p k)) xs) (filter (λ k. not (p k)) xs)) + length (cond b (x ∷ filter p xs) (filter p xs))
        ≡ suc (length xs)
    go true ih = omega arith
    go false ih = omega arith

-- how many of m lines go
abbrev pub goes : List ℕ → ℕ → ℕ
goes ks m = length (lines_of (runs_from (listed ks) 0 m))

-- the lines of m that go, and those that stay
abbrev pub gone : List ℕ → ℕ → List ℕ
gone ks m = filter (listed ks) (range_with_len 0 m)

abbrev pub kept : List ℕ → ℕ → List ℕ
kept ks m = filter (λ k. not (listed ks k)) (range_with_len 0 m)

gone_count : (ks : List ℕ) (m : ℕ) → length (gone ks m) ≡ goes ks m
gone_count ks m = ap length (sym (lines_runs (listed ks) 0 m))

kept_count : (ks : List ℕ) (m : ℕ) → length (map old (kept ks m)) ≡ m - goes ks m
kept_count ks m =
    let e = kept_or_not (listed ks) (range_with_len 0 m) in
    let f = gone_count ks m in
    let g = length-range_with_len 0 m in
    length-map (kept ks m) old ∙ omega arith

pub goes_few : (ks : List ℕ) (m : ℕ) → goes ks m ≤ m
goes_few ks m =
    let e = kept_or_not (listed ks) (range_with_len 0 m) in
    let f = gone_count ks m in
    let g = length-range_with_len 0 m in
    omega arith

-- the cells of some rows and columns
abbrev pub selected : {A : Type 0} → Table A → List ℕ → List ℕ → List A
selected t ks ls = flat_map (λ (q : ℕ × ℕ). cell_at t q.0 q.1) (pairs ks ls)

selected_old :
    {A : Type 0} (t : Table A) (ch : Change A) (ks ls : List ℕ)
    → flat_map (λ q. cell_of t ch q.0 q.1) (pairs (map old ks) (map old ls)) ≡ selected t ks ls
selected_old t ch ks [] = refl
selected_old t ch ks (l ∷ ls) =
    one_column (λ q. cell_of t ch q.0 q.1) (map old ks) (old l) (map old ls)
    ∙ ap₂ ◌++◌ (flat_map-map (λ x. cell_of t ch x (old l)) old ks) (selected_old t ch ks ls)
    ∙ sym (one_column (λ (q : ℕ × ℕ). cell_at t q.0 q.1) ks l ls)

pub all_below_lem : (p : ℕ → Bool) (m : ℕ) (P : ℕ → Type 0) → ((k : ℕ) → k < m → P k) → All P (filter p (range_with_len 0 m))
all_below_lem p m P h = all_kept_by p P (range_with_len 0 m) (all_counting P 0 m (λ k a b. h k (omega arith)))

-- the counts of a change, all but whether a column is there
pub record Numbers {A : Type 0} (t : Table A) (ch : Change A) (m n : ℕ) (rs : List (ℕ × ℕ)) (l : ℕ) : Type 0 where
  pub named : named_in t ch ≡ true
  pub rows : length (rows_of t ch) ≡ m
  pub columns : length (columns_of t ch) ≡ n
  pub runs : runs_of t ch ≡ rs
  pub lost : length (lost_of t ch) ≡ l

pub counted : {A : Type 0} (t : Table A) (ch : Change A) (m n : ℕ) (rs : List (ℕ × ℕ)) (l : ℕ) → Numbers t ch m n rs l → has_column t ch ≡ true → Counts t ch m n rs l
counted t ch m n rs l h e = record { named = h.named; rows = h.rows; columns = h.columns; runs = h.runs; lost = h.lost; columned = e }

module _ {A : Type 0} (t : Table A) (ks : List ℕ) where
  pub rows_listed_cells : (changed t (remove_listed row ks)).cells ≡ selected t (kept ks t.rows) (range_with_len 0 t.columns)
  rows_listed_cells = selected_old t (remove_listed row ks) (kept ks t.rows) (range_with_len 0 t.columns)

  pub rows_listed_lost : lost_of t (remove_listed row ks) ≡ selected t (gone ks t.rows) (range_with_len 0 t.columns)
  rows_listed_lost = lost_rows t (remove_listed row ks) (listed ks) (others_stays (listed ks) t.rows) (keep_stays t.columns)

  pub columns_listed_cells : (changed t (remove_listed column ks)).cells ≡ selected t (range_with_len 0 t.rows) (kept ks t.columns)
  columns_listed_cells = selected_old t (remove_listed column ks) (range_with_len 0 t.rows) (kept ks t.columns)

  pub columns_listed_lost : lost_of t (remove_listed column ks) ≡ selected t (range_with_len 0 t.rows) (gone ks t.columns)
  columns_listed_lost = lost_columns t (remove_listed column ks) (listed ks) (keep_stays t.rows) (others_stays (listed ks) t.columns)

  module _ (right : Right t) where
    pub rows_listed : Numbers t (remove_listed row ks) (t.rows - goes ks t.rows) t.columns (runs_from (listed ks) 0 t.rows) (goes ks t.rows * t.columns)
    rows_listed = record {
      named = refl;
      rows = kept_count ks t.rows;
      columns = keep_length t.columns;
      runs = append-nil (runs_from (listed ks) 0 t.rows);
      lost =
          ap length rows_listed_lost
          ∙ length_grid (λ (q : ℕ × ℕ). cell_at t q.0 q.1) (gone ks t.rows) (range_with_len 0 t.columns)
          (all_counting (λ l. All (λ k. Single (cell_at t k l)) (gone ks t.rows)) 0 t.columns (λ l a b.
          all_below_lem (listed ks) t.rows (λ k. Single (cell_at t k l)) (λ k h. single_cell t right k l h (omega arith))))
          ∙ ap₂ ◌*◌ (gone_count ks t.rows) (length-range_with_len 0 t.columns);
    }

    pub columns_listed : Counts t (remove_listed column ks) t.rows (t.columns - goes ks t.columns) (runs_from (listed ks) 0 t.columns) (t.rows * goes ks t.columns)
    columns_listed = record {
      named = refl;
      rows = keep_length t.rows;
      columns = kept_count ks t.columns;
      runs = refl;
      lost =
          ap length columns_listed_lost
          ∙ length_grid (λ (q : ℕ × ℕ). cell_at t q.0 q.1) (range_with_len 0 t.rows) (gone ks t.columns)
          (all_below_lem (listed ks) t.columns (λ l. All (λ k. Single (cell_at t k l)) (range_with_len 0 t.rows)) (λ l h.
          all_counting (λ k. Single (cell_at t k l)) 0 t.rows (λ k a b. single_cell t right k l (omega arith) h)))
          ∙ ap₂ ◌*◌ (length-range_with_len 0 t.rows) (gone_count ks t.columns);
      columned = refl;
    }
