-- Any rectangle of a table as a table of its own, and the cells lost where rows or columns go.
use Rattle.std.proofs.Common.{◌≡◌, ℕ, ◌+◌, ◌*◌, ◌<◌, ◌≤◌, Bool, true, false, cond, not, ◌&&◌, List, [], ◌∷◌, ◌++◌, take, drop, filter, sym, refl, ap, ◌∙◌, ap₂, arith}
use Rattle.std.specs.List.{range_with_len, flat_map, AllByRecursion as All}
use Rattle.std.proofs.lemmas.List.FromFn.{length-range_with_len, get_or-range_with_len}
use Rattle.std.proofs.Math.Bool.{and-true}
use Rattle.model.specs.Sheet.{Change, Table, cell_at, pairs, rows_of, columns_of}
use Rattle.model.specs.Journal.{Right, survives, stays, lost_of}
use Rattle.model.proofs.Grids.{Single, Singles, one_column, length_grid, grid_at, single_cell, all_counting}

-- the m rows at i of the n columns at j: of a removal of rows j is 0 and n all columns, of a removal of columns i is 0 and m all rows
abbrev pub region : {A : Type 0} → Table A → ℕ → ℕ → ℕ → ℕ → Table A
region t i m j n = record {
  rows = m;
  columns = n;
  cells = flat_map (λ (q : ℕ × ℕ). cell_at t q.0 q.1) (pairs (range_with_len i m) (range_with_len j n));
}

module _ {A : Type 0} (t : Table A) (right : Right t) (i m j n : ℕ) (rows : i + m ≤ t.rows) (columns : j + n ≤ t.columns) where
  region_singles : Singles (λ (q : ℕ × ℕ). cell_at t q.0 q.1) (range_with_len i m) (range_with_len j n)
  region_singles =
      all_counting (λ l. All (λ k. Single (cell_at t k l)) (range_with_len i m)) j n (λ l a b.
      all_counting (λ k. Single (cell_at t k l)) i m (λ k c d. single_cell t right k l (omega arith) (omega arith)))

  pub region_right : Right (region t i m j n)
  region_right =
      length_grid (λ (q : ℕ × ℕ). cell_at t q.0 q.1) (range_with_len i m) (range_with_len j n) region_singles
      ∙ ap₂ ◌*◌ (length-range_with_len i m) (length-range_with_len j n)

  pub region_at : (r c : ℕ) → r < m → c < n → cell_at (region t i m j n) r c ≡ cell_at t (i + r) (j + c)
  region_at r c h k =
      let lr = length-range_with_len i m in
      let lc = length-range_with_len j n in
      ap (λ z. take 1 (drop (r + c * z) (region t i m j n).cells)) (sym lr)
      ∙ grid_at (λ (q : ℕ × ℕ). cell_at t q.0 q.1) (range_with_len i m) (range_with_len j n) r c 0 0 region_singles (omega arith) (omega arith)
      ∙ ap₂ (cell_at t) (get_or-range_with_len i m r 0 h) (get_or-range_with_len j n c 0 k)

-- the lost cells

column_lost :
    {X A : Type 0} (s gone : X → Bool) (g : X → List A) (xs : List X) → All (λ x. s x ≡ not (gone x)) xs
    → flat_map (λ x. cond (s x) [] (g x)) xs ≡ flat_map g (filter gone xs)
column_lost s gone g [] h = refl
column_lost s gone g (x ∷ xs) h =
    ap (λ b. cond b [] (g x) ++ flat_map (λ x. cond (s x) [] (g x)) xs) h.0
    ∙ go (gone x) (column_lost s gone g xs h.1)
  where
    go :
        (b : Bool) → flat_map (λ x. cond (s x) [] (g x)) xs ≡ flat_map g (filter gone xs)
        → cond (not b) [] (g x) ++ flat_map (λ x. cond (s x) [] (g x)) xs ≡ flat_map g (cond b (x ∷ filter gone xs) (filter gone xs))
    go true ih = ap (λ z. g x ++ z) ih
    go false ih = ih

pub rows_lost :
    {X Y A : Type 0} (s : X × Y → Bool) (gone : X → Bool) (g : X × Y → List A) (xs : List X) (ys : List Y)
    → All (λ y. All (λ x. s (x, y) ≡ not (gone x)) xs) ys
    → flat_map (λ q. cond (s q) [] (g q)) (pairs xs ys) ≡ flat_map g (pairs (filter gone xs) ys)
rows_lost s gone g xs [] h = refl
rows_lost s gone g xs (y ∷ ys) h =
    one_column (λ q. cond (s q) [] (g q)) xs y ys
    ∙ ap₂ ◌++◌ (column_lost (λ x. s (x, y)) gone (λ x. g (x, y)) xs h.0) (rows_lost s gone g xs ys h.1)
    ∙ sym (one_column g (filter gone xs) y ys)

-- where only rows go: the cells of those rows, column by column
pub lost_rows :
    {A : Type 0} (t : Table A) (ch : Change A) (gone : ℕ → Bool)
    → ((k : ℕ) → k < t.rows → survives k (rows_of t ch) ≡ not (gone k))
    → ((l : ℕ) → l < t.columns → survives l (columns_of t ch) ≡ true)
    → lost_of t ch ≡ flat_map (λ (q : ℕ × ℕ). cell_at t q.0 q.1) (pairs (filter gone (range_with_len 0 t.rows)) (range_with_len 0 t.columns))
lost_rows t ch gone hr hc =
    rows_lost (stays (rows_of t ch) (columns_of t ch)) gone (λ (q : ℕ × ℕ). cell_at t q.0 q.1) (range_with_len 0 t.rows) (range_with_len 0 t.columns)
    (all_counting (λ l. All (λ k. stays (rows_of t ch) (columns_of t ch) (k, l) ≡ not (gone k)) (range_with_len 0 t.rows)) 0 t.columns (λ l a b.
    all_counting (λ k. stays (rows_of t ch) (columns_of t ch) (k, l) ≡ not (gone k)) 0 t.rows (λ k c d.
    ap₂ ◌&&◌ (hr k (omega arith)) (hc l (omega arith)) ∙ and-true (not (gone k)))))

all_of : {X : Type 0} (xs : List X) → filter (λ x. true) xs ≡ xs
all_of [] = refl
all_of (x ∷ xs) = ap (λ z. x ∷ z) (all_of xs)

none_of : {X : Type 0} (xs : List X) → filter (λ x. false) xs ≡ []
none_of [] = refl
none_of (x ∷ xs) = none_of xs

columns_lost :
    {X Y A : Type 0} (s : X × Y → Bool) (gone : Y → Bool) (g : X × Y → List A) (xs : List X) (ys : List Y)
    → All (λ y. All (λ x. s (x, y) ≡ not (gone y)) xs) ys
    → flat_map (λ q. cond (s q) [] (g q)) (pairs xs ys) ≡ flat_map g (pairs xs (filter gone ys))
columns_lost s gone g xs [] h = refl
columns_lost s gone g xs (y ∷ ys) h =
    one_column (λ q. cond (s q) [] (g q)) xs y ys
    ∙ ap₂ ◌++◌ (column_lost (λ x. s (x, y)) (λ x. gone y) (λ x. g (x, y)) xs h.0) (columns_lost s gone g xs ys h.1)
    ∙ go (gone y)
  where
    go : (b : Bool) → flat_map (λ x. g (x, y)) (filter (λ x. b) xs) ++ flat_map g (pairs xs (filter gone ys)) ≡ flat_map g (pairs xs (cond b (y ∷ filter gone ys) (filter gone ys)))
    go true = ap (λ z. flat_map (λ x. g (x, y)) z ++ flat_map g (pairs xs (filter gone ys))) (all_of xs) ∙ sym (one_column g xs y (filter gone ys))
    go false = ap (λ z. flat_map (λ x. g (x, y)) z ++ flat_map g (pairs xs (filter gone ys))) (none_of xs)

-- where only columns go
pub lost_columns :
    {A : Type 0} (t : Table A) (ch : Change A) (gone : ℕ → Bool)
    → ((k : ℕ) → k < t.rows → survives k (rows_of t ch) ≡ true)
    → ((l : ℕ) → l < t.columns → survives l (columns_of t ch) ≡ not (gone l))
    → lost_of t ch ≡ flat_map (λ (q : ℕ × ℕ). cell_at t q.0 q.1) (pairs (range_with_len 0 t.rows) (filter gone (range_with_len 0 t.columns)))
lost_columns t ch gone hr hc =
    columns_lost (stays (rows_of t ch) (columns_of t ch)) gone (λ (q : ℕ × ℕ). cell_at t q.0 q.1) (range_with_len 0 t.rows) (range_with_len 0 t.columns)
    (all_counting (λ l. All (λ k. stays (rows_of t ch) (columns_of t ch) (k, l) ≡ not (gone l)) (range_with_len 0 t.rows)) 0 t.columns (λ l a b.
    all_counting (λ k. stays (rows_of t ch) (columns_of t ch) (k, l) ≡ not (gone l)) 0 t.rows (λ k c d.
    ap₂ ◌&&◌ (hr k (omega arith)) (hc l (omega arith)))))
