-- Listed lines taken out, from runs of cells to the model's tables.
use Rattle.std.proofs.Common.{◌≡◌, ℕ, zero, suc, ◌+◌, ◌-◌, ◌*◌, ◌<◌, Bool, true, false, cond, not, eqb, List, [], ◌∷◌, ◌++◌, take, drop, filter, sym, refl, ap, ◌∙◌, ap₂, append-nil, suc-mul, add-mul, one-mul, zero-mul, mul-one, arith}
use Rattle.std.specs.List.{range_with_len, flat_map}
use Rattle.std.proofs.lemmas.List.{drop-drop}
use Rattle.std.proofs.lemmas.Bool.{eqb-true}
use Rattle.model.specs.Sheet.{listed, remove_listed, Table, cell_at, changed}
use Rattle.model.specs.Journal.{begun, runs_from, lines_of, lost_of}
use Rattle.model.proofs.Grids.{one_column, take_then, all_counting}
use Rattle.std.proofs.lemmas.List.Concat.{flat_map-append}
use Rattle.model.proofs.Edits.{lines_runs}
use Rattle.model.proofs.Joins.{cell_of_lem, joined_same}
use Rattle.model.proofs.Listed.{selected, kept, all_below_lem, rows_listed_cells, rows_listed_lost, columns_listed_cells, columns_listed_lost}
use Rattle.listed.specs.Runs.{Rising}
use Rattle.layout.specs.declared.side.Side.{Side}
use Rattle.layout.specs.declared.side.Side.TheVariants.{Rows, Columns}
use Rattle.moves.specs.Blocks.{lines_in}
use Rattle.journal.specs.View.{side_of}
use Rattle.listed.specs.Cuts.{between, lines_of_side, taken, taken_of}
use Rattle.listed.proofs.Walks.{runs_rising}

-- what lies between the runs are the lines that do not pass

wider : (a e : ℕ) (rs : List (ℕ × ℕ)) → Rising (a + 1) rs e → lines_of (between a rs e) ≡ a ∷ lines_of (between (a + 1) rs e)
wider a e [] s = ap (λ n. range_with_len a n ++ []) (let f : e - a ≡ suc (e - (a + 1)) = omega arith in f)
wider a e (r ∷ rs) s =
    let h = s.0 in
    ap (λ n. range_with_len a n ++ lines_of (between (r.0 + r.1) rs e)) (let f : r.0 - a ≡ suc (r.0 - (a + 1)) = omega arith in f)

begun_between : (a e : ℕ) (rs : List (ℕ × ℕ)) → lines_of (between a (begun a rs) e) ≡ lines_of (between (a + 1) rs e)
begun_between a e [] = ap (λ n. range_with_len a n ++ lines_of (between (a + 1) [] e)) (let f : a - a ≡ 0 = omega arith in f)
begun_between a e (r ∷ rs) = go (eqb r.0 (suc a)) refl
  where
    go : (b : Bool) → eqb r.0 (suc a) ≡ b → lines_of (between a (cond b ((a, suc r.1) ∷ rs) ((a, 1) ∷ r ∷ rs)) e) ≡ lines_of (between (a + 1) (r ∷ rs) e)
    go true f =
        let g = eqb-true r.0 (suc a) f in
        ap₂ (λ n k. range_with_len a n ++ lines_of (between k rs e)) (let z : a - a ≡ 0 = omega arith in z) (let z : a + suc r.1 ≡ r.0 + r.1 = omega arith in z)
        ∙ ap (λ n. range_with_len (a + 1) n ++ lines_of (between (r.0 + r.1) rs e)) (let z : 0 ≡ r.0 - (a + 1) = omega arith in z)
    go false f = ap (λ n. range_with_len a n ++ lines_of (between (a + 1) (r ∷ rs) e)) (let z : a - a ≡ 0 = omega arith in z)

between_lines : (p : ℕ → Bool) (n a : ℕ) → lines_of (between a (runs_from p a n) (a + n)) ≡ filter (λ k. not (p k)) (range_with_len a n)
between_lines p zero a = ap (λ n. range_with_len a n ++ []) (let f : a + 0 - a ≡ 0 = omega arith in f)
between_lines p (suc n) a =
    let e : a + suc n ≡ a + 1 + n = omega arith in
    let rs = runs_from p (a + 1) n in
    ap (λ k. lines_of (between a (cond (p a) (begun a rs) rs) k)) e ∙ go (p a) (between_lines p n (a + 1))
  where
    go :
        (b : Bool) → lines_of (between (a + 1) (runs_from p (a + 1) n) (a + 1 + n)) ≡ filter (λ k. not (p k)) (range_with_len (a + 1) n)
        → lines_of (between a (cond b (begun a (runs_from p (a + 1) n)) (runs_from p (a + 1) n)) (a + 1 + n))
        ≡ cond (not b) (a ∷ filter (λ k. not (p k)) (range_with_len (a + 1) n)) (filter (λ k. not (p k)) (range_with_len (a + 1) n))
    go true ih = begun_between a (a + 1 + n) (runs_from p (a + 1) n) ∙ ih
    go false ih = wider a (a + 1 + n) (runs_from p (a + 1) n) (runs_rising p n (a + 1)) ∙ ap (λ zs. a ∷ zs) ih

kept_lines : (ks : List ℕ) (m : ℕ) → lines_of (between 0 (runs_from (listed ks) 0 m) m) ≡ kept ks m
kept_lines ks m = ap (λ k. lines_of (between 0 (runs_from (listed ks) 0 m) k)) (let z : m ≡ 0 + m = omega arith in z) ∙ between_lines (listed ks) m 0

-- runs of lines as their lines one by one

lines_back : {A : Type 0} (xs : List A) (w n a : ℕ) → flat_map (λ l. take w (drop (l * w) xs)) (range_with_len a n) ≡ take (n * w) (drop (a * w) xs)
lines_back xs w zero a = ap (λ k. take k (drop (a * w) xs)) (sym (zero-mul w))
lines_back xs w (suc n) a =
    ap (λ z. take w (drop (a * w) xs) ++ z)
    (lines_back xs w n (a + 1)
    ∙ ap (take (n * w)) (ap (λ k. drop k xs) (add-mul a 1 w ∙ ap (λ k. a * w + k) (one-mul w)) ∙ sym (drop-drop w (a * w) xs)))
    ∙ take_then w (n * w) (drop (a * w) xs)
    ∙ ap (λ k. take k (drop (a * w) xs)) (let e = suc-mul n w in omega arith)

lines_taken : {A : Type 0} (w : ℕ) (xs : List A) (rs : List (ℕ × ℕ)) → flat_map (λ l. take w (drop (l * w) xs)) (lines_of rs) ≡ taken w xs rs
lines_taken w xs [] = refl
lines_taken w xs (r ∷ rs) =
    flat_map-append (λ l. take w (drop (l * w) xs)) (range_with_len r.0 r.1) (lines_of rs) ∙ ap₂ ◌++◌ (lines_back xs w r.1 r.0) (lines_taken w xs rs)

by_columns : {A : Type 0} (t : Table A) (ks ls : List ℕ) → selected t ks ls ≡ flat_map (λ c. flat_map (λ r. cell_at t r c) ks) ls
by_columns t ks [] = refl
by_columns t ks (l ∷ ls) = one_column (λ (q : ℕ × ℕ). cell_at t q.0 q.1) ks l ls ∙ ap (λ z. flat_map (λ r. cell_at t r l) ks ++ z) (by_columns t ks ls)

module _ {A : Type 0} (t : Table A) (xs : List A) (lies : t.cells ≡ take (t.rows * t.columns) xs) where
  abbrev size_of : Side → ℕ
  size_of s = (lines_of_side s t.rows t.columns).count * (lines_of_side s t.rows t.columns).width

  -- a cell of a column, as a line of one cell
  one_cell : (size r c : ℕ) → size ≡ t.rows → r < t.rows → c < t.columns → cell_at t r c ≡ take 1 (drop (r * 1) (drop (c * size) xs))
  one_cell size r c e hr hc =
      cell_of_lem t xs lies r c hr hc
      ∙ ap (λ k. take 1 (drop k xs)) (let f = ap (λ z. c * z) e in let g = mul-one r in let z : r + c * t.rows ≡ c * size + r * 1 = omega arith in z)
      ∙ ap (take 1) (sym (drop-drop (r * 1) (c * size) xs))

  module _ (p : ℕ → Bool) (size : ℕ) (rs : List (ℕ × ℕ)) where
    rows_taken : size ≡ t.rows → lines_of rs ≡ filter p (range_with_len 0 t.rows) → selected t (filter p (range_with_len 0 t.rows)) (range_with_len 0 t.columns) ≡ taken_of 1 size 0 t.columns xs rs
    rows_taken e f =
        let ks = filter p (range_with_len 0 t.rows) in
        by_columns t ks (range_with_len 0 t.columns)
        ∙ joined_same (λ c. flat_map (λ r. cell_at t r c) ks) (λ c. taken 1 (drop (c * size) xs) rs) (range_with_len 0 t.columns)
        (all_counting (λ c. flat_map (λ r. cell_at t r c) ks ≡ taken 1 (drop (c * size) xs) rs) 0 t.columns (λ c a b.
        joined_same (λ r. cell_at t r c) (λ l. take 1 (drop (l * 1) (drop (c * size) xs))) ks
        (all_below_lem p t.rows (λ r. cell_at t r c ≡ take 1 (drop (r * 1) (drop (c * size) xs))) (λ r h. one_cell size r c e h (omega arith)))
        ∙ ap (flat_map (λ l. take 1 (drop (l * 1) (drop (c * size) xs)))) (sym f)
        ∙ lines_taken 1 (drop (c * size) xs) rs))

    one_line : (c : ℕ) → c < t.columns → flat_map (λ r. cell_at t r c) (range_with_len 0 t.rows) ≡ take t.rows (drop (c * t.rows) xs)
    one_line c h =
        let ys = drop (c * t.rows) xs in
        joined_same (λ r. cell_at t r c) (λ l. take 1 (drop (l * 1) ys)) (range_with_len 0 t.rows)
        (all_counting (λ r. cell_at t r c ≡ take 1 (drop (r * 1) ys)) 0 t.rows (λ r a b. one_cell t.rows r c refl (omega arith) h))
        ∙ lines_back ys 1 t.rows 0
        ∙ ap₂ (λ n k. take n (drop k ys)) (mul-one t.rows) (zero-mul 1)

    columns_taken : lines_of rs ≡ filter p (range_with_len 0 t.columns) → selected t (range_with_len 0 t.rows) (filter p (range_with_len 0 t.columns)) ≡ taken_of t.rows size 0 1 xs rs
    columns_taken f =
        let ls = filter p (range_with_len 0 t.columns) in
        by_columns t (range_with_len 0 t.rows) ls
        ∙ joined_same (λ c. flat_map (λ r. cell_at t r c) (range_with_len 0 t.rows)) (λ l. take t.rows (drop (l * t.rows) xs)) ls
        (all_below_lem p t.columns (λ c. flat_map (λ r. cell_at t r c) (range_with_len 0 t.rows) ≡ take t.rows (drop (c * t.rows) xs)) one_line)
        ∙ ap (flat_map (λ l. take t.rows (drop (l * t.rows) xs))) (sym f)
        ∙ lines_taken t.rows xs rs
        ∙ ap (λ k. taken t.rows (drop k xs) rs) (sym (zero-mul size))
        ∙ sym (append-nil (taken t.rows (drop (0 * size) xs) rs))

  module _ (ks : List ℕ) where
    -- the cells that go, and those that are left
    pub cells_lost : (s : Side) → taken_of (lines_of_side s t.rows t.columns).width (size_of s) 0 (lines_of_side s t.rows t.columns).groups xs (runs_from (listed ks) 0 (lines_in s t.rows t.columns))
        ≡ lost_of t (remove_listed (side_of s) ks)
    cells_lost Rows = sym (rows_listed_lost t ks ∙ rows_taken (listed ks) (t.rows * 1) (runs_from (listed ks) 0 t.rows) (mul-one t.rows) (lines_runs (listed ks) 0 t.rows))
    cells_lost Columns = sym (columns_listed_lost t ks ∙ columns_taken (listed ks) (t.columns * t.rows) (runs_from (listed ks) 0 t.columns) (lines_runs (listed ks) 0 t.columns))

    pub cells_left : (s : Side) → taken_of (lines_of_side s t.rows t.columns).width (size_of s) 0 (lines_of_side s t.rows t.columns).groups xs (between 0 (runs_from (listed ks) 0 (lines_in s t.rows t.columns)) (lines_of_side s t.rows t.columns).count)
        ≡ (changed t (remove_listed (side_of s) ks)).cells
    cells_left Rows =
        sym (rows_listed_cells t ks ∙ rows_taken (λ k. not (listed ks k)) (t.rows * 1) (between 0 (runs_from (listed ks) 0 t.rows) t.rows) (mul-one t.rows) (kept_lines ks t.rows))
    cells_left Columns =
        sym (columns_listed_cells t ks ∙ columns_taken (λ k. not (listed ks k)) (t.columns * t.rows) (between 0 (runs_from (listed ks) 0 t.columns) t.columns) (kept_lines ks t.columns))
