-- Each change in a sentence of its own, for either side: a line is a row or a column. Some of its words repeat those of proofs,
-- since a reader is to believe them alone.
use Rattle.std.specs.Prelude.{◌≡◌, ℕ, ◌+◌, ◌-◌, ◌*◌, ◌<◌, ◌≤◌, cond, not, ◌&&◌, ◌≢◌, List, [], ◌∷◌, length, filter, nat_lt, slice_index, slice_index_or}
use Rattle.std.specs.List.{range_with_len, flat_map}
use Rattle.model.specs.Sheet.{listed, Side, row, column, Change, insert_lines, remove_lines, remove_listed, swap_lines, fill_lines, resize_to, Table, cell_at, pairs, changed}
use Rattle.model.specs.Journal.{Right, lines_of, lost_of, one_run, places, runs_of}

-- how many lines the side has
abbrev pub lines : {A : Type 0} → Side → Table A → ℕ
lines row t = t.rows
lines column t = t.columns

-- how many lines the other side has
abbrev pub across : {A : Type 0} → Side → Table A → ℕ
across row t = t.columns
across column t = t.rows

-- the cell of line k of the side on line l of the other one
abbrev pub at : {A : Type 0} → Side → Table A → ℕ → ℕ → List A
at row t k l = cell_at t k l
at column t k l = cell_at t l k

-- the cells of these lines of the side, column by column, rows rising
abbrev pub cells_of : {A : Type 0} → Side → Table A → List ℕ → List A
cells_of row t ks = flat_map (λ (q : ℕ × ℕ). cell_at t q.0 q.1) (pairs ks (range_with_len 0 t.columns))
cells_of column t ks = flat_map (λ (q : ℕ × ℕ). cell_at t q.0 q.1) (pairs (range_with_len 0 t.rows) ks)

-- n lines come in before line i: the lines before it stay, the new ones hold `cell`, the others stand n further on
pub record Inserts {A : Type 0} (s : Side) (t : Table A) (i n : ℕ) (cell : ℕ → ℕ → A) (ch : Change A) : Type 0 where
  pub more : lines s (changed t ch) ≡ lines s t + n
  pub same : across s (changed t ch) ≡ across s t
  pub before : (k l : ℕ) → k < i → l < across s t → at s (changed t ch) k l ≡ at s t k l
  pub put : (k l : ℕ) → k < n → l < across s t → at s (changed t ch) (i + k) l ≡ cell k l ∷ []
  pub behind : (k l : ℕ) → i ≤ k → k < lines s t → l < across s t → at s (changed t ch) (k + n) l ≡ at s t k l
  pub saved : lost_of t ch ≡ []
  pub runs : runs_of t ch ≡ []

abbrev pub Inserting : Type 0 → Type 0
Inserting A =
    (s : Side) (t : Table A) (i n : ℕ) (v : A) → Right t → i ≤ lines s t → Inserts s t i n (λ k l. v) (insert_lines s i n v)

-- which of the gap's cells, counted column by column, the cell of its line k on line l is
abbrev pub counted : {A : Type 0} → Side → Table A → ℕ → ℕ → ℕ → ℕ
counted row t n k l = k + l * n
counted column t n k l = l + k * t.rows

-- the cells of a gap take the list's, and the value where it is used up
abbrev pub Gapping : Type 0 → Type 0
Gapping A =
    (s : Side) (t : Table A) (i n : ℕ) (vs : List A) (v : A) → Right t → i ≤ lines s t
    → Inserts s t i n (λ k l. slice_index_or vs (counted s t n k l) v) (fill_lines s i n vs v)

-- the n lines at i go: those before them stay, the others stand n further up; their cells are saved, and they are one run
pub record Removes {A : Type 0} (s : Side) (t : Table A) (i n : ℕ) : Type 0 where
  pub fewer : lines s (changed t (remove_lines s i n)) ≡ lines s t - n
  pub same : across s (changed t (remove_lines s i n)) ≡ across s t
  pub before : (k l : ℕ) → k < i → l < across s t → at s (changed t (remove_lines s i n)) k l ≡ at s t k l
  pub behind : (k l : ℕ) → i ≤ k → k < lines s t - n → l < across s t → at s (changed t (remove_lines s i n)) k l ≡ at s t (k + n) l
  pub saved : lost_of t (remove_lines s i n) ≡ cells_of s t (range_with_len i n)
  pub runs : runs_of t (remove_lines s i n) ≡ one_run i n

abbrev pub Removing : Type 0 → Type 0
Removing A = (s : Side) (t : Table A) (i n : ℕ) → Right t → i + n ≤ lines s t → Removes s t i n

-- of m lines those that are listed, and those that are not, rising
abbrev pub going : List ℕ → ℕ → List ℕ
going ks m = filter (listed ks) (range_with_len 0 m)

abbrev pub staying : List ℕ → ℕ → List ℕ
staying ks m = filter (λ k. not (listed ks k)) (range_with_len 0 m)

-- no run is empty, and a line that stays parts it from the next
abbrev pub Spaced : List (ℕ × ℕ) → Type 0
Spaced [] = Unit {0}
Spaced (r ∷ []) = 1 ≤ r.1
Spaced (r ∷ q ∷ rs) = (1 ≤ r.1) × (r.0 + r.1 < q.0) × Spaced (q ∷ rs)

-- every listed line that exists goes, each once; their cells are saved, and their runs are entered
pub record RemovesListed {A : Type 0} (s : Side) (t : Table A) (ks : List ℕ) : Type 0 where
  pub fewer : lines s (changed t (remove_listed s ks)) ≡ length (staying ks (lines s t))
  pub same : across s (changed t (remove_listed s ks)) ≡ across s t
  pub stays : (k l : ℕ) → k < length (staying ks (lines s t)) → l < across s t
      → at s (changed t (remove_listed s ks)) k l ≡ at s t (slice_index (staying ks (lines s t)) k) l
  pub saved : lost_of t (remove_listed s ks) ≡ cells_of s t (going ks (lines s t))
  pub runs : lines_of (runs_of t (remove_listed s ks)) ≡ going ks (lines s t)
  pub spaced : Spaced (runs_of t (remove_listed s ks))

abbrev pub RemovingListed : Type 0 → Type 0
RemovingListed A = (s : Side) (t : Table A) (ks : List ℕ) → Right t → RemovesListed s t ks

-- lines i and j change places, every other line stays
pub record Exchanges {A : Type 0} (s : Side) (t : Table A) (i j : ℕ) : Type 0 where
  pub as_many : lines s (changed t (swap_lines s i j)) ≡ lines s t
  pub same : across s (changed t (swap_lines s i j)) ≡ across s t
  pub first : (l : ℕ) → l < across s t → at s (changed t (swap_lines s i j)) i l ≡ at s t j l
  pub second : (l : ℕ) → l < across s t → at s (changed t (swap_lines s i j)) j l ≡ at s t i l
  pub others : (k l : ℕ) → k < lines s t → k ≢ i → k ≢ j → l < across s t → at s (changed t (swap_lines s i j)) k l ≡ at s t k l
  pub saved : lost_of t (swap_lines s i j) ≡ []
  pub runs : runs_of t (swap_lines s i j) ≡ []

abbrev pub Exchanging : Type 0 → Type 0
Exchanging A = (s : Side) (t : Table A) (i j : ℕ) → Right t → i < lines s t → j < lines s t → Exchanges s t i j

-- old cells in both shapes stay, others are v; the old cells outside the new shape are saved, column by column
pub record Resizes {A : Type 0} (t : Table A) (m n : ℕ) (v : A) : Type 0 where
  pub rows : (changed t (resize_to m n v)).rows ≡ m
  pub columns : (changed t (resize_to m n v)).columns ≡ n
  pub stays : (r c : ℕ) → r < m → c < n → r < t.rows → c < t.columns → cell_at (changed t (resize_to m n v)) r c ≡ cell_at t r c
  pub below : (r c : ℕ) → r < m → c < n → t.rows ≤ r → cell_at (changed t (resize_to m n v)) r c ≡ v ∷ []
  pub beside : (r c : ℕ) → r < m → c < n → t.columns ≤ c → cell_at (changed t (resize_to m n v)) r c ≡ v ∷ []
  pub saved : lost_of t (resize_to m n v)
      ≡ flat_map (λ (q : ℕ × ℕ). cond (nat_lt q.0 m && nat_lt q.1 n) [] (cell_at t q.0 q.1)) (places t.rows t.columns)
  pub runs : runs_of t (resize_to m n v) ≡ []

abbrev pub Resizing : Type 0 → Type 0
Resizing A = (t : Table A) (m n : ℕ) (v : A) → Right t → Resizes t m n v
