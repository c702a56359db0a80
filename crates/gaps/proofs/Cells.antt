-- The cells of a gap that was opened and filled, from places of the buffer to the model's tables.
use Rattle.std.proofs.Common.{◌≡◌, ℕ, ◌+◌, ◌-◌, ◌*◌, ◌<◌, ◌≤◌, List, length, get_or, take, sym, ap, ◌∙◌, ap₂, inl, inr, zero-mul, mul_comm, mul-le-mul_right, arith, lit<}
use Rattle.std.proofs.lemmas.Nat.{mul-add-lt}
use Rattle.std.proofs.lemmas.Bool.{cases_lt}
use Rattle.layout.specs.declared.side.Side.{Side}
use Rattle.layout.specs.declared.side.Side.TheVariants.{Rows, Columns}
use Rattle.moves.specs.Blocks.{block_of, cells_in, columns_with, lines_in, rows_block, rows_with}
use Rattle.moves.specs.Tables.{Extended}
use Rattle.moves.proofs.Flat.{joined_before, joined_behind}
use Rattle.moves.proofs.Slides.{at}
use Rattle.moves.proofs.Places.{columns_lt, columns_sum}
use Rattle.model.specs.Sheet.{old, new, row, column, Change, fill_lines, Table, cell_of, rows_of, columns_of, changed}
use Rattle.model.specs.Journal.{Right}
use Rattle.model.proofs.Lines.{keep_at, insert_upper, insert_new, insert_lower}
use Rattle.model.proofs.Joins.{changed_cells, old_cell, the_cell, lying}
use Rattle.model.proofs.Gaps.{row_gap, column_gap}
use Rattle.journal.specs.View.{side_of}
use Rattle.gaps.specs.Taken.{RowsTaken}

-- columns that take the list, as rows of the table seen as one column
module _ {X : Type 0} (xs ys : List X) (m columns i n : ℕ) (vs : List X) (v : X) (h : RowsTaken xs ys (block_of Columns m columns i n) vs v) where
  taken_before : (k : ℕ) (d : X) → k < i * m → get_or ys k d ≡ get_or xs k d
  taken_before k d l =
      at ys d k (k + 0 * (m * columns)) (omega (arith, zero-mul (m * columns))) ∙ h.upper k 0 d l ∙ at xs d (k + 0 * (m * columns)) k (omega (arith, zero-mul (m * columns)))

  taken_new : (k : ℕ) (d : X) → k < n * m → get_or ys (i * m + k) d ≡ get_or vs k v
  taken_new k d l =
      at ys d (i * m + k) (i * m + k + 0 * (m * columns)) (omega (arith, zero-mul (m * columns))) ∙ h.put k 0 d l (lit< tt)
      ∙ at vs v (k + 0 * (n * m)) k (omega (arith, zero-mul (n * m)))

  taken_behind : (k : ℕ) (d : X) → i * m + n * m ≤ k → k < m * columns → get_or ys k d ≡ get_or xs k d
  taken_behind k d b l =
      at ys d k (k + 0 * (m * columns)) (omega (arith, zero-mul (m * columns))) ∙ h.lower k 0 d b l ∙ at xs d (k + 0 * (m * columns)) k (omega (arith, zero-mul (m * columns)))

module _ {A : Type 0} (t : Table A) (right : Right t) (xs : List A) (lies : t.cells ≡ take (t.rows * t.columns) xs) (i n : ℕ) (vs : List A) (v : A) where
  fits : t.rows * t.columns ≤ length xs
  fits = lying t xs right lies

  -- the table with the rows of the gap
  row_cells : i ≤ t.rows → (ys zs : List A) → (t.rows + n) * t.columns ≤ length xs
      → Extended xs ys (rows_block t.rows t.columns i n) → RowsTaken ys zs (rows_block (t.rows + n) t.columns i n) vs v
      → take ((t.rows + n) * t.columns) zs ≡ (changed t (fill_lines row i n vs v)).cells
  row_cells there ys zs room h w =
      let m = t.rows in
      let C = t.columns in
      let ch : Change A = fill_lines row i n vs v in
      let k = row_gap t i n vs v there in
      let long : length zs ≡ length xs = w.long ∙ h.long in
      changed_cells t ch (m + n) C zs right k.named k.rows k.columns (omega arith) (λ r c a b.
      let below = mul-add-lt c (m + n) r C b a in
      elim (cases_lt r i) [
        | inl l ↦
            old_cell t ch xs zs lies fits r c r c (r + c * (m + n)) (insert_upper i n m there r (new 0) l) (keep_at C c (new 0) b) (omega arith) b (omega arith)
            (λ d. w.upper r c d l ∙ h.upper r c d l b)
        | inr l ↦ elim (cases_lt r (i + n)) [
          | inl l2 ↦
              let j : ℕ = r - i in
              let e : i + j ≡ r = omega arith in
              let o : get_or (rows_of t ch) r (new 0) ≡ new j = ap (λ z. get_or (rows_of t ch) z (new 0)) (sym e) ∙ insert_new i n m there j (new 0) (omega arith) in
              the_cell zs (r + c * (m + n)) (get_or vs (j + c * n) v) (omega arith) (λ d. ap (λ z. get_or zs (z + c * (m + n)) d) (sym e) ∙ w.put j c d (omega arith) b)
              ∙ sym (ap₂ (cell_of t ch) o (keep_at C c (new 0) b))
          | inr l2 ↦
              let j : ℕ = r - n in
              let e : j + n ≡ r = omega arith in
              let o : get_or (rows_of t ch) r (new 0) ≡ old j = ap (λ z. get_or (rows_of t ch) z (new 0)) (sym e) ∙ insert_lower i n m there j (new 0) (omega arith) (omega arith) in
              old_cell t ch xs zs lies fits r c j c (r + c * (m + n)) o (keep_at C c (new 0) b) (omega arith) b (omega arith)
              (λ d. w.lower r c d l2 a ∙ ap (λ z. get_or ys (z + c * (m + n)) d) (sym e) ∙ h.lower j c d (omega arith) (omega arith) b)
        ]
      ])

  -- the table with the columns of the gap
  column_cells : i ≤ t.columns → (ys zs : List A) → t.rows * (t.columns + n) ≤ length xs
      → Extended xs ys (block_of Columns t.rows t.columns i n) → RowsTaken ys zs (block_of Columns t.rows (t.columns + n) i n) vs v
      → take (t.rows * (t.columns + n)) zs ≡ (changed t (fill_lines column i n vs v)).cells
  column_cells there ys zs room h w =
      let m = t.rows in
      let C = t.columns in
      let ch : Change A = fill_lines column i n vs v in
      let k = column_gap t i n vs v there in
      let long : length zs ≡ length xs = w.long ∙ h.long in
      changed_cells t ch m (C + n) zs right k.named k.rows k.columns (omega arith) (λ r c a b.
      let below = mul-add-lt c m r (C + n) b a in
      elim (cases_lt c i) [
        | inl l ↦
            let before = columns_lt c i m l in
            old_cell t ch xs zs lies fits r c r c (r + c * m) (keep_at m r (new 0) a) (insert_upper i n C there c (new 0) l) a (omega arith) (omega arith)
            (λ d. taken_before ys zs m (C + n) i n vs v w (r + c * m) d (omega arith) ∙ joined_before xs ys m C i n _ h (r + c * m) d (omega arith))
        | inr l ↦ elim (cases_lt c (i + n)) [
          | inl l2 ↦
              let j : ℕ = c - i in
              let e : i + j ≡ c = omega arith in
              let o : get_or (columns_of t ch) c (new 0) ≡ new j = ap (λ z. get_or (columns_of t ch) z (new 0)) (sym e) ∙ insert_new i n C there j (new 0) (omega arith) in
              let f : c * m ≡ i * m + j * m = ap (λ z. z * m) (sym e) ∙ columns_sum i j m in
              let inside = columns_lt j n m (omega arith) in
              the_cell zs (r + c * m) (get_or vs (r + j * m) v) (omega arith)
              (λ d. at zs d (r + c * m) (i * m + (r + j * m)) (omega arith) ∙ taken_new ys zs m (C + n) i n vs v w (r + j * m) d (omega arith))
              ∙ sym (ap₂ (cell_of t ch) (keep_at m r (new 0) a) o)
          | inr l2 ↦
              let j : ℕ = c - n in
              let e : j + n ≡ c = omega arith in
              let o : get_or (columns_of t ch) c (new 0) ≡ old j = ap (λ z. get_or (columns_of t ch) z (new 0)) (sym e) ∙ insert_lower i n C there j (new 0) (omega arith) (omega arith) in
              let f : c * m ≡ j * m + n * m = ap (λ z. z * m) (sym e) ∙ columns_sum j n m in
              let starts : i * m ≤ j * m = mul-le-mul_right m (let z : i ≤ j = omega arith in z) in
              let ends = columns_lt j C m (omega arith) in
              old_cell t ch xs zs lies fits r c r j (r + c * m) (keep_at m r (new 0) a) o a (omega arith) (omega arith)
              (λ d. taken_behind ys zs m (C + n) i n vs v w (r + c * m) d (omega arith) (omega arith)
              ∙ at ys d (r + c * m) (r + j * m + n * m) (omega arith) ∙ joined_behind xs ys m C i n _ h (r + j * m) d (omega arith) (omega (arith, mul_comm m C)))
        ]
      ])

  pub gap_cells : (s : Side) → i ≤ lines_in s t.rows t.columns → (ys zs : List A) → cells_in s (lines_in s t.rows t.columns + n) t.rows t.columns ≤ length xs
      → Extended xs ys (block_of s t.rows t.columns i n)
      → RowsTaken ys zs (block_of s (rows_with s (lines_in s t.rows t.columns + n) t.rows) (columns_with s (lines_in s t.rows t.columns + n) t.columns) i n) vs v
      → take (cells_in s (lines_in s t.rows t.columns + n) t.rows t.columns) zs ≡ (changed t (fill_lines (side_of s) i n vs v)).cells
  gap_cells Rows = row_cells
  gap_cells Columns = column_cells
