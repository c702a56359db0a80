-- A removal taken back, from places of the buffer to the model's tables.
use Rattle.std.proofs.Common.{◌≡◌, ℕ, ◌+◌, ◌-◌, ◌*◌, ◌≤◌, List, length, get_or, take, sym, ap, ◌∙◌, ap₂, inl, inr, zero-mul, mul_comm, mul-le-mul_right, add-mul, arith}
use Rattle.std.proofs.lemmas.Nat.{mul-add-lt}
use Rattle.std.proofs.lemmas.Bool.{cases_lt}
use Rattle.layout.specs.declared.side.Side.{Side}
use Rattle.layout.specs.declared.side.Side.TheVariants.{Rows, Columns}
use Rattle.moves.specs.Blocks.{block_of, cells_in, columns_with, lines_in, rows_block, rows_with}
use Rattle.moves.specs.Tables.{Restored}
use Rattle.moves.proofs.Flat.{joined_before, joined_new, joined_behind}
use Rattle.moves.proofs.Places.{columns_lt}
use Rattle.moves.proofs.Slides.{at}
use Rattle.model.specs.Sheet.{new, row, column, Change, remove_lines, Table, cell_at, changed}
use Rattle.model.specs.Journal.{Right, lost_of}
use Rattle.model.proofs.Lines.{keep_at, remove_upper, remove_lower}
use Rattle.model.proofs.Joins.{table_cells, former_cell, same_cell}
use Rattle.model.proofs.Regions.{region, region_right, region_at}
use Rattle.model.proofs.Counting.{rows_removed, rows_removed_lost, columns_removed, columns_removed_lost}
use Rattle.journal.specs.View.{side_of}

-- the table before the removal, where the one after it lies in xs and src is what it lost
module _ {A : Type 0} (t : Table A) (right : Right t) (i n : ℕ) (src xs zs : List A) (room : t.rows * t.columns ≤ length xs) where
  module _ (there : i + n ≤ t.rows) (lies : take ((t.rows - n) * t.columns) xs ≡ (changed t (remove_lines row i n)).cells)
      (lost : src ≡ lost_of t (remove_lines row i n)) (h : Restored src xs zs (rows_block (t.rows - n) t.columns i n)) where
    rows_back : take (t.rows * t.columns) zs ≡ t.cells
    rows_back =
        let m = t.rows in
        let C = t.columns in
        let ch : Change A = remove_lines row i n in
        let k = rows_removed t right i n there in
        let gone : Table A = region t i n 0 C in
        let own : src ≡ gone.cells = lost ∙ rows_removed_lost t right i n there in
        let all = region_right t right i n 0 C there (omega arith) in
        let tall : m - n + n ≡ m = omega arith in
        let long : length zs ≡ length xs = h.long in
        table_cells t zs right (omega arith) (λ r c a b.
        let below = mul-add-lt c m r C b a in
        elim (cases_lt r i) [
          | inl l ↦
              let inside = mul-add-lt c (m - n) r C b (omega arith) in
              let less = mul-le-mul_right C (let z : m - n ≤ m = omega arith in z) in
              same_cell zs xs (r + c * m) (r + c * (m - n)) (omega arith) (omega arith) (λ d. ap (λ z. get_or zs (r + c * z) d) (sym tall) ∙ h.upper r c d l b)
              ∙ former_cell t ch (m - n) C xs right k.named k.rows k.columns lies r c r c (omega arith) b (remove_upper i n m there r (new 0) l) (keep_at C c (new 0) b)
          | inr l ↦ elim (cases_lt r (i + n)) [
            | inl l2 ↦
                let j : ℕ = r - i in
                let e : i + j ≡ r = omega arith in
                let inside = mul-add-lt c n j C b (omega arith) in
                same_cell zs gone.cells (r + c * m) (j + c * n) (omega arith) (omega arith)
                (λ d. ap₂ (λ y z. get_or zs (y + c * z) d) (sym e) (sym tall) ∙ h.put j c d (omega arith) b ∙ ap (λ ys. get_or ys (j + c * n) d) own)
                ∙ region_at t right i n 0 C there (omega arith) j c (omega arith) b
                ∙ ap₂ (cell_at t) e (let z : 0 + c ≡ c = omega arith in z)
            | inr l2 ↦
                let j : ℕ = r - n in
                let e : j + n ≡ r = omega arith in
                let inside = mul-add-lt c (m - n) j C b (omega arith) in
                let less = mul-le-mul_right C (let z : m - n ≤ m = omega arith in z) in
                same_cell zs xs (r + c * m) (j + c * (m - n)) (omega arith) (omega arith)
                (λ d. ap₂ (λ y z. get_or zs (y + c * z) d) (sym e) (sym tall) ∙ h.lower j c d (omega arith) (omega arith) b)
                ∙ former_cell t ch (m - n) C xs right k.named k.rows k.columns lies j c (j + n) c (omega arith) b (remove_lower i n m there j (new 0) (omega arith) (omega arith)) (keep_at C c (new 0) b)
                ∙ ap (λ z. cell_at t z c) e
          ]
        ])

  module _ (there : i + n ≤ t.columns) (lies : take (t.rows * (t.columns - n)) xs ≡ (changed t (remove_lines column i n)).cells)
      (lost : src ≡ lost_of t (remove_lines column i n)) (h : Restored src xs zs (block_of Columns t.rows (t.columns - n) i n)) where
    columns_back : take (t.rows * t.columns) zs ≡ t.cells
    columns_back =
        let m = t.rows in
        let C = t.columns in
        let ch : Change A = remove_lines column i n in
        let k = columns_removed t right i n there in
        let gone : Table A = region t 0 m i n in
        let own : src ≡ gone.cells = lost ∙ columns_removed_lost t right i n there in
        let all = region_right t right 0 m i n (omega arith) there in
        let long : length zs ≡ length xs = h.long in
        table_cells t zs right (omega arith) (λ r c a b.
        let below = mul-add-lt c m r C b a in
        elim (cases_lt c i) [
          | inl l ↦
              same_cell zs xs (r + c * m) (r + c * m) (omega arith) (omega arith) (λ d. joined_before xs zs m (C - n) i n _ h (r + c * m) d (omega (arith, columns_lt c i m l)))
              ∙ former_cell t ch m (C - n) xs right k.named k.rows k.columns lies r c r c a (omega arith) (keep_at m r (new 0) a) (remove_upper i n C there c (new 0) l)
          | inr l ↦ elim (cases_lt c (i + n)) [
            | inl l2 ↦
                let j : ℕ = c - i in
                let e : i + j ≡ c = omega arith in
                let inside = mul-add-lt j m r n (omega arith) a in
                same_cell zs gone.cells (r + c * m) (r + j * m) (omega arith) (omega (arith, mul_comm m n))
                (λ d. at zs d (r + c * m) (i * m + (r + j * m)) (omega (arith, ap (λ y. y * m) e, add-mul i j m))
                ∙ joined_new xs zs m (C - n) i n _ h (r + j * m) d (omega (arith, columns_lt j n m (omega arith)))
                ∙ ap (λ ys. get_or ys (r + j * m + 0 * (n * m)) d) own ∙ at gone.cells d (r + j * m + 0 * (n * m)) (r + j * m) (omega (arith, zero-mul (n * m))))
                ∙ region_at t right 0 m i n (omega arith) there r j a (omega arith)
                ∙ ap₂ (cell_at t) (let z : 0 + r ≡ r = omega arith in z) e
            | inr l2 ↦
                let j : ℕ = c - n in
                let e : j + n ≡ c = omega arith in
                let near = columns_lt j (C - n) m (omega arith) in
                let small = mul-le-mul_right m (let z : C - n ≤ C = omega arith in z) in
                same_cell zs xs (r + c * m) (r + j * m) (omega arith) (omega (arith, mul_comm m C))
                (λ d. at zs d (r + c * m) (r + j * m + n * m) (omega (arith, ap (λ y. y * m) e, add-mul j n m))
                ∙ joined_behind xs zs m (C - n) i n _ h (r + j * m) d (omega (arith, mul-le-mul_right m (let z : i ≤ j = omega arith in z))) (omega (arith, mul_comm m (C - n))))
                ∙ former_cell t ch m (C - n) xs right k.named k.rows k.columns lies r j r (j + n) a (omega arith) (keep_at m r (new 0) a) (remove_lower i n C there j (new 0) (omega arith) (omega arith))
                ∙ ap (cell_at t r) e
          ]
        ])

  -- on either side
  pub lines_back :
      (s : Side) → i + n ≤ lines_in s t.rows t.columns
      → take (cells_in s (lines_in s t.rows t.columns - n) t.rows t.columns) xs ≡ (changed t (remove_lines (side_of s) i n)).cells
      → src ≡ lost_of t (remove_lines (side_of s) i n)
      → Restored src xs zs (block_of s (rows_with s (lines_in s t.rows t.columns - n) t.rows) (columns_with s (lines_in s t.rows t.columns - n) t.columns) i n)
      → take (t.rows * t.columns) zs ≡ t.cells
  lines_back Rows = rows_back
  lines_back Columns = columns_back
