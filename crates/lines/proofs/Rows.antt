-- Rows taken out and put in, from places of the buffer to the model's tables.
use Rattle.std.proofs.Common.{◌≡◌, ℕ, ◌+◌, ◌-◌, ◌*◌, ◌≤◌, List, ◌++◌, length, get_or, take, drop, sym, ap, ◌∙◌, inl, inr, mul_comm, mul-le-mul_right, arith}
use Rattle.std.proofs.lemmas.List.{get_or-drop, length-drop}
use Rattle.std.proofs.lemmas.Nat.{mul-add-lt}
use Rattle.std.proofs.lemmas.Bool.{cases_lt}
use Rattle.moves.specs.Blocks.{rows_block}
use Rattle.moves.specs.Tables.{Compressed, Saved, Inserted}
use Rattle.model.specs.Sheet.{old, new, row, Change, remove_lines, insert_lines, Table, cell_at, cell_of, rows_of, columns_of, changed}
use Rattle.model.specs.Journal.{Right, lost_of}
use Rattle.model.proofs.Lines.{keep_at, insert_upper, insert_new, insert_lower, remove_upper, remove_lower}
use Rattle.model.proofs.Joins.{table_cells, changed_cells, old_cell, the_cell, cell_of_lem, same_cell, lying, put_on}
use Rattle.model.proofs.Regions.{region, region_right, region_at}
use Rattle.model.proofs.Counting.{rows_removed, rows_removed_lost, rows_inserted}

-- fewer rows take no more room
shorter : (rows n columns : ℕ) → (rows - n) * columns ≤ rows * columns
shorter rows n columns = mul-le-mul_right columns (less rows n)
  where
    less : (a b : ℕ) → a - b ≤ a
    less a b = omega arith

module _ {A : Type 0} (t : Table A) (right : Right t) (xs : List A) (lies : t.cells ≡ take (t.rows * t.columns) xs) (i n : ℕ) where
  fits : t.rows * t.columns ≤ length xs
  fits = lying t xs right lies

  -- the table without the rows
  pub compressed_cells : i + n ≤ t.rows → (ys : List A) → Compressed xs ys (rows_block t.rows t.columns i n)
      → take ((t.rows - n) * t.columns) ys ≡ (changed t (remove_lines row i n)).cells
  compressed_cells there ys h =
      let m = t.rows in
      let C = t.columns in
      let ch : Change A = remove_lines row i n in
      let k = rows_removed t right i n there in
      let room = fits in
      let long : length ys ≡ length xs = h.long in
      let short = shorter m n C in
      changed_cells t ch (m - n) C ys right k.named k.rows k.columns (omega arith) (λ r c a b.
      let below = mul-add-lt c (m - n) r C b a in
      elim (cases_lt r i) [
        | inl l ↦ old_cell t ch xs ys lies fits r c r c (r + c * (m - n)) (remove_upper i n m there r (new 0) l) (keep_at C c (new 0) b) (omega arith) b (omega arith) (λ d. h.upper r c d l b)
        | inr l ↦ old_cell t ch xs ys lies fits r c (r + n) c (r + c * (m - n)) (remove_lower i n m there r (new 0) l a) (keep_at C c (new 0) b) (omega arith) b (omega arith) (λ d. h.lower r c d l a b)
      ])

  -- the cells that went
  pub saved_cells : i + n ≤ t.rows → (was is : List A) → Saved xs was is (rows_block t.rows t.columns i n)
      → is ≡ was ++ lost_of t (remove_lines row i n)
  saved_cells there was is h =
      let m = t.rows in
      let C = t.columns in
      let whole = fits in
      let long : length is ≡ length was + n * C = omega (arith, h.long, mul_comm n C) in
      let ld = length-drop (length was) is in
      put_on was is (n * C) (lost_of t (remove_lines row i n)) long h.below
      (table_cells (region t i n 0 C) (drop (length was) is) (region_right t right i n 0 C there (omega arith)) (omega arith) (λ r c a b.
      let below = mul-add-lt c n r C b a in
      let inside = mul-add-lt c m (i + r) C b (omega arith) in
      same_cell (drop (length was) is) xs (r + c * n) (i + r + c * m) (omega arith) (omega arith)
      (λ d. get_or-drop (length was) is (r + c * n) d ∙ h.saved r c d a b)
      ∙ sym (cell_of_lem t xs lies (i + r) c (omega arith) b)
      ∙ ap (cell_at t (i + r)) (let e : c ≡ 0 + c = omega arith in e)
      ∙ sym (region_at t right i n 0 C there (omega arith) r c a b))
      ∙ sym (rows_removed_lost t right i n there))

  -- the table with the rows
  pub inserted_cells : i ≤ t.rows → (v : A) (ys : List A) → (t.rows + n) * t.columns ≤ length xs
      → Inserted xs ys (rows_block t.rows t.columns i n) v
      → take ((t.rows + n) * t.columns) ys ≡ (changed t (insert_lines row i n v)).cells
  inserted_cells there v ys room h =
      let m = t.rows in
      let C = t.columns in
      let ch : Change A = insert_lines row i n v in
      let k = rows_inserted t i n v there in
      let long : length ys ≡ length xs = h.long in
      changed_cells t ch (m + n) C ys right k.named k.rows k.columns (omega arith) (λ r c a b.
      let below = mul-add-lt c (m + n) r C b a in
      elim (cases_lt r i) [
        | inl l ↦ old_cell t ch xs ys lies fits r c r c (r + c * (m + n)) (insert_upper i n m there r (new 0) l) (keep_at C c (new 0) b) (omega arith) b (omega arith) (λ d. h.upper r c d l b)
        | inr l ↦ elim (cases_lt r (i + n)) [
          | inl l2 ↦
              let j : ℕ = r - i in
              let e : i + j ≡ r = omega arith in
              let o : get_or (rows_of t ch) r (new 0) ≡ new j = ap (λ z. get_or (rows_of t ch) z (new 0)) (sym e) ∙ insert_new i n m there j (new 0) (omega arith) in
              the_cell ys (r + c * (m + n)) v (omega arith) (λ d. ap (λ z. get_or ys (z + c * (m + n)) d) (sym e) ∙ h.put j c d (omega arith) b)
              ∙ sym (ap (λ z. cell_of t ch z (get_or (columns_of t ch) c (new 0))) o)
          | inr l2 ↦
              let j : ℕ = r - n in
              let e : j + n ≡ r = omega arith in
              let o : get_or (rows_of t ch) r (new 0) ≡ old j = ap (λ z. get_or (rows_of t ch) z (new 0)) (sym e) ∙ insert_lower i n m there j (new 0) (omega arith) (omega arith) in
              old_cell t ch xs ys lies fits r c j c (r + c * (m + n)) o (keep_at C c (new 0) b) (omega arith) b (omega arith)
              (λ d. ap (λ z. get_or ys (z + c * (m + n)) d) (sym e) ∙ h.lower j c d (omega arith) (omega arith) b)
        ]
      ])
