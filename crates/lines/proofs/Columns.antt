-- Columns taken out and put in, from places of the buffer to the model's tables.
use Rattle.std.proofs.Common.{◌≡◌, ℕ, ◌+◌, ◌-◌, ◌*◌, ◌≤◌, List, ◌++◌, length, get_or, take, drop, sym, ap, ◌∙◌, ap₂, inl, inr, mul_comm, one-mul, add-mul, mul-le-mul_right, arith}
use Rattle.std.proofs.lemmas.List.{get_or-drop, length-drop}
use Rattle.std.proofs.lemmas.Nat.{mul-add-lt}
use Rattle.std.proofs.lemmas.Bool.{cases_lt}
use Rattle.layout.specs.declared.side.Side.TheVariants.{Columns}
use Rattle.moves.specs.Blocks.{block_of}
use Rattle.moves.specs.Tables.{Compressed, Inserted, Saved}
use Rattle.moves.proofs.Flat.{compressed_before, compressed_behind, joined_before, joined_new, joined_behind, saved_flat}
use Rattle.moves.proofs.Places.{columns_lt, columns_wider}
use Rattle.model.specs.Sheet.{old, new, column, Change, remove_lines, insert_lines, Table, cell_at, cell_of, columns_of, changed}
use Rattle.model.specs.Journal.{Right, lost_of}
use Rattle.model.proofs.Lines.{keep_at, insert_upper, insert_new, insert_lower, remove_upper, remove_lower}
use Rattle.model.proofs.Joins.{table_cells, changed_cells, old_cell, the_cell, cell_of_lem, same_cell, lying, put_on}
use Rattle.model.proofs.Regions.{region, region_right, region_at}
use Rattle.model.proofs.Counting.{columns_removed, columns_removed_lost, columns_inserted}

module _ {A : Type 0} (t : Table A) (right : Right t) (xs : List A) (lies : t.cells ≡ take (t.rows * t.columns) xs) (i n : ℕ) where
  fits : t.rows * t.columns ≤ length xs
  fits = lying t xs right lies

  -- the table without the columns
  pub compressed_cells : i + n ≤ t.columns → (ys : List A) → Compressed xs ys (block_of Columns t.rows t.columns i n)
      → take (t.rows * (t.columns - n)) ys ≡ (changed t (remove_lines column i n)).cells
  compressed_cells there ys h =
      let m = t.rows in
      let C = t.columns in
      let ch : Change A = remove_lines column i n in
      let k = columns_removed t right i n there in
      let room = fits in
      let long : length ys ≡ length xs = h.long in
      let short = columns_wider m (C - n) C (omega arith) in
      changed_cells t ch m (C - n) ys right k.named k.rows k.columns (omega arith) (λ r c a b.
      let below = mul-add-lt c m r (C - n) b a in
      elim (cases_lt c i) [
        | inl l ↦
            let before = columns_lt c i m l in
            old_cell t ch xs ys lies fits r c r c (r + c * m) (keep_at m r (new 0) a) (remove_upper i n C there c (new 0) l) a (omega arith) (omega arith)
            (λ d. compressed_before xs ys m C i n h (r + c * m) d (omega arith))
        | inr l ↦
            let e1 : (c + n) * m ≡ c * m + n * m = add-mul c n m in
            let starts = mul-le-mul_right m l in
            let ends = columns_lt (c + n) C m (omega arith) in
            old_cell t ch xs ys lies fits r c r (c + n) (r + c * m) (keep_at m r (new 0) a) (remove_lower i n C there c (new 0) l b) a (omega arith) (omega arith)
            (λ d. compressed_behind xs ys m C i n h (r + c * m) d (omega arith) (omega (arith, mul_comm m C))
            ∙ ap (λ z. get_or xs z d) (let z : r + c * m + n * m ≡ r + (c + n) * m = omega arith in z))
      ])

  -- the cells that went
  pub saved_cells : i + n ≤ t.columns → (was is : List A) → Saved xs was is (block_of Columns t.rows t.columns i n)
      → is ≡ was ++ lost_of t (remove_lines column i n)
  saved_cells there was is h =
      let m = t.rows in
      let C = t.columns in
      let whole = fits in
      let long : length is ≡ length was + m * n = omega (arith, h.long, one-mul (n * m), mul_comm n m) in
      let ld = length-drop (length was) is in
      put_on was is (m * n) (lost_of t (remove_lines column i n)) long h.below
      (table_cells (region t 0 m i n) (drop (length was) is) (region_right t right 0 m i n (omega arith) there) (omega arith) (λ r c a b.
      let below = mul-add-lt c m r n b a in
      let inside = mul-add-lt (i + c) m r C (omega arith) a in
      let e : (i + c) * m ≡ i * m + c * m = add-mul i c m in
      same_cell (drop (length was) is) xs (r + c * m) (r + (i + c) * m) (omega arith) (omega arith)
      (λ d. get_or-drop (length was) is (r + c * m) d ∙ saved_flat was is m C i n xs h (r + c * m) d (omega (arith, mul_comm m n))
      ∙ ap (λ z. get_or xs z d) (let z : i * m + (r + c * m) ≡ r + (i + c) * m = omega arith in z))
      ∙ sym (cell_of_lem t xs lies r (i + c) a (omega arith))
      ∙ ap (λ z. cell_at t z (i + c)) (let z : r ≡ 0 + r = omega arith in z)
      ∙ sym (region_at t right 0 m i n (omega arith) there r c a b))
      ∙ sym (columns_removed_lost t right i n there))

  -- the table with the columns
  pub inserted_cells : i ≤ t.columns → (v : A) (ys : List A) → t.rows * (t.columns + n) ≤ length xs
      → Inserted xs ys (block_of Columns t.rows t.columns i n) v
      → take (t.rows * (t.columns + n)) ys ≡ (changed t (insert_lines column i n v)).cells
  inserted_cells there v ys room h =
      let m = t.rows in
      let C = t.columns in
      let ch : Change A = insert_lines column i n v in
      let k = columns_inserted t i n v there in
      let long : length ys ≡ length xs = h.long in
      changed_cells t ch m (C + n) ys right k.named k.rows k.columns (omega arith) (λ r c a b.
      let below = mul-add-lt c m r (C + n) b a in
      elim (cases_lt c i) [
        | inl l ↦ old_cell t ch xs ys lies fits r c r c (r + c * m) (keep_at m r (new 0) a) (insert_upper i n C there c (new 0) l) a (omega arith) (omega arith) (λ d. joined_before xs ys m C i n _ h (r + c * m) d (omega (arith, columns_lt c i m l)))
        | inr l ↦ elim (cases_lt c (i + n)) [
          | inl l2 ↦
              let j : ℕ = c - i in
              let e : i + j ≡ c = omega arith in
              let o : get_or (columns_of t ch) c (new 0) ≡ new j = ap (λ z. get_or (columns_of t ch) z (new 0)) (sym e) ∙ insert_new i n C there j (new 0) (omega arith) in
              the_cell ys (r + c * m) v (omega arith) (λ d. ap (λ z. get_or ys z d) (let z : r + c * m ≡ i * m + (r + j * m) = omega (arith, ap (λ y. y * m) e, add-mul i j m) in z)
              ∙ joined_new xs ys m C i n _ h (r + j * m) d (omega (arith, columns_lt j n m (omega arith))))
              ∙ sym (ap₂ (cell_of t ch) (keep_at m r (new 0) a) o)
          | inr l2 ↦
              let j : ℕ = c - n in
              let e : j + n ≡ c = omega arith in
              let o : get_or (columns_of t ch) c (new 0) ≡ old j = ap (λ z. get_or (columns_of t ch) z (new 0)) (sym e) ∙ insert_lower i n C there j (new 0) (omega arith) (omega arith) in
              old_cell t ch xs ys lies fits r c r j (r + c * m) (keep_at m r (new 0) a) o a (omega arith) (omega arith)
              (λ d. ap (λ z. get_or ys z d) (let z : r + c * m ≡ r + j * m + n * m = omega (arith, ap (λ y. y * m) e, add-mul j n m) in z)
              ∙ joined_behind xs ys m C i n _ h (r + j * m) d (omega (arith, mul-le-mul_right m (let z : i ≤ j = omega arith in z))) (omega (arith, columns_lt j C m (omega arith), mul_comm m C)))
        ]
      ])
