-- Lines exchanged through a dense layout, as the model's table.
use Rattle.std.proofs.Common.{◌≡◌, ℕ, ◌+◌, ◌*◌, ◌<◌, ◌≤◌, eqb, ◌⊎◌, List, [], length, get_or, take, sym, refl, ap, ◌∙◌, inl, inr, arith}
use Rattle.std.proofs.lemmas.Nat.{mul-add-lt}
use Rattle.std.proofs.lemmas.Bool.{cond-true, cond-false, eq-eqb, ne_eqb}
use Rattle.layout.specs.Lawful.{Grid, dense}
use Rattle.edition.specs.Swaps.{other}
use Rattle.model.specs.Sheet.{old, new, swapped, Change, swap_lines, Table, rows_of, columns_of, changed}
use Rattle.model.specs.Journal.{Right, lost_of}
use Rattle.model.proofs.Counting.{Counts}
use Rattle.model.proofs.Exchanges.{columns_exchanged, columns_exchanged_lost, moved_cells, rows_exchanged, rows_exchanged_lost, swap_at, swapped_below, swapped_twice, swapped_ways}
use Rattle.model.proofs.Joins.{former_cell, lying, same_cell, table_cells}
use Rattle.model.proofs.Lines.{keep_at}
use Rattle.layout.specs.declared.side.Side.{Side}
use Rattle.layout.specs.declared.side.Side.TheVariants.{Rows, Columns}
use Rattle.moves.specs.Blocks.{lines_in}
use Rattle.journal.specs.View.{side_of}
use Rattle.swaps.specs.Exchange.{Swapped}

-- of the two lines the other one comes
other_is : (i j k : ℕ) → (k ≡ i) ⊎ (k ≡ j) → other i j k ≡ swapped i j k
other_is i j k h = elim (swapped_ways i j k) [
  | inl w ↦ cond-true (eqb k i) j i (eq-eqb k i w.0) ∙ sym w.1
  | inr (inl w) ↦ cond-false (eqb k i) j i (ne_eqb k i w.0) ∙ sym w.2
  | inr (inr w) ↦ elim h [ inl e ↦ absurd (w.0 e) | inr e ↦ absurd (w.1 e) ]
]

-- of each line, whether it is one of the two or not
either : (i j k : ℕ) → ((k ≡ i) ⊎ (k ≡ j)) ⊎ (((k ≡ i) ⊎ (k ≡ j) → ⊥) × (swapped i j k ≡ k))
either i j k = elim (swapped_ways i j k) [
  | inl w ↦ inl (inl w.0)
  | inr (inl w) ↦ inl (inr w.1)
  | inr (inr w) ↦ inr (λ h. elim h [ inl e ↦ w.0 e | inr e ↦ w.1 e ], w.2)
]

-- where each cell of the buffer comes from, whichever the side
abbrev pub row_from : Side → (i j : ℕ) → ℕ → ℕ
row_from Rows i j r = swapped i j r
row_from Columns i j r = r

abbrev pub column_from : Side → (i j : ℕ) → ℕ → ℕ
column_from Rows i j c = c
column_from Columns i j c = swapped i j c

pub swapped_at : {A : Type 0} (side : Side) (rows columns : ℕ) (xs ys : List A) (i j : ℕ) → Swapped side (dense rows columns) xs ys i j
    → (r c : ℕ) (d : A) → r < rows → c < columns → get_or ys (r + c * rows) d ≡ get_or xs (row_from side i j r + column_from side i j c * rows) d
swapped_at Rows rows columns xs ys i j s r c d a b = elim (either i j r) [
  | inl h ↦ s.written r c d a b h ∙ ap (λ z. get_or xs (z + c * rows) d) (other_is i j r h)
  | inr n ↦ s.kept r c d a b n.0 ∙ ap (λ z. get_or xs (z + c * rows) d) (sym n.1)
]
swapped_at Columns rows columns xs ys i j s r c d a b = elim (either i j c) [
  | inl h ↦ s.written r c d a b h ∙ ap (λ z. get_or xs (r + z * rows) d) (other_is i j c h)
  | inr n ↦ s.kept r c d a b n.0 ∙ ap (λ z. get_or xs (r + z * rows) d) (sym n.1)
]

pub swapped_long : {A : Type 0} (side : Side) (grid : Grid) (xs ys : List A) (i j : ℕ) → Swapped side grid xs ys i j → length ys ≡ length xs
swapped_long Rows grid xs ys i j s = s.long
swapped_long Columns grid xs ys i j s = s.long

module _ {A : Type 0} (side : Side) (t : Table A) (i j : ℕ) (hi : i < lines_in side t.rows t.columns) (hj : j < lines_in side t.rows t.columns) where
  pub counts : Counts t (swap_lines (side_of side) i j) t.rows t.columns [] 0
  counts = go side hi hj
    where
      go : (side : Side) → i < lines_in side t.rows t.columns → j < lines_in side t.rows t.columns → Counts t (swap_lines (side_of side) i j) t.rows t.columns [] 0
      go Rows hi hj = rows_exchanged t i j hi hj
      go Columns hi hj = columns_exchanged t i j hi hj

  pub lost : lost_of t (swap_lines (side_of side) i j) ≡ []
  lost = go side hi hj
    where
      go : (side : Side) → i < lines_in side t.rows t.columns → j < lines_in side t.rows t.columns → lost_of t (swap_lines (side_of side) i j) ≡ []
      go Rows hi hj = rows_exchanged_lost t i j hi hj
      go Columns hi hj = columns_exchanged_lost t i j hi hj

  -- the origins of the lines
  pub row_origin : (r : ℕ) → r < t.rows → (get_or (rows_of t (swap_lines (side_of side) i j)) r (new 0) ≡ old (row_from side i j r)) × (row_from side i j r < t.rows)
  row_origin r a = go side hi hj
    where
      go : (side : Side) → i < lines_in side t.rows t.columns → j < lines_in side t.rows t.columns
          → (get_or (rows_of t (swap_lines (side_of side) i j)) r (new 0) ≡ old (row_from side i j r)) × (row_from side i j r < t.rows)
      go Rows hi hj = (swap_at i j t.rows r (new 0) a, swapped_below i j t.rows r hi hj a)
      go Columns hi hj = (keep_at t.rows r (new 0) a, a)

  pub column_origin : (c : ℕ) → c < t.columns → (get_or (columns_of t (swap_lines (side_of side) i j)) c (new 0) ≡ old (column_from side i j c)) × (column_from side i j c < t.columns)
  column_origin c b = go side hi hj
    where
      go : (side : Side) → i < lines_in side t.rows t.columns → j < lines_in side t.rows t.columns
          → (get_or (columns_of t (swap_lines (side_of side) i j)) c (new 0) ≡ old (column_from side i j c)) × (column_from side i j c < t.columns)
      go Rows hi hj = (keep_at t.columns c (new 0) b, b)
      go Columns hi hj = (swap_at i j t.columns c (new 0) b, swapped_below i j t.columns c hi hj b)

  module _ (right : Right t) (xs ys : List A) (s : Swapped side (dense t.rows t.columns) xs ys i j) where
    -- the table with the lines exchanged
    pub exchanged_cells : t.cells ≡ take (t.rows * t.columns) xs → take (t.rows * t.columns) ys ≡ (changed t (swap_lines (side_of side) i j)).cells
    exchanged_cells lies =
        let room = lying t xs right lies in
        let long = swapped_long side (dense t.rows t.columns) xs ys i j s in
        moved_cells t (swap_lines (side_of side) i j) (row_from side i j) (column_from side i j) xs ys right lies counts (omega arith)
        row_origin column_origin (λ r c d a b. swapped_at side t.rows t.columns xs ys i j s r c d a b)

    -- and exchanged back: xs holds the table with the lines exchanged
    pub exchanged_back : t.rows * t.columns ≤ length xs → take (t.rows * t.columns) xs ≡ (changed t (swap_lines (side_of side) i j)).cells
        → take (t.rows * t.columns) ys ≡ t.cells
    exchanged_back room lies =
        let ch : Change A = swap_lines (side_of side) i j in
        let long = swapped_long side (dense t.rows t.columns) xs ys i j s in
        table_cells t ys right (omega arith) (λ r c a b.
        let hr = (row_origin r a).1 in
        let hc = (column_origin c b).1 in
        let below = mul-add-lt c t.rows r t.columns b a in
        let from = mul-add-lt (column_from side i j c) t.rows (row_from side i j r) t.columns hc hr in
        same_cell ys xs (r + c * t.rows) (row_from side i j r + column_from side i j c * t.rows) (omega arith) (omega arith)
        (λ d. swapped_at side t.rows t.columns xs ys i j s r c d a b)
        ∙ former_cell t ch t.rows t.columns xs right counts.named counts.rows counts.columns lies
        (row_from side i j r) (column_from side i j c) r c hr hc
        ((row_origin (row_from side i j r) hr).0 ∙ ap old (row_twice side r)) ((column_origin (column_from side i j c) hc).0 ∙ ap old (column_twice side c)))
      where
        row_twice : (side : Side) (r : ℕ) → row_from side i j (row_from side i j r) ≡ r
        row_twice Rows r = swapped_twice i j r
        row_twice Columns r = refl

        column_twice : (side : Side) (c : ℕ) → column_from side i j (column_from side i j c) ≡ c
        column_twice Rows c = refl
        column_twice Columns c = swapped_twice i j c
