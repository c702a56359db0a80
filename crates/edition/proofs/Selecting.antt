-- Turns of the loops that copy listed lines, and the dense table that they leave.
use Rattle.std.proofs.Common.{◌≡◌, ℕ, ◌+◌, ◌*◌, ◌<◌, List, length, get_or, set, sym, ap, ◌∙◌, inl, inr, ⊎_elim, mul_comm, mul-one, arith}
use Rattle.std.proofs.lemmas.Nat.{mul-add-lt}
use Rattle.std.proofs.lemmas.Bool.{cases_eq}
use Rattle.layout.specs.Cells.{Cloned}
use Rattle.layout.specs.Dense.{same_parts}
use Rattle.layout.specs.Lawful.{Grid, Distinct, selected_rows}
use Rattle.layout.specs.Written.{Written}
use Rattle.layout.proofs.Writing.{cell_written, more_written}
use Rattle.edition.specs.declared.Lines.{Lines}
use Rattle.edition.specs.Selections.{Packed, Selected, selected_columns, spread}
use Rattle.edition.specs.Turned.{turn}

module _ {T : Type 0} (grid : Grid) (was is : List T) (cell : ℕ → ℕ → T → T) where
  -- one cell more of line k
  pub line_more : Distinct grid → (k n p : ℕ) (v : T) → k < grid.rows → n < grid.columns → p ≡ grid.place k n → p < length is
      → ((d : T) → v ≡ cell k n d)
      → Written grid was is (λ i c. (i ≡ k) × (c < n)) cell
      → Written grid was (set is p v) (λ i c. (i ≡ k) × (c < n + 1)) cell
  line_more distinct k n p v hk hn e there same so =
      more_written grid was is (set is p v) _ _ _ _ _ so (cell_written grid distinct is k n p v hk hn e there)
      (λ i c hi hc at. elim (cases_eq c n) [
        | inl z ↦ inr (at.0, z)
        | inr ne ↦ inl ((at.0, omega arith), λ z. ne z.1)
      ])
      (λ i c hi hc. ⊎_elim (λ z. (z.0, omega arith)) (λ z. (z.0, omega arith)))
      (λ i c d hi hc at. same d ∙ ap (λ z. cell z n d) (sym at.0) ∙ ap (λ z. cell i z d) (sym at.1))

-- n rows, one behind the other in each of w columns
abbrev pub row_lines : ℕ → Lines
row_lines n = record { count = n; line_step = 1; cell_step = n }

-- n columns of w cells, one behind the other
abbrev pub column_lines : ℕ → ℕ → Lines
column_lines n w = record { count = n; line_step = w; cell_step = 1 }

module _ (n w : ℕ) where
  -- place of cell c of row k, without the step of 1
  pub row_place : (k c : ℕ) → k * 1 + c * n ≡ c * n + k
  row_place k c = omega (arith, mul-one k)

  pub column_place : (k c : ℕ) → k * w + c * 1 ≡ k * w + c
  column_place k c = omega (arith, mul-one c)

  pub rows_within : (k c : ℕ) → k < n → c < w → k * 1 + c * n < n * w
  rows_within k c p q = omega (arith, row_place k c, mul-add-lt c n k w q p, mul_comm n w)

  pub columns_within : (k c : ℕ) → k < n → c < w → k * w + c * 1 < n * w
  columns_within k c p q = omega (arith, column_place k c, mul-add-lt k w c n p q)

  pub rows_packed : Packed (spread (row_lines n) w)
  rows_packed = (
    rows_within,
    λ r c i j p q p' q' e. let s = same_parts c n r j i p p' (omega (arith, row_place r c, row_place i j)) in (s.1, s.0),
  )

  pub columns_packed : Packed (spread (column_lines n w) w)
  columns_packed = (columns_within, λ r c i j p q p' q' e. same_parts r w c i j q q' (omega (arith, column_place r c, column_place i j)))

module _ {T : Type 0} (grid : Grid) (list : List ℕ) (xs was is : List T) where
  -- lines that are rows of a dense table
  pub rows_selected : Selected grid list (row_lines (length list)) xs was is
      → Cloned (selected_rows grid list) xs was is grid.columns
  rows_selected s = record {
    long = s.long;
    cells = λ r c d p q.
        ap (λ z. get_or is z d) (let z : r + c * length list ≡ r * 1 + c * length list = omega (arith, row_place (length list) 0 r c) in z)
        ∙ s.written r c d p q p;
    rest = λ k d h. s.others k d (λ r c p q e. omega (arith, rows_within (length list) grid.columns r c p q, mul_comm (length list) grid.columns));
  }

  -- lines that are columns of a dense table
  pub columns_selected : Selected (turn grid) list (column_lines (length list) grid.rows) xs was is
      → Cloned (selected_columns grid list) xs was is (length list)
  columns_selected s = record {
    long = s.long;
    cells = λ r c d p q.
        ap (λ z. get_or is z d) (let z : r + c * grid.rows ≡ c * grid.rows + r * 1 = omega (arith, column_place 0 grid.rows c r) in z)
        ∙ s.written c r d q p q;
    rest = λ k d h. s.others k d (λ c r p q e. omega (arith, columns_within (length list) grid.rows c r p q));
  }
