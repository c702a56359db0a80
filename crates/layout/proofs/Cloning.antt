-- Turns of the loops that copy a layout's table.
use Rattle.std.proofs.Common.{◌≡◌, ℕ, ◌+◌, ◌*◌, ◌≤◌, List, get_or, sym, ap, ◌∙◌, inl, inr, mul-le-mul_right, add-mul, one-mul, arith}
use Rattle.std.proofs.lemmas.Bool.{cases_lt}
use Rattle.layout.specs.Lawful.{Grid}
use Rattle.layout.specs.Cells.{ColumnCloned, Cloned}

module _ {T : Type 0} (grid : Grid) (xs was is : List T) where
  next_column : (c : ℕ) → (c + 1) * grid.rows ≡ c * grid.rows + grid.rows
  next_column c = add-mul c 1 grid.rows ∙ ap (λ n. c * grid.rows + n) (one-mul grid.rows)

  -- one column more
  pub cloned_more : (next : List T) (n : ℕ) → Cloned grid xs was is n → ColumnCloned grid xs is next n grid.rows → Cloned grid xs was next (n + 1)
  cloned_more next n s t = record {
    long = t.long ∙ s.long;
    cells = λ r c d h l. elim (cases_lt c n) [
      | inl b ↦
          let a : (c + 1) * grid.rows ≤ n * grid.rows = mul-le-mul_right grid.rows (let z : c + 1 ≤ n = omega arith in z) in
          t.before (r + c * grid.rows) d (omega (arith, next_column c)) ∙ s.cells r c d h b
      | inr b ↦
          let e : c ≡ n = omega arith in
          let p : c * grid.rows ≡ n * grid.rows = ap (λ z. z * grid.rows) e in
          ap (λ z. get_or next z d) (let z : r + c * grid.rows ≡ n * grid.rows + r = omega arith in z)
          ∙ t.cells r d h ∙ ap (λ z. get_or xs (grid.place r z) d) (sym e)
    ];
    rest = λ k d h. t.behind k d (omega (arith, next_column n)) ∙ s.rest k d (omega (arith, next_column n));
  }
