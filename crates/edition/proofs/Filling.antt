-- Turns of the loops that write triangles.
use Rattle.std.proofs.Common.{◌≡◌, ℕ, ◌+◌, ◌<◌, ◌≤◌, List, sym, ap, ◌∙◌, subst, inl, inr, ⊎_elim, arith}
use Rattle.std.proofs.lemmas.Bool.{cases_eq}
use Rattle.layout.specs.Lawful.{Grid}
use Rattle.layout.specs.Written.{Written}
use Rattle.layout.proofs.Writing.{more_written}

module _ {T : Type 0} (grid : Grid) (was is next : List T) (cell : ℕ → ℕ → T → T) where
  -- one cell more of column j, which is written from row k on
  pub column_more : (j k n : ℕ) (v : T) → k ≤ n
      → ((d : T) → v ≡ cell n j d)
      → Written grid was is (λ r c. (c ≡ j) × (k ≤ r) × (r < n)) cell
      → Written grid is next (λ r c. (r ≡ n) × (c ≡ j)) (λ r c d. v)
      → Written grid was next (λ r c. (c ≡ j) × (k ≤ r) × (r < n + 1)) cell
  column_more j k n v hk same so t =
      more_written grid was is next _ _ _ _ _ so t
      (λ r c hr hc at. elim (cases_eq r n) [
        | inl z ↦ inr (z, at.0)
        | inr ne ↦ inl ((at.0, at.1, omega arith), λ z. ne z.0)
      ])
      (λ r c hr hc. ⊎_elim (λ z. (z.0, z.1, omega arith)) (λ z. (z.1, omega arith, omega arith)))
      (λ r c d hr hc at. same d ∙ ap (λ z. cell z j d) (sym at.0) ∙ ap (λ z. cell r z d) (sym at.1))

  -- one column more: `from` is where its triangle begins
  pub columns_more : (from : ℕ → ℕ) (n k : ℕ) (column : ℕ → ℕ → T → T) → ((r : ℕ) → r < grid.rows → (k ≤ r → from n ≤ r) × (from n ≤ r → k ≤ r))
      → Written grid was is (λ r c. (c < n) × (from c ≤ r)) cell
      → Written grid is next (λ r c. (c ≡ n) × (k ≤ r)) column
      → ((r c : ℕ) (d : T) → r < grid.rows → c < grid.columns → (c ≡ n) × (k ≤ r) → column r c d ≡ cell r c d)
      → Written grid was next (λ r c. (c < n + 1) × (from c ≤ r)) cell
  columns_more from n k column same so t agree =
      more_written grid was is next _ _ _ _ _ so t
      (λ r c hr hc at. elim (cases_eq c n) [
        | inl e ↦ inr (e, (same r hr).1 (subst (λ z. from z ≤ r) e at.1))
        | inr ne ↦ inl ((omega arith, at.1), λ z. ne z.0)
      ])
      (λ r c hr hc. ⊎_elim (λ z. (omega arith, z.1)) (λ z. (omega arith, subst (λ y. from y ≤ r) (sym z.0) ((same r hr).0 z.1))))
      agree
