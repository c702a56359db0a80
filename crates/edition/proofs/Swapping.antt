-- A turn of the loop that swaps two rows.
use Rattle.std.proofs.Common.{◌≡◌, ℕ, ◌+◌, ◌<◌, eqb, ◌⊎◌, List, length, get_or, sym, ap, ◌∙◌, inl, inr, ⊎_elim, arith}
use Rattle.std.proofs.lemmas.Bool.{cases_eq, cond-true, cond-false, eq-eqb, ne_eqb}
use Rattle.layout.specs.Lawful.{Grid, Distinct}
use Rattle.layout.specs.Written.{Written, cell_of}
use Rattle.layout.proofs.Writing.{more_written}
use Rattle.edition.specs.Swaps.{other}

-- what swapping the places p and q leaves
pub record Exchanged {T : Type 0} (was is : List T) (p q : ℕ) : Type 0 where
  pub long : length is ≡ length was
  pub there : (d : T) → get_or is p d ≡ get_or was q d
  pub back : (d : T) → get_or is q d ≡ get_or was p d
  pub rest : (k : ℕ) (d : T) → (k ≡ p → ⊥) → (k ≡ q → ⊥) → get_or is k d ≡ get_or was k d

module _ {T : Type 0} (grid : Grid) (distinct : Distinct grid) (was is next : List T) (i j : ℕ) (hi : i < grid.rows) (hj : j < grid.rows) where
  -- the two cells of column n
  pub column_swapped : (n p q : ℕ) → n < grid.columns → p ≡ grid.place i n → q ≡ grid.place j n → Exchanged is next p q
      → Written grid is next (λ r c. ((r ≡ i) ⊎ (r ≡ j)) × (c ≡ n)) (λ r c d. cell_of grid is (other i j r) c d)
  column_swapped n p q hn ep eq s = record {
    long = s.long;
    written = λ r c d hr hc at. elim (cases_eq r i) [
      | inl e ↦
          ap (λ z. get_or next z d) (ap (λ z. grid.place z c) e ∙ ap (grid.place i) at.1 ∙ sym ep)
          ∙ s.there d
          ∙ ap (λ z. get_or is z d) (eq ∙ sym (ap (grid.place j) at.1) ∙ ap (λ z. grid.place z c) (sym (cond-true (eqb r i) j i (eq-eqb r i e))))
      | inr ne ↦
          let e : r ≡ j = ⊎_elim (λ z. absurd (ne z)) (λ z. z) at.0 in
          ap (λ z. get_or next z d) (ap (λ z. grid.place z c) e ∙ ap (grid.place j) at.1 ∙ sym eq)
          ∙ s.back d
          ∙ ap (λ z. get_or is z d) (ep ∙ sym (ap (grid.place i) at.1) ∙ ap (λ z. grid.place z c) (sym (cond-false (eqb r i) j i (ne_eqb r i ne))))
    ];
    kept = λ r c d hr hc not.
        s.rest (grid.place r c) d
        (λ e. let z = distinct r c i n hr hc hi hn (e ∙ ep) in not (inl z.0, z.1))
        (λ e. let z = distinct r c j n hr hc hj hn (e ∙ eq) in not (inr z.0, z.1));
    others = λ k d no. s.rest k d (λ e. no i n hi hn (e ∙ ep)) (λ e. no j n hj hn (e ∙ eq));
  }

  -- one column more
  pub swapped_more : (n p q : ℕ) → n < grid.columns → p ≡ grid.place i n → q ≡ grid.place j n → Exchanged is next p q
      → Written grid was is (λ r c. ((r ≡ i) ⊎ (r ≡ j)) × (c < n)) (λ r c d. cell_of grid was (other i j r) c d)
      → Written grid was next (λ r c. ((r ≡ i) ⊎ (r ≡ j)) × (c < n + 1)) (λ r c d. cell_of grid was (other i j r) c d)
  swapped_more n p q hn ep eq s so =
      more_written grid was is next _ _ _ _ _ so (column_swapped n p q hn ep eq s)
      (λ r c hr hc at. elim (cases_eq c n) [
        | inl e ↦ inr (at.0, e)
        | inr ne ↦ inl ((at.0, omega arith), λ z. ne z.1)
      ])
      (λ r c hr hc. ⊎_elim (λ z. (z.0, omega arith)) (λ z. (z.0, omega arith)))
      (λ r c d hr hc at. so.kept (other i j r) c d (there r) hc (λ z. omega (arith, z.1, at.1)))
    where
      there : (r : ℕ) → other i j r < grid.rows
      there r = elim (cases_eq r i) [
        | inl e ↦ omega (arith, cond-true (eqb r i) j i (eq-eqb r i e))
        | inr ne ↦ omega (arith, cond-false (eqb r i) j i (ne_eqb r i ne))
      ]
