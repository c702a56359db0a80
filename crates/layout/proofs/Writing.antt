-- Writing through a layout, cell by cell and part by part.
use Rattle.std.proofs.Common.{◌≡◌, ℕ, ◌<◌, ◌⊎◌, List, length, get_or, set, sym, ap, ◌∙◌, inl, inr, length-set, get_or-set_other, get_or-set_same}
use Rattle.layout.specs.Lawful.{Grid, Distinct}
use Rattle.layout.specs.Written.{Written}

module _ {T : Type 0} (grid : Grid) where
  -- one cell, whose place is p
  pub cell_written : Distinct grid → (was : List T) (i j p : ℕ) (v : T) → i < grid.rows → j < grid.columns → p ≡ grid.place i j → p < length was
      → Written grid was (set was p v) (λ r c. (r ≡ i) × (c ≡ j)) (λ r c d. v)
  cell_written distinct was i j p v hi hj e there = record {
    long = length-set was p v;
    written = λ r c d hr hc at.
        ap (λ z. get_or (set was p v) z d) (ap (λ z. grid.place z c) at.0 ∙ ap (grid.place i) at.1 ∙ sym e)
        ∙ get_or-set_same was p v d there;
    kept = λ r c d hr hc not. get_or-set_other was p (grid.place r c) v d (λ z. not (distinct r c i j hr hc hi hj (z ∙ e)));
    others = λ k d no. get_or-set_other was p k v d (λ z. no i j hi hj (z ∙ e));
  }

  -- one part after another: no cell is in both, and `at` names the cells of both
  pub more_written : (was mid is : List T) (one two at : ℕ → ℕ → Type 0) (cell next : ℕ → ℕ → T → T)
      → Written grid was mid one cell → Written grid mid is two next
      → ((r c : ℕ) → r < grid.rows → c < grid.columns → at r c → (one r c × (two r c → ⊥)) ⊎ two r c)
      → ((r c : ℕ) → r < grid.rows → c < grid.columns → one r c ⊎ two r c → at r c)
      → ((r c : ℕ) (d : T) → r < grid.rows → c < grid.columns → two r c → next r c d ≡ cell r c d)
      → Written grid was is at cell
  more_written was mid is one two at cell next s t split join same = record {
    long = t.long ∙ s.long;
    written = λ r c d hr hc h. elim (split r c hr hc h) [
      | inl first ↦ t.kept r c d hr hc first.1 ∙ s.written r c d hr hc first.0
      | inr second ↦ t.written r c d hr hc second ∙ same r c d hr hc second
    ];
    kept = λ r c d hr hc no.
        t.kept r c d hr hc (λ h. no (join r c hr hc (inr h))) ∙ s.kept r c d hr hc (λ h. no (join r c hr hc (inl h)));
    others = λ k d no. t.others k d no ∙ s.others k d no;
  }
