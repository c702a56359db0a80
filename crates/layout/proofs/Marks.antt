-- The loop that marks the listed rows.
use Rattle.std.proofs.Common.{◌≡◌, ℕ, ◌<◌, Bool, true, false, List, length, get_or, replicate, sym, ◌∙◌, inl, inr, arith}
use lib.ListN.{length-replicate, get_or-replicate}
use Rattle.std.proofs.lemmas.List.{get_or_past}
use Rattle.std.proofs.lemmas.Bool.{cases_lt}
use Rattle.layout.specs.Picked.{OnceTo}

-- the marks are those of the first i rows of the list, and no two of these are the same
pub record Marked (list : List ℕ) (marks : List Bool) (i : ℕ) : Type 0 where
  pub long : length marks ≡ 4096
  pub marked : (k : ℕ) → k < i → get_or marks (get_or list k 0) false ≡ true
  pub listed : (r : ℕ) → get_or marks r false ≡ true → (k : ℕ) × (k < i) × (get_or list k 0 ≡ r)
  pub once : OnceTo list i

unmarked : (n r : ℕ) → get_or (replicate n false) r false ≡ false
unmarked n r = elim (cases_lt r n) [ inl h ↦ get_or-replicate n r false false h | inr h ↦ get_or_past (replicate n false) r false (omega (arith, length-replicate n false)) ]

-- no row, no mark
pub marked_none : (list : List ℕ) (n : ℕ) → n ≡ 4096 → Marked list (replicate n false) 0
marked_none list n e = record {
  long = length-replicate n false ∙ e;
  marked = λ k h. absurd (omega arith);
  listed = λ r h. absurd (let f : false ≡ true = sym (unmarked n r) ∙ h in let z : ◌≡◌ {A = ℕ} 0 1 = cc in omega arith);
  once = λ k m h. absurd (omega arith);
}
