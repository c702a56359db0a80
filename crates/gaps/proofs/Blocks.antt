-- Steps that write a list, and a value behind it, into blocks of cells.
use Rattle.std.proofs.Common.{◌≡◌, ℕ, ◌+◌, ◌-◌, min, List, length, get_or, drop, sym, ◌∙◌, inl, inr, arith}
use Rattle.std.proofs.lemmas.List.{get_or_default, get_or_past, get_or-drop}
use Rattle.std.proofs.lemmas.Bool.{cases_lt}
use Rattle.moves.specs.Slides.{Copied, Filled}
use Rattle.moves.proofs.Slides.{at}
use Rattle.gaps.specs.Taken.{Taken}

module _ {X : Type 0} (xs ys zs vs : List X) (from len : ℕ) (v : X) where
  -- so many cells of the list, and then v
  pub taken_by : (count to more : ℕ) → count ≡ min len (length vs) → to ≡ from + count → more ≡ len - count
      → Copied vs xs ys 0 from count → Filled ys zs to more v → Taken xs zs from len vs v
  taken_by count to more ce te me s t = record {
    long = t.long ∙ s.long;
    put = λ k d h. elim (cases_lt k count) [
      | inl l ↦ t.below (from + k) d (omega arith) ∙ s.put k d l ∙ at vs d (0 + k) k (omega arith) ∙ get_or_default vs k d v (omega arith)
      | inr l ↦ at zs d (from + k) (to + (k - count)) (omega arith) ∙ t.put (k - count) d (omega arith) ∙ sym (get_or_past vs k v (omega arith))
    ];
    below = λ k d h. t.below k d (omega arith) ∙ s.below k d h;
    above = λ k d h. t.above k d (omega arith) ∙ s.above k d (omega arith);
  }

-- the list from where the first c columns have used it up
pub used_up : {X : Type 0} (vs : List X) (v : X) (used s r k : ℕ) → used ≡ min (length vs) s → k ≡ s + r → get_or (drop used vs) r v ≡ get_or vs k v
used_up vs v used s r k ue ke = get_or-drop used vs r v ∙ elim (cases_lt (length vs) s) [
  | inl l ↦ get_or_past vs (used + r) v (omega arith) ∙ sym (get_or_past vs k v (omega arith))
  | inr l ↦ at vs v (used + r) k (omega arith)
]
