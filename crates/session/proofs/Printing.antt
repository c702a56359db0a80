-- The rows of a table, written one after the other.
use Rattle.std.proofs.Common.{◌≡◌, ℕ, suc, ◌+◌, ◌-◌, ◌<◌, ◌≤◌, List, ◌++◌, sym, ap, ◌∙◌, append_assoc, append-nil, arith}
use Rattle.std.specs.List.{range_with_len, flat_map}
use Rattle.model.specs.Sheet.{Table}
use Rattle.answers.specs.Answers.{row_text}
use Rattle.session.specs.Transcript.{row_of}

-- the rows from r on
abbrev pub printed_from : Table ℕ → ℕ → List ℕ
printed_from t r = flat_map (λ k. row_text (row_of t k)) (range_with_len r (t.rows - r))

module _ (t : Table ℕ) (old all : List ℕ) where
  pub one_more : (r : ℕ) (new : List ℕ) → r < t.rows → new ≡ old ++ row_text (row_of t r) → old ++ printed_from t r ≡ all → new ++ printed_from t (r + 1) ≡ all
  one_more r new h e k =
      ap (λ z. z ++ printed_from t (r + 1)) e
      ∙ append_assoc old (row_text (row_of t r)) (printed_from t (r + 1))
      ∙ ap (λ z. old ++ flat_map (λ k. row_text (row_of t k)) (range_with_len r z)) (let z : suc (t.rows - (r + 1)) ≡ t.rows - r = omega arith in z)
      ∙ k

  pub none_left : (r : ℕ) → t.rows ≤ r → old ++ printed_from t r ≡ all → old ≡ all
  none_left r h k =
      sym (append-nil old) ∙ ap (λ z. old ++ flat_map (λ k. row_text (row_of t k)) (range_with_len r z)) (let z : 0 ≡ t.rows - r = omega arith in z) ∙ k
