-- The layout of some rows of a dense table: what it means, what its check asks, and that it keeps the law.
use Rattle.std.specs.Prelude.{◌≡◌, ℕ, ◌+◌, ◌*◌, ◌<◌, ◌≤◌, List, [], ◌∷◌, length, ◌≢◌, slice_index}
use Rattle.std.proofs.Common.{sym, inl, inr, arith}
use Rattle.std.proofs.lemmas.Nat.{mul-add-lt}
use Rattle.std.proofs.lemmas.Bool.{cases_order}
use Rattle.layout.specs.declared.refusal.Refusal.{Refusal}
use Rattle.layout.specs.Checks.{Rule, ◌else◌}
use Rattle.layout.specs.Dense.{same_parts}
use Rattle.layout.specs.Lawful.{Grid, Lawful, dense, selected_rows}

-- the listed rows of a dense table
abbrev pub picked : (list : List ℕ) (rows columns : ℕ) → Grid
picked list rows columns = selected_rows (dense rows columns) list

-- each listed line is one of the first `count`
abbrev pub Below : (list : List ℕ) (count : ℕ) → Type 0
Below list count = (k : ℕ) → k < length list → slice_index list k < count

-- no two of the first n are the same
abbrev pub OnceTo : (list : List ℕ) (n : ℕ) → Type 0
OnceTo list n = (k m : ℕ) → (k < m) × (m < n) → slice_index list k ≢ slice_index list m

-- no line is listed twice
abbrev pub Once : (list : List ℕ) → Type 0
Once list = OnceTo list (length list)

abbrev pub picked_rules : (list : List ℕ) (rows columns : ℕ) → List Rule
picked_rules list rows columns =
    (Below list rows else Refusal.NoSuchLine)
    ∷ (((rows ≤ 4096) × (columns ≤ 4096) × (length list ≤ 4096)) else Refusal.TooManyLines)
    ∷ ((rows * columns ≤ 65536) else Refusal.TooManyCells)
    ∷ (Once list else Refusal.CellsMeet)
    ∷ []

pub listed_once : (list : List ℕ) → Once list → (k m : ℕ) → k < length list → m < length list → slice_index list k ≡ slice_index list m → k ≡ m
listed_once list once k m p q e =
    elim (cases_order k m) [
      | inl same ↦ same
      | inr (inl less) ↦ absurd (once k m (less, q) e)
      | inr (inr more) ↦ absurd (once m k (more, p) (sym e))
    ]

-- the place of a listed row lies below the span
pub picked_within : (list : List ℕ) (rows columns r c : ℕ) → Below list rows → r < length list → c < columns → slice_index list r + c * rows < rows * columns
picked_within list rows columns r c below p q = omega (arith, mul-add-lt c rows (slice_index list r) columns q (below r p))

pub picked_lawful : (list : List ℕ) (rows columns : ℕ) → Below list rows → length list ≤ 4096 → columns ≤ 4096 → rows * columns ≤ 65536 → Once list → Lawful (picked list rows columns)
picked_lawful list rows columns below h k l once =
    record {
      few_rows = h;
      few_columns = k;
      short_span = l;
      within = λ r c p q. picked_within list rows columns r c below p q;
      distinct = λ r c i j p q p' q' e.
          let s = same_parts c rows (slice_index list r) j (slice_index list i) (below r p) (below i p') (omega arith) in
          (listed_once list once r i p p' s.1, s.0);
    }
