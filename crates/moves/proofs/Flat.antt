-- Columns as rows of the table seen as one column, cell by cell.
use Rattle.std.proofs.Common.{◌≡◌, ℕ, ◌+◌, ◌-◌, ◌*◌, ◌<◌, ◌≤◌, List, length, get_or, ◌∙◌, zero-mul, arith, lit<}
use Rattle.layout.specs.declared.side.Side.TheVariants.{Columns}
use Rattle.moves.specs.Blocks.{block_of}
use Rattle.moves.specs.Tables.{Compressed, Joined, Saved}
use Rattle.moves.proofs.Slides.{at}

module _ {X : Type 0} (xs ys : List X) (m columns i n : ℕ) where
  module _ (h : Compressed xs ys (block_of Columns m columns i n)) where
    pub compressed_before : (k : ℕ) (d : X) → k < i * m → get_or ys k d ≡ get_or xs k d
    compressed_before k d l =
        at ys d k (k + 0 * (m * columns - n * m)) (omega (arith, zero-mul (m * columns - n * m))) ∙ h.upper k 0 d l (lit< tt)
        ∙ at xs d (k + 0 * (m * columns)) k (omega (arith, zero-mul (m * columns)))

    pub compressed_behind : (k : ℕ) (d : X) → i * m ≤ k → k < m * columns - n * m → get_or ys k d ≡ get_or xs (k + n * m) d
    compressed_behind k d l b =
        at ys d k (k + 0 * (m * columns - n * m)) (omega (arith, zero-mul (m * columns - n * m))) ∙ h.lower k 0 d l b (lit< tt)
        ∙ at xs d (k + n * m + 0 * (m * columns)) (k + n * m) (omega (arith, zero-mul (m * columns)))

  module _ (cell : ℕ → ℕ → X → X) (h : Joined xs ys (block_of Columns m columns i n) cell) where
    pub joined_before : (k : ℕ) (d : X) → k < i * m → get_or ys k d ≡ get_or xs k d
    joined_before k d l =
        at ys d k (k + 0 * (m * columns + n * m)) (omega (arith, zero-mul (m * columns + n * m))) ∙ h.upper k 0 d l (lit< tt)
        ∙ at xs d (k + 0 * (m * columns)) k (omega (arith, zero-mul (m * columns)))

    pub joined_new : (k : ℕ) (d : X) → k < n * m → get_or ys (i * m + k) d ≡ cell k 0 d
    joined_new k d l =
        at ys d (i * m + k) (i * m + k + 0 * (m * columns + n * m)) (omega (arith, zero-mul (m * columns + n * m))) ∙ h.put k 0 d l (lit< tt)

    pub joined_behind : (k : ℕ) (d : X) → i * m ≤ k → k < m * columns → get_or ys (k + n * m) d ≡ get_or xs k d
    joined_behind k d l b =
        at ys d (k + n * m) (k + n * m + 0 * (m * columns + n * m)) (omega (arith, zero-mul (m * columns + n * m))) ∙ h.lower k 0 d l b (lit< tt)
        ∙ at xs d (k + 0 * (m * columns)) k (omega (arith, zero-mul (m * columns)))

  pub saved_flat : (src : List X) → Saved src xs ys (block_of Columns m columns i n) → (k : ℕ) (d : X) → k < n * m
      → get_or ys (length xs + k) d ≡ get_or src (i * m + k) d
  saved_flat src h k d l =
      at ys d (length xs + k) (length xs + (k + 0 * (n * m))) (omega (arith, zero-mul (n * m))) ∙ h.saved k 0 d l (lit< tt)
      ∙ at src d (i * m + k + 0 * (m * columns)) (i * m + k) (omega (arith, zero-mul (m * columns)))
