-- Steps of the loop that moves a block of cells.
use Rattle.std.proofs.Common.{◌≡◌, ℕ, ◌+◌, ◌-◌, ◌*◌, ◌<◌, ◌≤◌, min, List, length, get_or, ap, ◌∙◌, inl, inr, arith}
use Rattle.std.proofs.Math.Nat.{min-eq_left, min-eq_right}
use Rattle.std.proofs.lemmas.Bool.{cases_lt}
use Rattle.moves.specs.Slides.{Copied}

-- an element read by its place written in two ways
pub at : {X : Type 0} (xs : List X) (d : X) (p q : ℕ) → p ≡ q → get_or xs p d ≡ get_or xs q d
at xs d p q e = ap (λ (n : ℕ). get_or xs n d) e

-- ys is xs with the cells i to len of the block at `from` copied to `to`: a move that goes from the block's end down
pub record SlidFrom {X : Type 0} (xs ys : List X) (from to i len : ℕ) : Type 0 where
  pub long : length ys ≡ length xs
  pub moved : (k : ℕ) (d : X) → i ≤ k → k < len → get_or ys (to + k) d ≡ get_or xs (from + k) d
  pub below : (k : ℕ) (d : X) → k < to + i → get_or ys k d ≡ get_or xs k d
  pub above : (k : ℕ) (d : X) → to + len ≤ k → get_or ys k d ≡ get_or xs k d

module _ {X : Type 0} (xs ys zs : List X) (from to : ℕ) where
  -- a move of i cells and one of m after them, the target left of the source
  pub slid_on : (i m e f t : ℕ) → e ≡ i + m → f ≡ from + i → t ≡ to + i → to ≤ from → Copied xs xs ys from to i → Copied ys ys zs f t m → Copied xs xs zs from to e
  slid_on i m e f t ee fe te le s u = record {
    long = u.long ∙ s.long;
    put = λ k d h. elim (cases_lt k i) [
      | inl l ↦ u.below (to + k) d (omega arith) ∙ s.put k d l
      | inr l ↦ at zs d (to + k) (t + (k - i)) (omega arith) ∙ u.put (k - i) d (omega arith) ∙ s.above (f + (k - i)) d (omega arith) ∙ at xs d (f + (k - i)) (from + k) (omega arith)
    ];
    below = λ k d h. u.below k d (omega arith) ∙ s.below k d h;
    above = λ k d h. u.above k d (omega arith) ∙ s.above k d (omega arith);
  }

  -- the same from the block's end down, the target right of the source: j is the new front
  pub slid_from_on : (i j m len f t : ℕ) → i ≡ j + m → i ≤ len → f ≡ from + j → t ≡ to + j → from ≤ to → SlidFrom xs ys from to i len → Copied ys ys zs f t m → SlidFrom xs zs from to j len
  slid_from_on i j m len f t ie il fe te le s u = record {
    long = u.long ∙ s.long;
    moved = λ k d h l. elim (cases_lt k i) [
      | inl b ↦ at zs d (to + k) (t + (k - j)) (omega arith) ∙ u.put (k - j) d (omega arith) ∙ s.below (f + (k - j)) d (omega arith) ∙ at xs d (f + (k - j)) (from + k) (omega arith)
      | inr b ↦ u.above (to + k) d (omega arith) ∙ s.moved k d b l
    ];
    below = λ k d h. u.below k d (omega arith) ∙ s.below k d (omega arith);
    above = λ k d h. u.above k d (omega arith) ∙ s.above k d (omega arith);
  }

-- a block copied out to another list and from there back to the first, at another place
pub slid_through : {X : Type 0} (xs bs cs ys : List X) (from to len : ℕ) → Copied xs bs cs from 0 len → Copied cs xs ys 0 to len → Copied xs xs ys from to len
slid_through xs bs cs ys from to len out back = record {
  long = back.long;
  put = λ k d h. back.put k d h ∙ out.put k d h;
  below = back.below;
  above = back.above;
}

-- where a part of at most 4096 cells begins and ends in a block of len cells
pub part_ends : (k len start m : ℕ) → start ≡ 4096 * k → start < len → m ≡ min (len - start) 4096
    → (min (4096 * k) len ≡ start) × (min (4096 * (k + 1)) len ≡ start + m)
part_ends k len start m e l f =
    let a : min (4096 * k) len ≡ 4096 * k = min-eq_left (omega arith) in
    elim (cases_lt (len - start) 4096) [
      | inl s ↦
          let b : min (4096 * (k + 1)) len ≡ len = min-eq_right (omega arith) in
          let c : min (len - start) 4096 ≡ len - start = min-eq_left (omega arith) in
          (omega arith, omega arith)
      | inr s ↦
          let b : min (4096 * (k + 1)) len ≡ 4096 * (k + 1) = min-eq_left (omega arith) in
          let c : min (len - start) 4096 ≡ 4096 = min-eq_right (omega arith) in
          (omega arith, omega arith)
    ]
