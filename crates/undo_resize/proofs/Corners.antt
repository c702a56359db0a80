-- Places of a table before and after it gets its former shape back.
use Rattle.std.proofs.Common.{◌≡◌, ℕ, ◌+◌, ◌-◌, ◌*◌, min, List, get_or, ap, ◌∙◌, ap₂, mul_comm, arith}
use Rattle.moves.specs.Slides.{Copied}
use Rattle.moves.proofs.Places.{columns_lt, columns_split, columns_sum, columns_same}
use Rattle.model.proofs.Resized.{outside}
use Rattle.undo_resize.specs.Back.{RowsBack, ShapeBack}

-- b columns are in both shapes
module _ (m n R C b : ℕ) (both : b ≡ min C n) where
  -- the cells below the corner, and then those behind it
  pub both_parts : (R - m) * b + (C - b) * R ≡ R * C - min R m * min C n
  both_parts =
      let a : ℕ = min R m in
      let e : (R - a) * b ≡ (R - m) * b = columns_same (R - a) (R - m) b (omega arith) in
      let f = outside R C a b (omega arith) (omega arith) in
      let g : a * b ≡ a * min C n = ap (λ z. a * z) both in
      let h = mul_comm R (C - b) in
      omega arith

  pub widened : {X : Type 0} (src xs zs ys : List X) (l : ℕ) → l ≡ R - m → RowsBack src xs zs m R b
      → Copied src zs ys (l * b) (b * R) ((C - b) * R) → ShapeBack src xs ys m n R C
  widened src xs zs ys l low h f = record {
    long = f.long ∙ h.long;
    stay = λ r c d hm hR hn hC.
        f.below (r + c * R) d (omega (arith, columns_lt c b R (omega arith))) ∙ h.stay r c d hm hR (omega arith);
    lower = λ r c d hr hn hC.
        f.below (m + r + c * R) d (omega (arith, columns_lt c b R (omega arith))) ∙ h.lower r c d hr (omega arith);
    behind = λ r c d hr hc.
        let e : b ≡ n = omega arith in
        let g : (n + c) * R ≡ b * R + c * R = columns_same (n + c) (b + c) R (omega arith) ∙ columns_sum b c R in
        let inside = columns_lt c (C - b) R (omega arith) in
        ap (λ z. get_or ys z d) (let z : r + (n + c) * R ≡ b * R + (r + c * R) = omega arith in z)
        ∙ f.put (r + c * R) d (omega arith)
        ∙ ap₂ (λ x z. get_or src (x * z + (r + c * R)) d) low both;
    rest = λ k d a.
        let all = columns_split b C R (omega arith) in
        f.above k d (omega arith) ∙ h.rest k d (omega arith);
  }
