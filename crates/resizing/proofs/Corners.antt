-- Places of a table before and after it gets another shape.
use Rattle.std.proofs.Common.{◌≡◌, ℕ, ◌+◌, ◌-◌, ◌*◌, ◌<◌, ◌≤◌, min, List, length, get_or, sym, ap, ◌∙◌, ap₂, inl, inr, mul_comm, one-mul, arith}
use Rattle.std.proofs.lemmas.Bool.{cases_lt}
use Rattle.layout.specs.declared.side.Side.TheVariants.{Columns}
use Rattle.moves.specs.Blocks.{block_of, rows_block}
use Rattle.moves.specs.Slides.{Filled}
use Rattle.moves.specs.Tables.{Inserted, Saved}
use Rattle.moves.proofs.Flat.{saved_flat}
use Rattle.moves.proofs.Places.{columns_lt, columns_split}
use Rattle.model.proofs.Resized.{outside}
use Rattle.resizing.specs.Resizing.{RowsResized, Resized, OutsideSaved}

-- rows put in behind the last one
pub grown : {X : Type 0} (xs ys : List X) (R C m : ℕ) (v : X) → R < m → Inserted xs ys (rows_block R C R (m - R)) v → RowsResized xs ys R C m v
grown xs ys R C m v more h =
    let e : R + (m - R) ≡ m = omega arith in
    record {
      long = h.long;
      stay = λ r c d a b k. ap (λ z. get_or ys (r + c * z) d) (sym e) ∙ h.upper r c d a k;
      come = λ r c d a b k.
          ap₂ (λ x z. get_or ys (x + c * z) d) (let f : r ≡ R + (r - R) = omega arith in f) (sym e)
          ∙ h.put (r - R) c d (omega arith) k;
      rest = λ k d a. let f : C * (R + (m - R)) ≡ C * m = ap (λ z. C * z) e in h.rest k d (omega arith);
    }

-- b columns stay, and each then has m rows; with the new ones they are n columns
module _ (R C m n b : ℕ) (stays : b ≡ min C n) where
  pub widened : {X : Type 0} (xs zs ys : List X) (v : X) → RowsResized xs zs R b m v → Filled zs ys (b * m) ((n - b) * m) v → Resized xs ys R C m n v
  widened {X} xs zs ys v h f = record {
    long = f.long ∙ h.long;
    stay = λ r c d hr hm hc hn. old r c d hm (omega arith) ∙ h.stay r c d hr hm (omega arith);
    lower = λ r c d hr hm hn. elim (cases_lt c b) [ inl l ↦ old r c d hm l ∙ h.come r c d hr hm l | inr l ↦ fresh r c d hm l hn ];
    behind = λ r c d hm hc hn. fresh r c d hm (omega arith) hn;
    rest = λ k d a.
        let all = columns_split b n m (omega arith) in
        f.above k d (omega arith) ∙ h.rest k d (omega arith);
  }
    where
      old : (r c : ℕ) (d : X) → r < m → c < b → get_or ys (r + c * m) d ≡ get_or zs (r + c * m) d
      old r c d a l = f.below (r + c * m) d (omega (arith, columns_lt c b m l))

      fresh : (r c : ℕ) (d : X) → r < m → b ≤ c → c < n → get_or ys (r + c * m) d ≡ v
      fresh r c d a l k =
          let j : ℕ = c - b in
          let inside = columns_lt j (n - b) m (omega arith) in
          let e : r + c * m ≡ b * m + (r + j * m) = omega (arith, columns_split b c m l) in
          ap (λ z. get_or ys z d) e ∙ f.put (r + j * m) d (omega arith)

-- the cells below a corner of a rows and b columns, and then those behind it
module _ (R C a b : ℕ) (rows : a ≤ R) (columns : b ≤ C) where
  pub outside_saved : {X : Type 0} (src xs zs ys : List X)
      → Saved src xs zs (rows_block R b a (R - a)) → Saved src zs ys (block_of Columns R C b (C - b)) → OutsideSaved src xs ys R C a b
  outside_saved src xs zs ys h f =
      let parts = outside R C a b rows columns in
      let turned = mul_comm b (R - a) in
      let across = mul_comm R (C - b) in
      let first : length zs ≡ length xs + b * (R - a) = h.long in
      let both : length ys ≡ length zs + (C - b) * R = omega (arith, f.long, one-mul ((C - b) * R)) in
      record {
        long = omega arith;
        first = λ k d l. f.below k d (omega arith) ∙ h.below k d l;
        lower = λ r c d l k.
            f.below (length xs + (r + c * (R - a))) d (omega (arith, columns_lt c b (R - a) k)) ∙ h.saved r c d l k;
        behind = λ k d l.
            ap (λ z. get_or ys z d) (let e : length xs + (R - a) * b + k ≡ length zs + k = omega arith in e)
            ∙ saved_flat zs ys R C b (C - b) src f k d l;
      }
