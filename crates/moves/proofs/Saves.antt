-- Steps of the loops that copy rows of a table out to a store, and that write rows.
use Rattle.std.proofs.Common.{◌≡◌, ℕ, ◌+◌, ◌*◌, ◌<◌, ◌≤◌, List, ◌++◌, length, get_or, take, drop, sym, ap, ◌∙◌, inl, inr, mul_comm, arith, length-append}
use Rattle.std.proofs.lemmas.List.{get_or_append_left, get_or-append-add, get_or-take, get_or-drop, length-take-le, length-drop}
use Rattle.std.proofs.lemmas.Bool.{cases_lt}
use Rattle.moves.specs.Slides.{Written}
use Rattle.moves.specs.declared.store.Store.{Store}
use Rattle.moves.specs.Stores.{Grown, Kept, items}
use Rattle.moves.specs.Blocks.{rows_block}
use Rattle.moves.specs.Tables.{RowsWritten, Saved}
use Rattle.moves.proofs.Slides.{at}
use Rattle.moves.proofs.Places.{next_column, columns_same, columns_le, columns_lt}

module _ (rows columns i n : ℕ) (gap : i + n ≤ rows) where
  -- the rows at i of a column lie in the table
  pub gap_room : (c : ℕ) → c < columns → i + c * rows + n ≤ rows * columns
  gap_room c h = omega (arith, columns_lt c columns rows h, mul_comm rows columns)

module _ {X : Type 0} (src xs ys zs : List X) (rows i n : ℕ) where
  -- the rows of one column more
  pub saving_more : (c from m : ℕ) → from ≡ i + c * rows → m ≡ n → from + n ≤ length src → Saved src xs ys (rows_block rows c i n)
      → zs ≡ ys ++ take m (drop from src) → Saved src xs zs (rows_block rows (c + 1) i n)
  saving_more c from m fe me fits s o =
      let e : zs ≡ ys ++ take n (drop from src) = o ∙ ap (λ z. ys ++ take z (drop from src)) me in
      let next : (c + 1) * n ≡ c * n + n = next_column c n in
      let t : length (take n (drop from src)) ≡ n = length-take-le n (drop from src) (omega (arith, length-drop from src)) in
      let long : length zs ≡ length ys + n = ap length e ∙ length-append ys (take n (drop from src)) ∙ ap (λ z. length ys + z) t in
      record {
        long = omega (arith, s.long);
        saved = λ r q d h l. elim (cases_lt q c) [
          | inl b ↦ ap (λ z. get_or z (length xs + (r + q * n)) d) e ∙ get_or_append_left ys _ d (length xs + (r + q * n)) (omega (arith, s.long, columns_lt q c n b)) ∙ s.saved r q d h b
          | inr b ↦
              let f : q ≡ c = omega arith in
              let p : q * n ≡ c * n = columns_same q c n f in
              let p2 : q * rows ≡ c * rows = columns_same q c rows f in
              at zs d (length xs + (r + q * n)) (length ys + r) (omega (arith, s.long)) ∙ ap (λ z. get_or z (length ys + r) d) e ∙ get_or-append-add ys _ r d
              ∙ get_or-take n (drop from src) r d h ∙ get_or-drop from src r d ∙ at src d (from + r) (i + r + q * rows) (omega arith)
        ];
        below = λ k d h. ap (λ z. get_or z k d) e ∙ get_or_append_left ys _ d k (omega (arith, s.long)) ∙ s.below k d h;
      }

-- what was kept of a store's places is kept with more items
pub kept_on : {X : Type 0} (s t u : Store X) → Kept s t → length (items t) ≤ length (items u) → Kept t u → Kept s u
kept_on s t u a l b = record {
  room = b.room ∙ a.room;
  behind = λ k d h. b.behind k d h ∙ a.behind k d (omega arith);
}

pub grown_long : {X : Type 0} (s t : Store X) (xs : List X) → Grown s t xs → length (items s) ≤ length (items t)
grown_long s t xs g = let e = ap length g.more in let f = length-append (items s) xs in omega arith

module _ {X : Type 0} (xs ys zs : List X) (rows i n : ℕ) (cell : ℕ → ℕ → X → X) (gap : i + n ≤ rows) where
  -- the rows of one column more
  pub writing_more : (c to : ℕ) (next : ℕ → X → X) → to ≡ i + c * rows → ((r : ℕ) (d : X) → r < n → next r d ≡ cell r c d)
      → RowsWritten xs ys (rows_block rows c i n) cell → Written ys zs to n next → RowsWritten xs zs (rows_block rows (c + 1) i n) cell
  writing_more c to next te same s t =
      let more : (c + 1) * rows ≡ c * rows + rows = next_column c rows in
      record {
        long = t.long ∙ s.long;
        put = λ r q d h l. elim (cases_lt q c) [
          | inl b ↦ t.below (i + r + q * rows) d (omega (arith, columns_lt q c rows b)) ∙ s.put r q d h b
          | inr b ↦
              let e : q ≡ c = omega arith in
              let p : q * rows ≡ c * rows = columns_same q c rows e in
              at zs d (i + r + q * rows) (to + r) (omega arith) ∙ t.put r d h ∙ same r d h ∙ ap (λ z. cell r z d) (sym e)
        ];
        upper = λ r q d h. elim (cases_lt c q) [
          | inl b ↦ t.above (r + q * rows) d (omega (arith, columns_lt c q rows b)) ∙ s.upper r q d h
          | inr b ↦ t.below (r + q * rows) d (omega (arith, columns_le q c rows b)) ∙ s.upper r q d h
        ];
        lower = λ r q d h l. elim (cases_lt q c) [
          | inl b ↦ t.below (r + q * rows) d (omega (arith, columns_lt q c rows b)) ∙ s.lower r q d h l
          | inr b ↦ t.above (r + q * rows) d (omega (arith, columns_le c q rows b)) ∙ s.lower r q d h l
        ];
        rest = λ k d h. t.above k d (omega arith) ∙ s.rest k d (omega arith);
      }
