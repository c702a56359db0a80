-- Steps of the loops that take rows out of a table and make room for rows.
use Rattle.std.proofs.Common.{◌≡◌, ℕ, ◌+◌, ◌-◌, ◌*◌, ◌<◌, ◌≤◌, List, length, get_or, sym, ◌∙◌, inl, inr, mul_comm, zero-mul, arith}
use Rattle.std.proofs.lemmas.Bool.{cases_lt}
use Rattle.moves.specs.Slides.{Copied}
use Rattle.moves.specs.Blocks.{rows_block}
use Rattle.moves.specs.Tables.{Compressed, Opened, Extended}
use Rattle.moves.proofs.Slides.{at}
use Rattle.moves.proofs.Places.{next_column, column_after, columns_same, columns_le, columns_lt, columns_wider, place_below}

-- the table of `left` rows a column stands in ys up to the place w, and from w on ys is xs
pub record Compressing {X : Type 0} (xs ys : List X) (rows left i n w : ℕ) : Type 0 where
  pub long : length ys ≡ length xs
  pub upper : (r c : ℕ) (d : X) → r < i → r + c * left < w → get_or ys (r + c * left) d ≡ get_or xs (r + c * rows) d
  pub lower : (r c : ℕ) (d : X) → i ≤ r → r < left → r + c * left < w → get_or ys (r + c * left) d ≡ get_or xs (r + n + c * rows) d
  pub rest : (k : ℕ) (d : X) → w ≤ k → get_or ys k d ≡ get_or xs k d

module _ {X : Type 0} (xs ys zs : List X) (rows left i n : ℕ) (whole : left + n ≡ rows) (within : i ≤ left) where
  -- a move of at most `left` cells, from below the gap in column c to the place that is reached
  pub compressing_more : (c from w m : ℕ) → w ≡ i + c * left → from ≡ i + n + c * rows → m ≤ left → Compressing xs ys rows left i n w → Copied ys ys zs from w m → Compressing xs zs rows left i n (w + m)
  compressing_more c from w m we fe ml s t =
      let wide : c * left ≤ c * rows = columns_wider c left rows (omega arith) in
      record {
        long = t.long ∙ s.long;
        upper = λ r q d h l. elim (cases_lt (r + q * left) w) [
          | inl b ↦ t.below (r + q * left) d b ∙ s.upper r q d h b
          | inr b ↦
              let a1 : c < q = elim (cases_lt c q) [ inl e ↦ e | inr e ↦ absurd (omega (arith, columns_le q c left e)) ] in
              let a2 : q ≤ c + 1 = elim (cases_lt (c + 1) q) [ inl e ↦ absurd (omega (arith, columns_lt (c + 1) q left e, next_column c left)) | inr e ↦ e ] in
              let e : q ≡ c + 1 = omega arith in
              let p : q * left ≡ c * left + left = column_after c q left e in
              let p2 : q * rows ≡ c * rows + rows = column_after c q rows e in
              let k : ℕ = left - i + r in
              at zs d (r + q * left) (w + k) (omega arith) ∙ t.put k d (omega arith) ∙ s.rest (from + k) d (omega arith) ∙ at xs d (from + k) (r + q * rows) (omega arith)
        ];
        lower = λ r q d h l b. elim (cases_lt (r + q * left) w) [
          | inl b ↦ t.below (r + q * left) d b ∙ s.lower r q d h l b
          | inr b2 ↦
              let a1 : c ≤ q = elim (cases_lt q c) [ inl e ↦ absurd (omega (arith, columns_lt q c left e)) | inr e ↦ e ] in
              let a2 : q ≤ c = elim (cases_lt c q) [ inl e ↦ absurd (omega (arith, columns_lt c q left e)) | inr e ↦ e ] in
              let e : q ≡ c = omega arith in
              let p : q * left ≡ c * left = columns_same q c left e in
              let p2 : q * rows ≡ c * rows = columns_same q c rows e in
              let k : ℕ = r - i in
              at zs d (r + q * left) (w + k) (omega arith) ∙ t.put k d (omega arith) ∙ s.rest (from + k) d (omega arith) ∙ at xs d (from + k) (r + n + q * rows) (omega arith)
        ];
        rest = λ k d h. t.above k d h ∙ s.rest k d (omega arith);
      }

module _ (rows columns i n : ℕ) (gap : i + n ≤ rows) where
  -- in each column but the last a move begins a whole column before the table's end
  pub compress_room : (c : ℕ) → c + 1 < columns → i + n + c * rows + rows ≤ rows * columns
  compress_room c h = omega (arith, columns_lt (c + 1) columns rows h, next_column c rows, mul_comm rows columns)

  -- what is read lies at or after what is written
  pub compress_back : (c : ℕ) → c * (rows - n) ≤ c * rows
  compress_back c = columns_wider c (rows - n) rows (omega arith)

  module _ {X : Type 0} (xs ys : List X) where
    pub compressed_all : (c w : ℕ) → c + 1 ≡ columns → w ≡ c * (rows - n) + (rows - n) → Compressing xs ys rows (rows - n) i n w → Compressed xs ys (rows_block rows columns i n)
    compressed_all c w ce we s =
        let all : columns * (rows - n) ≡ w = column_after c columns (rows - n) (omega arith) ∙ sym we in
        record {
          long = s.long;
          upper = λ r q d h l. s.upper r q d h (omega (arith, place_below r q (rows - n) columns (omega arith) l));
          lower = λ r q d h l m. s.lower r q d h l (omega (arith, place_below r q (rows - n) columns l m));
          rest = λ k d h. s.rest k d (omega arith);
        }

-- the columns from c on are moved, and below the place of column c ys is xs
pub record Opening {X : Type 0} (xs ys : List X) (rows grown columns i n c : ℕ) : Type 0 where
  pub long : length ys ≡ length xs
  pub moved : (k q : ℕ) (d : X) → k < rows → c ≤ q → q < columns → get_or ys (i + n + k + q * grown) d ≡ get_or xs (i + k + q * rows) d
  pub gap : (r q : ℕ) (d : X) → r < n → c ≤ q → q < columns → get_or ys (i + r + q * grown) d ≡ get_or xs (i + r + q * grown) d
  pub below : (k : ℕ) (d : X) → k < i + n + c * grown → get_or ys k d ≡ get_or xs k d
  pub above : (k : ℕ) (d : X) → i + columns * grown ≤ k → get_or ys k d ≡ get_or xs k d

module _ {X : Type 0} (xs ys zs : List X) (rows grown columns i n : ℕ) (whole : grown ≡ rows + n) where
  pub opening_more : (c e from to : ℕ) → e ≡ c + 1 → e ≤ columns → from ≡ i + c * rows → to ≡ i + n + c * grown → Opening xs ys rows grown columns i n e → Copied ys ys zs from to rows → Opening xs zs rows grown columns i n c
  opening_more c e from to ee ec fe te s t =
      let nextg : e * grown ≡ c * grown + grown = column_after c e grown ee in
      let wide : c * rows ≤ c * grown = columns_wider c rows grown (omega arith) in
      let room : e * grown ≤ columns * grown = columns_le e columns grown ec in
      record {
        long = t.long ∙ s.long;
        moved = λ k q d h l m. elim (cases_lt c q) [
          | inl o ↦ t.above (i + n + k + q * grown) d (omega (arith, columns_le e q grown (omega arith))) ∙ s.moved k q d h (omega arith) m
          | inr o ↦
              let f : q ≡ c = omega arith in
              let pg : q * grown ≡ c * grown = columns_same q c grown f in
              let pr : q * rows ≡ c * rows = columns_same q c rows f in
              at zs d (i + n + k + q * grown) (to + k) (omega arith) ∙ t.put k d h ∙ s.below (from + k) d (omega arith) ∙ at xs d (from + k) (i + k + q * rows) (omega arith)
        ];
        gap = λ r q d h l m. elim (cases_lt c q) [
          | inl o ↦ t.above (i + r + q * grown) d (omega (arith, columns_le e q grown (omega arith))) ∙ s.gap r q d h (omega arith) m
          | inr o ↦
              let pg : q * grown ≡ c * grown = columns_same q c grown (omega arith) in
              t.below (i + r + q * grown) d (omega arith) ∙ s.below (i + r + q * grown) d (omega arith)
        ];
        below = λ k d h. t.below k d (omega arith) ∙ s.below k d (omega arith);
        above = λ k d h. t.above k d (omega arith) ∙ s.above k d h;
      }

module _ (rows columns last i n : ℕ) (whole : columns ≡ last + 1) where
  module _ {X : Type 0} (xs ys zs : List X) (within : i ≤ rows) where
    -- a move of the last column's lower part, and of all that lies between two gaps
    pub extended_by : (from to m : ℕ) → from ≡ last * rows + i → to ≡ last * (rows + n) + i + n → m ≡ rows - i → Copied xs xs ys from to m → Opened ys zs (rows_block rows last i n) → Extended xs zs (rows_block rows columns i n)
    extended_by from to m fe te me s t =
        let grown : ℕ = rows + n in
        let wide : last * rows ≤ last * (rows + n) = columns_wider last rows (rows + n) (omega arith) in
        let all : columns * (rows + n) ≡ last * (rows + n) + (rows + n) = column_after last columns (rows + n) whole in
        record {
          long = t.long ∙ s.long;
          upper = λ r q d h l. elim (cases_lt 0 q) [
            | inl o ↦
                let pg : q * (rows + n) ≡ (q - 1) * (rows + n) + (rows + n) = column_after (q - 1) q (rows + n) (omega arith) in
                let pr : q * rows ≡ (q - 1) * rows + rows = column_after (q - 1) q rows (omega arith) in
                let k : ℕ = rows - i + r in
                at zs d (r + q * (rows + n)) (i + n + k + (q - 1) * (rows + n)) (omega arith) ∙ t.moved k (q - 1) d (omega arith) (omega arith)
                ∙ at ys d (i + k + (q - 1) * rows) (r + q * rows) (omega arith) ∙ s.below (r + q * rows) d (omega (arith, columns_le q last rows (omega arith)))
            | inr o ↦
                let zg : q * (rows + n) ≤ 0 * (rows + n) = columns_le q 0 (rows + n) o in
                let zr : q * rows ≤ 0 * rows = columns_le q 0 rows o in
                t.below (r + q * (rows + n)) d (omega (arith, zero-mul (rows + n))) ∙ s.below (r + q * (rows + n)) d (omega (arith, zero-mul (rows + n)))
                ∙ at xs d (r + q * (rows + n)) (r + q * rows) (omega (arith, zero-mul (rows + n), zero-mul rows))
          ];
          lower = λ r q d h l b. elim (cases_lt q last) [
            | inl o ↦
                let k : ℕ = r - i in
                at zs d (r + n + q * (rows + n)) (i + n + k + q * (rows + n)) (omega arith) ∙ t.moved k q d (omega arith) o
                ∙ at ys d (i + k + q * rows) (r + q * rows) (omega arith) ∙ s.below (r + q * rows) d (omega (arith, columns_lt q last rows o))
            | inr o ↦
                let f : q ≡ last = omega arith in
                let pg : q * (rows + n) ≡ last * (rows + n) = columns_same q last (rows + n) f in
                let pr : q * rows ≡ last * rows = columns_same q last rows f in
                let k : ℕ = r - i in
                t.above (r + n + q * (rows + n)) d (omega arith) ∙ at ys d (r + n + q * (rows + n)) (to + k) (omega arith) ∙ s.put k d (omega arith) ∙ at xs d (from + k) (r + q * rows) (omega arith)
          ];
          put = λ r q d h l. elim (cases_lt q last) [
            | inl o ↦ t.gap r q d h o ∙ s.below (i + r + q * (rows + n)) d (omega (arith, columns_lt q last (rows + n) o))
            | inr o ↦
                let pg : q * (rows + n) ≡ last * (rows + n) = columns_same q last (rows + n) (omega arith) in
                t.above (i + r + q * (rows + n)) d (omega arith) ∙ s.below (i + r + q * (rows + n)) d (omega arith)
          ];
          rest = λ k d h. t.above k d (omega arith) ∙ s.above k d (omega arith);
        }
