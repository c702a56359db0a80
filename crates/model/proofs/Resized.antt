-- Another shape in numbers: where each line comes from, which cells are lost, what the questions ask.
use Rattle.std.proofs.Common.{◌≡◌, ℕ, suc, ◌+◌, ◌-◌, ◌*◌, ◌<◌, ◌≤◌, min, Bool, true, false, cond, not, ◌&&◌, ltb, leb, List, [], ◌∷◌, ◌++◌, map, length, get_or, sym, refl, ap, ◌∙◌, ap₂, inl, inr, add-mul, mul-add, arith, length-append}
use Rattle.std.specs.List.{range_with_len, flat_map, AllByRecursion as All}
use Rattle.std.proofs.lemmas.List.FromFn.{length-map-range_with_len, get_or-map-range_with_len}
use Rattle.std.proofs.ByRecursion.{All-map}
use Rattle.std.proofs.lemmas.Bool.{lt-ltb, le-ltb, le-leb, lt-leb, cases_lt, cond-true, cond-false, and_from, and_left, and_right, ne_eqb, not_from_true, not_from_false}
use Rattle.std.proofs.Math.Bool.{and-true}
use Rattle.model.specs.Sheet.{Origin, old, new, resize, sized, within, origins, Change, resize_to, Table, cell_at, pairs, rows_of, columns_of}
use Rattle.model.specs.Journal.{Right, is_old, stands, survives, stays, lost_of}
use Rattle.model.proofs.Grids.{all_counting}
use Rattle.std.proofs.lemmas.List.Concat.{flat_map-append}
use Rattle.model.proofs.Laid.{counting_more, kept_all}
use Rattle.model.proofs.Lines.{stays_at, gone_are}
use Rattle.model.proofs.Regions.{region, region_right, rows_lost}
use Rattle.model.proofs.Counting.{Counts}

-- one side: n lines in place of m

none_stands : (k : ℕ) (os : List Origin) → All (λ o. is_old k o ≡ false) os → stands k os ≡ length os
none_stands k [] h = refl
none_stands k (o ∷ os) h = cond-false (is_old k o) 0 (suc (stands k os)) h.0 ∙ ap suc (none_stands k os h.1)

module _ (n m : ℕ) where
  pub resize_length : length (origins (resize n) m) ≡ n
  resize_length = length-map-range_with_len (sized m) 0 n

  pub resize_old : (r : ℕ) (d : Origin) → r < n → r < m → get_or (origins (resize n) m) r d ≡ old r
  resize_old r d h k =
      get_or-map-range_with_len (sized m) 0 n r r d h (omega arith) ∙ cond-true (ltb r m) (old r) (new (r - m)) (lt-ltb r m k)

  pub resize_new : (r : ℕ) (d : Origin) → r < n → m ≤ r → get_or (origins (resize n) m) r d ≡ new (r - m)
  resize_new r d h k =
      get_or-map-range_with_len (sized m) 0 n r r d h (omega arith) ∙ cond-false (ltb r m) (old r) (new (r - m)) (le-ltb r m k)

  pub resize_stays : (k : ℕ) → k < n → k < m → survives k (origins (resize n) m) ≡ true
  resize_stays k h l =
      let e = resize_length in stays_at k (origins (resize n) m) k (new 0) (omega arith) (resize_old k (new 0) h l)

  pub resize_goes : (k : ℕ) → n ≤ k → survives k (origins (resize n) m) ≡ false
  resize_goes k h =
      let e = none_stands k (origins (resize n) m) (All-map (λ o. is_old k o ≡ false) (sized m) (range_with_len 0 n)
      (all_counting (λ r. is_old k (sized m r) ≡ false) 0 n (λ r a b. other r (ltb r m) (omega arith)))) in
      le-ltb (stands k (origins (resize n) m)) (length (origins (resize n) m)) (omega arith)
    where
      other : (r : ℕ) (b : Bool) → r < k → is_old k (cond b (old r) (new (r - m))) ≡ false
      other r true l = ne_eqb r k (λ e. omega arith)
      other r false l = refl

-- both sides: where only a corner stays

-- the first a rows stay, and the first b columns
module _ {A : Type 0} (t : Table A) (ch : Change A) (a b : ℕ) (rows : a ≤ t.rows) (columns : b ≤ t.columns)
    (upper : (k : ℕ) → k < a → survives k (rows_of t ch) ≡ true)
    (lower : (k : ℕ) → a ≤ k → k < t.rows → survives k (rows_of t ch) ≡ false)
    (left : (l : ℕ) → l < b → survives l (columns_of t ch) ≡ true)
    (behind : (l : ℕ) → b ≤ l → l < t.columns → survives l (columns_of t ch) ≡ false) where
  below : (k : ℕ) → k < t.rows → survives k (rows_of t ch) ≡ not (within a (t.rows - a) k)
  below k h = elim (cases_lt k a) [
    | inl l ↦ upper k l ∙ sym (not_from_false (within a (t.rows - a) k) (and_left (leb a k) (ltb k (a + (t.rows - a))) (lt-leb a k l)))
    | inr l ↦
        lower k l h
        ∙ sym (not_from_true (within a (t.rows - a) k) (and_from (leb a k) (ltb k (a + (t.rows - a))) (le-leb a k l) (lt-ltb k (a + (t.rows - a)) (omega arith))))
  ]

  -- what lies below the corner, and then what lies behind it
  pub corner_lost : lost_of t ch ≡ (region t a (t.rows - a) 0 b).cells ++ (region t 0 t.rows b (t.columns - b)).cells
  corner_lost =
      let R = t.rows in
      let s : ℕ × ℕ → Bool = stays (rows_of t ch) (columns_of t ch) in
      let cell : ℕ × ℕ → List A = λ q. cell_at t q.0 q.1 in
      let lost : ℕ × ℕ → List A = λ q. cond (s q) [] (cell q) in
      let across : ℕ → List (ℕ × ℕ) = λ l. map (λ k. (k, l)) (range_with_len 0 R) in
      ap (λ n. flat_map lost (pairs (range_with_len 0 R) (range_with_len 0 n))) (let e : t.columns ≡ b + (t.columns - b) = omega arith in e)
      ∙ ap (λ ls. flat_map lost (pairs (range_with_len 0 R) ls)) (counting_more 0 b (t.columns - b))
      ∙ ap (flat_map lost) (flat_map-append across (range_with_len 0 b) (range_with_len (0 + b) (t.columns - b)))
      ∙ flat_map-append lost (pairs (range_with_len 0 R) (range_with_len 0 b)) (pairs (range_with_len 0 R) (range_with_len (0 + b) (t.columns - b)))
      ∙ ap₂ ◌++◌
      (rows_lost s (within a (R - a)) cell (range_with_len 0 R) (range_with_len 0 b)
      (all_counting (λ l. All (λ k. s (k, l) ≡ not (within a (R - a) k)) (range_with_len 0 R)) 0 b (λ l x y.
      all_counting (λ k. s (k, l) ≡ not (within a (R - a) k)) 0 R (λ k z w.
      ap₂ ◌&&◌ (below k (omega arith)) (left l (omega arith)) ∙ and-true (not (within a (R - a) k)))))
      ∙ ap (λ ks. flat_map cell (pairs ks (range_with_len 0 b))) (gone_are a (R - a) R (omega arith)))
      (rows_lost s (λ k. true) cell (range_with_len 0 R) (range_with_len (0 + b) (t.columns - b))
      (all_counting (λ l. All (λ k. s (k, l) ≡ false) (range_with_len 0 R)) (0 + b) (t.columns - b) (λ l x y.
      all_counting (λ k. s (k, l) ≡ false) 0 R (λ k z w.
      and_right (survives k (rows_of t ch)) (survives l (columns_of t ch)) (behind l (omega arith) (omega arith)))))
      ∙ ap (λ ks. flat_map cell (pairs ks (range_with_len (0 + b) (t.columns - b)))) (kept_all (λ k. true) (range_with_len 0 R) (all_counting (λ k. true ≡ true) 0 R (λ k z w. refl)))
      ∙ ap (λ k. flat_map cell (pairs (range_with_len 0 R) (range_with_len k (t.columns - b)))) (let e : 0 + b ≡ b = omega arith in e))

-- the cells outside a corner of a rows and b columns: those below it and those behind it
pub outside : (R C a b : ℕ) → a ≤ R → b ≤ C → (R - a) * b + R * (C - b) ≡ R * C - a * b
outside R C a b h k =
    let e : R * C ≡ R * b + R * (C - b) = ap (λ z. R * z) (let z : C ≡ b + (C - b) = omega arith in z) ∙ mul-add R b (C - b) in
    let f : R * b ≡ a * b + (R - a) * b = ap (λ z. z * b) (let z : R ≡ a + (R - a) = omega arith in z) ∙ add-mul a (R - a) b in
    omega arith

module _ {A : Type 0} (t : Table A) (m n : ℕ) (v : A) where
  pub resized_lost :
      lost_of t (resize_to m n v)
      ≡ (region t (min t.rows m) (t.rows - min t.rows m) 0 (min t.columns n)).cells
      ++ (region t 0 t.rows (min t.columns n) (t.columns - min t.columns n)).cells
  resized_lost =
      corner_lost t (resize_to m n v) (min t.rows m) (min t.columns n) (omega arith) (omega arith)
      (λ k h. resize_stays m t.rows k (omega arith) (omega arith))
      (λ k h l. resize_goes m t.rows k (omega arith))
      (λ k h. resize_stays n t.columns k (omega arith) (omega arith))
      (λ k h l. resize_goes n t.columns k (omega arith))

  pub resized : Right t → Counts t (resize_to m n v) m n [] (t.rows * t.columns - min t.rows m * min t.columns n)
  resized right =
      let R = t.rows in
      let C = t.columns in
      let a = min R m in
      let b = min C n in
      record {
        named = refl;
        rows = resize_length m R;
        columns = resize_length n C;
        runs = refl;
        lost =
            ap length resized_lost
            ∙ length-append (region t a (R - a) 0 b).cells (region t 0 R b (C - b)).cells
            ∙ ap₂ ◌+◌ (region_right t right a (R - a) 0 b (omega arith) (omega arith)) (region_right t right 0 R b (C - b) (omega arith) (omega arith))
            ∙ outside R C a b (omega arith) (omega arith);
        columned = refl;
      }
