-- Two lines change places: where each line stands, and the exchange in numbers.
use Rattle.std.proofs.Common.{◌≡◌, ℕ, ◌+◌, ◌*◌, ◌<◌, ◌≤◌, true, cond, ◌&&◌, eqb, ltb, ◌≢◌, ◌⊎◌, List, [], length, get_or, take, sym, refl, ap, ◌∙◌, inl, inr, arith}
use Rattle.std.proofs.lemmas.Nat.{mul-add-lt}
use Rattle.std.proofs.lemmas.List.FromFn.{length-map-range_with_len, get_or-map-range_with_len}
use Rattle.std.proofs.lemmas.Bool.{and_from, cases_eq, cond-true, cond-false, eq-eqb, ne_eqb, lt-ltb}
use Rattle.model.specs.Sheet.{Origin, old, new, swap, swapped, origins, row, column, Change, swap_lines, Table, rows_of, columns_of, changed}
use Rattle.model.specs.Journal.{Right, survives, lost_of}
use Rattle.model.proofs.Lines.{keep_length, keep_stays, stays_at}
use Rattle.model.proofs.Joins.{changed_cells, old_cell, lying}
use Rattle.model.proofs.Counting.{Counts, none_lost}

module _ (i j : ℕ) where
  pub swapped_first : (k : ℕ) → k ≡ i → swapped i j k ≡ j
  swapped_first k e = cond-true (eqb k i) j (cond (eqb k j) i k) (eq-eqb k i e)

  pub swapped_second : (k : ℕ) → k ≢ i → k ≡ j → swapped i j k ≡ i
  swapped_second k n e = cond-false (eqb k i) j (cond (eqb k j) i k) (ne_eqb k i n) ∙ cond-true (eqb k j) i k (eq-eqb k j e)

  pub swapped_other : (k : ℕ) → k ≢ i → k ≢ j → swapped i j k ≡ k
  swapped_other k n m = cond-false (eqb k i) j (cond (eqb k j) i k) (ne_eqb k i n) ∙ cond-false (eqb k j) i k (ne_eqb k j m)

  -- one of the three ways of each line
  pub swapped_ways : (k : ℕ) → ((k ≡ i) × (swapped i j k ≡ j)) ⊎ (((k ≢ i) × (k ≡ j) × (swapped i j k ≡ i)) ⊎ ((k ≢ i) × (k ≢ j) × (swapped i j k ≡ k)))
  swapped_ways k = elim (cases_eq k i) [
    | inl e ↦ inl (e, swapped_first k e)
    | inr n ↦ elim (cases_eq k j) [
      | inl e ↦ inr (inl (n, e, swapped_second k n e))
      | inr m ↦ inr (inr (n, m, swapped_other k n m))
    ]
  ]

  pub swapped_below : (m k : ℕ) → i < m → j < m → k < m → swapped i j k < m
  swapped_below m k hi hj hk = elim (swapped_ways k) [
    | inl w ↦ omega (arith, w.1)
    | inr (inl w) ↦ omega (arith, w.2)
    | inr (inr w) ↦ omega (arith, w.2)
  ]

  -- swapping twice brings every line back
  pub swapped_twice : (k : ℕ) → swapped i j (swapped i j k) ≡ k
  swapped_twice k = elim (swapped_ways k) [
    | inl w ↦ ap (swapped i j) w.1 ∙ back k w.0
    | inr (inl w) ↦ ap (swapped i j) w.2 ∙ swapped_first i refl ∙ sym w.1
    | inr (inr w) ↦ ap (swapped i j) w.2 ∙ w.2
  ]
    where
      back : (k : ℕ) → k ≡ i → swapped i j j ≡ k
      back k e = elim (cases_eq j i) [
        | inl f ↦ swapped_first j f ∙ f ∙ sym e
        | inr n ↦ swapped_second j n refl ∙ sym e
      ]

  pub swap_length : (m : ℕ) → length (origins (swap i j) m) ≡ m
  swap_length m = length-map-range_with_len (λ r. old (swapped i j r)) 0 m

  pub swap_at : (m r : ℕ) (d : Origin) → r < m → get_or (origins (swap i j) m) r d ≡ old (swapped i j r)
  swap_at m r d h = get_or-map-range_with_len (λ r. old (swapped i j r)) 0 m r r d h (omega arith)

  pub swap_stays : (m k : ℕ) → i < m → j < m → k < m → survives k (origins (swap i j) m) ≡ true
  swap_stays m k hi hj hk =
      let l = swap_length m in
      let b = swapped_below m k hi hj hk in
      stays_at k (origins (swap i j) m) (swapped i j k) (new 0) (omega arith) (swap_at m (swapped i j k) (new 0) b ∙ ap old (swapped_twice k))

-- an exchange in numbers, on either side

module _ {A : Type 0} (t : Table A) (i j : ℕ) where
  pub rows_exchanged_lost : i < t.rows → j < t.rows → lost_of t (swap_lines row i j) ≡ []
  rows_exchanged_lost hi hj = none_lost t (swap_lines row i j) (λ k h. swap_stays i j t.rows k hi hj h) (keep_stays t.columns)

  pub columns_exchanged_lost : i < t.columns → j < t.columns → lost_of t (swap_lines column i j) ≡ []
  columns_exchanged_lost hi hj = none_lost t (swap_lines column i j) (keep_stays t.rows) (λ k h. swap_stays i j t.columns k hi hj h)

  pub rows_exchanged : i < t.rows → j < t.rows → Counts t (swap_lines row i j) t.rows t.columns [] 0
  rows_exchanged hi hj = record {
    named = and_from (ltb i t.rows && ltb j t.rows) true (and_from (ltb i t.rows) (ltb j t.rows) (lt-ltb i t.rows hi) (lt-ltb j t.rows hj)) refl;
    rows = swap_length i j t.rows;
    columns = keep_length t.columns;
    runs = refl;
    lost = ap length (rows_exchanged_lost hi hj);
    columned = refl;
  }

  pub columns_exchanged : i < t.columns → j < t.columns → Counts t (swap_lines column i j) t.rows t.columns [] 0
  columns_exchanged hi hj = record {
    named = and_from (ltb i t.columns) (ltb j t.columns) (lt-ltb i t.columns hi) (lt-ltb j t.columns hj);
    rows = keep_length t.rows;
    columns = swap_length i j t.columns;
    runs = refl;
    lost = ap length (columns_exchanged_lost hi hj);
    columned = refl;
  }

-- a change that only moves lines: each row comes from row f of the old table, each column from column g
pub moved_cells :
    {A : Type 0} (t : Table A) (ch : Change A) (f g : ℕ → ℕ) (xs ys : List A) → Right t → t.cells ≡ take (t.rows * t.columns) xs
    → Counts t ch t.rows t.columns [] 0 → t.rows * t.columns ≤ length ys
    → ((r : ℕ) → r < t.rows → (get_or (rows_of t ch) r (new 0) ≡ old (f r)) × (f r < t.rows))
    → ((c : ℕ) → c < t.columns → (get_or (columns_of t ch) c (new 0) ≡ old (g c)) × (g c < t.columns))
    → ((r c : ℕ) (d : A) → r < t.rows → c < t.columns → get_or ys (r + c * t.rows) d ≡ get_or xs (f r + g c * t.rows) d)
    → take (t.rows * t.columns) ys ≡ (changed t ch).cells
moved_cells t ch f g xs ys right lies counts room rows columns same =
    changed_cells t ch t.rows t.columns ys right counts.named counts.rows counts.columns room (λ r c a b.
    let below = mul-add-lt c t.rows r t.columns b a in
    old_cell t ch xs ys lies (lying t xs right lies) r c (f r) (g c) (r + c * t.rows) (rows r a).0 (columns c b).0 (rows r a).1 (columns c b).1 (omega arith) (λ d. same r c d a b))
