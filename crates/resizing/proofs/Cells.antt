-- Another shape, from places of the buffer to the model's tables.
use Rattle.std.proofs.Common.{◌≡◌, ℕ, ◌+◌, ◌-◌, ◌*◌, ◌≤◌, min, List, ◌++◌, length, get_or, take, drop, sym, ap, ◌∙◌, ap₂, inl, inr, mul_comm, add-mul, arith}
use Rattle.std.proofs.lemmas.List.{get_or-drop, length-drop}
use Rattle.std.proofs.lemmas.Nat.{mul-add-lt}
use Rattle.std.proofs.lemmas.Bool.{cases_lt}
use Rattle.model.specs.Sheet.{new, Change, resize_to, Table, cell_at, cell_of, columns_of, changed}
use Rattle.model.specs.Journal.{Right, lost_of}
use Rattle.model.proofs.Grids.{take_then}
use Rattle.model.proofs.Joins.{table_cells, changed_cells, old_cell, the_cell, cell_of_lem, same_cell, lying, put_on}
use Rattle.model.proofs.Regions.{region, region_right, region_at}
use Rattle.model.proofs.Resized.{outside, resize_old, resize_new, resized, resized_lost}
use Rattle.resizing.specs.Resizing.{OutsideSaved, Resized}

module _ {A : Type 0} (t : Table A) (right : Right t) (xs : List A) (lies : t.cells ≡ take (t.rows * t.columns) xs) where
  -- the table in its new shape
  pub resized_cells : (m n : ℕ) (v : A) (ys : List A) → m * n ≤ length xs → Resized xs ys t.rows t.columns m n v
      → take (m * n) ys ≡ (changed t (resize_to m n v)).cells
  resized_cells m n v ys room h =
      let R = t.rows in
      let C = t.columns in
      let ch : Change A = resize_to m n v in
      let k = resized t m n v right in
      let long : length ys ≡ length xs = h.long in
      changed_cells t ch m n ys right k.named k.rows k.columns (omega arith) (λ r c a b.
      let below = mul-add-lt c m r n b a in
      elim (cases_lt r R) [
        | inl l ↦ elim (cases_lt c C) [
          | inl l2 ↦
              old_cell t ch xs ys lies (lying t xs right lies) r c r c (r + c * m) (resize_old m R r (new 0) a l) (resize_old n C c (new 0) b l2) l l2 (omega arith)
              (λ d. h.stay r c d l a l2 b)
          | inr l2 ↦
              the_cell ys (r + c * m) v (omega arith) (λ d. h.behind r c d a l2 b)
              ∙ sym (ap₂ (cell_of t ch) (resize_old m R r (new 0) a l) (resize_new n C c (new 0) b l2))
        ]
        | inr l ↦
            the_cell ys (r + c * m) v (omega arith) (λ d. h.lower r c d l a b)
            ∙ sym (ap (λ z. cell_of t ch z (get_or (columns_of t ch) c (new 0))) (resize_new m R r (new 0) a l))
      ])

  -- the cells outside the corner of a rows and b columns
  module _ (a b : ℕ) (rows : a ≤ t.rows) (columns : b ≤ t.columns) (was is : List A) (h : OutsideSaved xs was is t.rows t.columns a b) where
    abbrev top : ℕ
    top = length was

    lower_part : take ((t.rows - a) * b) (drop top is) ≡ (region t a (t.rows - a) 0 b).cells
    lower_part =
        let R = t.rows in
        let C = t.columns in
        let whole = lying t xs right lies in
        let parts = outside R C a b rows columns in
        let long : length is ≡ top + (R * C - a * b) = h.long in
        let ld = length-drop top is in
        table_cells (region t a (R - a) 0 b) (drop top is) (region_right t right a (R - a) 0 b (omega arith) (omega arith)) (omega arith) (λ r c x y.
        let below = mul-add-lt c (R - a) r b y x in
        let inside = mul-add-lt c R (a + r) C (omega arith) (omega arith) in
        same_cell (drop top is) xs (r + c * (R - a)) (a + r + c * R) (omega arith) (omega arith)
        (λ d. get_or-drop top is (r + c * (R - a)) d ∙ h.lower r c d x y)
        ∙ sym (cell_of_lem t xs lies (a + r) c (omega arith) (omega arith))
        ∙ ap (cell_at t (a + r)) (let e : c ≡ 0 + c = omega arith in e)
        ∙ sym (region_at t right a (R - a) 0 b (omega arith) (omega arith) r c x y))

    behind_part : take (t.rows * (t.columns - b)) (drop ((t.rows - a) * b) (drop top is)) ≡ (region t 0 t.rows b (t.columns - b)).cells
    behind_part =
        let R = t.rows in
        let C = t.columns in
        let w = (R - a) * b in
        let whole = lying t xs right lies in
        let parts = outside R C a b rows columns in
        let long : length is ≡ top + (R * C - a * b) = h.long in
        let ld = length-drop top is in
        let le = length-drop w (drop top is) in
        table_cells (region t 0 R b (C - b)) (drop w (drop top is)) (region_right t right 0 R b (C - b) (omega arith) (omega arith)) (omega arith) (λ r c x y.
        let below = mul-add-lt c R r (C - b) y x in
        let inside = mul-add-lt (b + c) R r C (omega arith) x in
        let e : (b + c) * R ≡ b * R + c * R = add-mul b c R in
        same_cell (drop w (drop top is)) xs (r + c * R) (r + (b + c) * R) (omega arith) (omega arith)
        (λ d. get_or-drop w (drop top is) (r + c * R) d ∙ get_or-drop top is (w + (r + c * R)) d
        ∙ ap (λ z. get_or is z d) (let z : top + (w + (r + c * R)) ≡ top + w + (r + c * R) = omega arith in z)
        ∙ h.behind (r + c * R) d (omega (arith, mul_comm R (C - b)))
        ∙ ap (λ z. get_or xs z d) (let z : b * R + (r + c * R) ≡ r + (b + c) * R = omega arith in z))
        ∙ sym (cell_of_lem t xs lies r (b + c) x (omega arith))
        ∙ ap (λ z. cell_at t z (b + c)) (let z : r ≡ 0 + r = omega arith in z)
        ∙ sym (region_at t right 0 R b (C - b) (omega arith) (omega arith) r c x y))

    pub outside_cells : is ≡ was ++ ((region t a (t.rows - a) 0 b).cells ++ (region t 0 t.rows b (t.columns - b)).cells)
    outside_cells =
        let R = t.rows in
        let C = t.columns in
        put_on was is (R * C - a * b) _ h.long h.first
        (ap (λ k. take k (drop top is)) (sym (outside R C a b rows columns))
        ∙ sym (take_then ((R - a) * b) (R * (C - b)) (drop top is)) ∙ ap₂ ◌++◌ lower_part behind_part)

  -- the cells that the new shape has no place for
  pub saved_cells : (m n : ℕ) (v : A) (was is : List A) → OutsideSaved xs was is t.rows t.columns (min t.rows m) (min t.columns n)
      → is ≡ was ++ lost_of t (resize_to m n v)
  saved_cells m n v was is h =
      outside_cells (min t.rows m) (min t.columns n) (omega arith) (omega arith) was is h
      ∙ ap (λ lost. was ++ lost) (sym (resized_lost t m n v))
