-- A resize taken back, from places of the buffer to the model's tables.
use Rattle.std.proofs.Common.{◌≡◌, ℕ, ◌+◌, ◌-◌, ◌*◌, ◌<◌, ◌≤◌, min, true, List, ◌++◌, length, get_or, take, sym, refl, ap, ◌∙◌, ap₂, inl, inr, arith}
use Rattle.std.proofs.lemmas.List.{get_or_append_left, get_or-append-add}
use Rattle.std.proofs.lemmas.Nat.{mul-add-lt}
use Rattle.std.proofs.lemmas.Bool.{cases_lt}
use Rattle.model.specs.Sheet.{new, Change, insert_lines, remove_lines, remove_listed, swap_lines, fill_lines, resize_to, Table, cell_at, changed}
use Rattle.model.specs.Journal as model
use Rattle.model.specs.Journal.{Right, lost_of}
use Rattle.model.proofs.Joins.{table_cells, former_cell, same_cell}
use Rattle.model.proofs.Regions.{region, region_right, region_at}
use Rattle.model.proofs.Resized.{resize_old, resized, resized_lost}
use Rattle.undo_resize.specs.Back.{ShapeBack}
use Rattle.undo_resize.specs.Noted.{is_resizing}

-- a change that is noted as a resize is one
pub record Resized {A : Type 0} (ch : Change A) : Type 0 where
  pub rows : ℕ
  pub columns : ℕ
  pub value : A
  pub is : ch ≡ resize_to rows columns value

pub was_resized : {A : Type 0} (ch : Change A) → is_resizing (model.note_of ch) ≡ true → Resized ch
was_resized (insert_lines s i n v) h = absurd (let z : ◌≡◌ {A = ℕ} 0 1 = cc in omega arith)
was_resized (remove_lines s i n) h = absurd (let z : ◌≡◌ {A = ℕ} 0 1 = cc in omega arith)
was_resized (remove_listed s ks) h = absurd (let z : ◌≡◌ {A = ℕ} 0 1 = cc in omega arith)
was_resized (swap_lines s i j) h = absurd (let z : ◌≡◌ {A = ℕ} 0 1 = cc in omega arith)
was_resized (fill_lines s i n vs v) h = absurd (let z : ◌≡◌ {A = ℕ} 0 1 = cc in omega arith)
was_resized (resize_to m n v) h = record { rows = m; columns = n; value = v; is = refl }

-- the table before the resize, where the resized one lies in xs and src is what it lost
module _ {A : Type 0} (t : Table A) (right : Right t) (m n : ℕ) (v : A) (src xs ys : List A)
    (lies : take (m * n) xs ≡ (changed t (resize_to m n v)).cells) (now : m * n ≤ length xs) (room : t.rows * t.columns ≤ length xs)
    (lost : src ≡ lost_of t (resize_to m n v)) (h : ShapeBack src xs ys m n t.rows t.columns) where
  -- what lies below the corner of a rows and b columns that is in both shapes, and what lies behind it
  abbrev a : ℕ
  a = min t.rows m

  abbrev b : ℕ
  b = min t.columns n

  abbrev lower : Table A
  lower = region t a (t.rows - a) 0 b

  abbrev behind : Table A
  behind = region t 0 t.rows b (t.columns - b)

  lower_long : length lower.cells ≡ (t.rows - m) * b
  lower_long =
      region_right t right a (t.rows - a) 0 b (omega arith) (omega arith)
      ∙ ap (λ z. z * b) (let e : t.rows - a ≡ t.rows - m = omega arith in e)

  behind_long : length behind.cells ≡ t.rows * (t.columns - b)
  behind_long = region_right t right 0 t.rows b (t.columns - b) (omega arith) (omega arith)

  parts : src ≡ lower.cells ++ behind.cells
  parts = lost ∙ resized_lost t m n v

  lower_at : (k : ℕ) (d : A) → k < length lower.cells → get_or src k d ≡ get_or lower.cells k d
  lower_at k d l = ap (λ zs. get_or zs k d) parts ∙ get_or_append_left lower.cells behind.cells d k l

  behind_at : (k : ℕ) (d : A) → k < length behind.cells → get_or src (length lower.cells + k) d ≡ get_or behind.cells k d
  behind_at k d l = ap (λ zs. get_or zs (length lower.cells + k) d) parts ∙ get_or-append-add lower.cells behind.cells k d

  pub cells_back : take (t.rows * t.columns) ys ≡ t.cells
  cells_back =
      let R = t.rows in
      let C = t.columns in
      let ch : Change A = resize_to m n v in
      let k = resized t m n v right in
      let long : length ys ≡ length xs = h.long in
      table_cells t ys right (omega arith) (λ r c x y.
      let below = mul-add-lt c R r C y x in
      elim (cases_lt c n) [
        | inl l ↦ elim (cases_lt r m) [
          | inl l2 ↦
              let inside = mul-add-lt c m r n l l2 in
              same_cell ys xs (r + c * R) (r + c * m) (omega arith) (omega arith) (λ d. h.stay r c d l2 x l y)
              ∙ former_cell t ch m n xs right k.named k.rows k.columns lies r c r c l2 l (resize_old m R r (new 0) l2 x) (resize_old n C c (new 0) l y)
          | inr l2 ↦
              let j : ℕ = r - m in
              let e : m + j ≡ r = omega arith in
              let s : R - a ≡ R - m = omega arith in
              let all = lower_long in
              let tall : (R - a) * b ≡ (R - m) * b = ap (λ z. z * b) s in
              let inside = mul-add-lt c (R - a) j b (omega arith) (omega arith) in
              same_cell ys lower.cells (r + c * R) (j + c * (R - a)) (omega arith) (omega arith)
              (λ d. ap (λ z. get_or ys (z + c * R) d) (sym e) ∙ h.lower j c d (omega arith) l y
              ∙ ap (λ z. get_or src (j + c * z) d) (sym s) ∙ lower_at (j + c * (R - a)) d (omega arith))
              ∙ region_at t right a (R - a) 0 b (omega arith) (omega arith) j c (omega arith) (omega arith)
              ∙ ap₂ (cell_at t) (let z : a + j ≡ r = omega arith in z) (let z : 0 + c ≡ c = omega arith in z)
        ]
        | inr l ↦
            let j : ℕ = c - n in
            let e : n + j ≡ c = omega arith in
            let first = lower_long in
            let all = behind_long in
            let inside = mul-add-lt j R r (C - b) (omega arith) x in
            same_cell ys behind.cells (r + c * R) (r + j * R) (omega arith) (omega arith)
            (λ d. ap (λ z. get_or ys (r + z * R) d) (sym e) ∙ h.behind r j d x (omega arith)
            ∙ ap (λ z. get_or src z d) (let z : (R - m) * b + (r + j * R) ≡ length lower.cells + (r + j * R) = omega arith in z)
            ∙ behind_at (r + j * R) d (omega arith))
            ∙ region_at t right 0 R b (C - b) (omega arith) (omega arith) r j x (omega arith)
            ∙ ap₂ (cell_at t) (let z : 0 + r ≡ r = omega arith in z) (let z : b + j ≡ c = omega arith in z)
      ])
