-- An undo takes back the change before it.
use Rattle.std.proofs.Common.{◌≡◌, ℕ, ◌<◌, true, false, List, ◌++◌, length, get_or, take, drop, refl, ap, ◌∙◌, ap₂, inl, inr, arith, length-append}
use Rattle.std.specs.List.{AllByRecursion as All}
use Rattle.std.proofs.lemmas.List.{take_at, drop_at}
use Rattle.std.proofs.ByRecursion.{All-weaker}
use Rattle.std.proofs.lemmas.Bool.{eqb-true, ltb-true, and_parts, both_ways}
use Rattle.model.specs.Sheet.{Origin, old, new, row, column, Change, edit, named, Table, cell_at, cell_of, rows_of, columns_of, changed, origins}
use Rattle.model.specs.Journal.{is_old, stands, survives, stays, note_of, recalled, places, restored, all_but, runs_of, lost_of, entry_of, Sheet, after, before, Right, named_in}
use Rattle.model.proofs.Grids.{Single, Singles, grid_at, length_grid, table_back, single_cell, all_places, restores, place_found}
use Rattle.model.proofs.Edits.{Fits, fits, made_single, recall_rows, recall_columns}

module _ {A : Type 0} (t : Table A) (ch : Change A) (right : Right t) (there : named_in t ch ≡ true) where
  fit_rows : All (Fits (edit row ch) t.rows) (rows_of t ch)
  fit_rows = fits (edit row ch) t.rows (and_parts (named (edit row ch) t.rows) (named (edit column ch) t.columns) there).0

  fit_columns : All (Fits (edit column ch) t.columns) (columns_of t ch)
  fit_columns =
      fits (edit column ch) t.columns (and_parts (named (edit row ch) t.rows) (named (edit column ch) t.columns) there).1

  single_of : (o p : Origin) → Fits (edit row ch) t.rows o → Fits (edit column ch) t.columns p → Single (cell_of t ch o p)
  single_of (old k) (old l) f g = single_cell t right k l f g
  single_of (old k) (new j) f g = made_single ch t.rows (old k) (new j) (inr g)
  single_of (new j) p f g = made_single ch t.rows (new j) p (inl f)

  pub singles : Singles (λ q. cell_of t ch q.0 q.1) (rows_of t ch) (columns_of t ch)
  singles =
      All-weaker (Fits (edit column ch) t.columns) (λ p. All (λ o. Single (cell_of t ch o p)) (rows_of t ch))
      (λ p g. All-weaker (Fits (edit row ch) t.rows) (λ o. Single (cell_of t ch o p))
      (λ o f. single_of o p f g) (rows_of t ch) fit_rows)
      (columns_of t ch) fit_columns

  pub right_changed : Right (changed t ch)
  right_changed = length_grid (λ q. cell_of t ch q.0 q.1) (rows_of t ch) (columns_of t ch) singles

  pub changed_at :
      (r c : ℕ) (d e : Origin) → r < length (rows_of t ch) → c < length (columns_of t ch)
      → cell_at (changed t ch) r c ≡ cell_of t ch (get_or (rows_of t ch) r d) (get_or (columns_of t ch) c e)
  changed_at r c d e h k =
      grid_at (λ q. cell_of t ch q.0 q.1) (rows_of t ch) (columns_of t ch) r c d e singles h k

is_old_lem : (k : ℕ) (o : Origin) → is_old k o ≡ true → o ≡ old k
is_old_lem k (old j) h = ap old (eqb-true j k h)
is_old_lem k (new j) h = absurd (both_ways false refl h)

stood : (k : ℕ) (os : List Origin) (d : Origin) → survives k os ≡ true → get_or os (stands k os) d ≡ old k
stood k os d h =
    is_old_lem k (get_or os (stands k os) d) (place_found (is_old k) os d (ltb-true (stands k os) (length os) h))

pub own_start : {X : Type 0} (xs ys : List X) → length xs ≡ all_but (length ys) (xs ++ ys)
own_start xs ys = let e = length-append xs ys in omega arith

pub own_drop : {X : Type 0} (xs ys : List X) → drop (all_but (length ys) (xs ++ ys)) (xs ++ ys) ≡ ys
own_drop xs ys = drop_at xs ys (all_but (length ys) (xs ++ ys)) (own_start xs ys)

pub own_take : {X : Type 0} (xs ys : List X) → take (all_but (length ys) (xs ++ ys)) (xs ++ ys) ≡ xs
own_take xs ys = take_at xs ys (all_but (length ys) (xs ++ ys)) (own_start xs ys)

module _ {A : Type 0} (t : Table A) (ch : Change A) (right : Right t) (there : named_in t ch ≡ true) where
  stayed :
      (q : ℕ × ℕ) → stays (rows_of t ch) (columns_of t ch) q ≡ true
      → cell_at (changed t ch) (stands q.0 (rows_of t ch)) (stands q.1 (columns_of t ch)) ≡ cell_at t q.0 q.1
  stayed q h =
      let os = rows_of t ch in
      let ps = columns_of t ch in
      let b = and_parts (survives q.0 os) (survives q.1 ps) h in
      changed_at t ch right there (stands q.0 os) (stands q.1 ps) (new 0) (new 0)
      (ltb-true (stands q.0 os) (length os) b.0) (ltb-true (stands q.1 ps) (length ps) b.1)
      ∙ ap₂ (cell_of t ch) (stood q.0 os (new 0) b.0) (stood q.1 ps (new 0) b.1)

  cells_back :
      restored (changed t ch) (rows_of t ch) (columns_of t ch) (places t.rows t.columns) (lost_of t ch) ≡ t.cells
  cells_back =
      restores (changed t ch) (rows_of t ch) (columns_of t ch) (λ q. cell_at t q.0 q.1) stayed (places t.rows t.columns)
      (all_places (λ q. Single (cell_at t q.0 q.1)) t.rows t.columns (single_cell t right))
      ∙ table_back t right

pub undo_after :
    {A : Type 0} (s : Sheet A) (ch : Change A) → Right s.table → named_in s.table ch ≡ true
    → before (after s ch) (entry_of s.table ch) s.entries ≡ s
undo_after {A} s ch right there = λ i. record {
  table = record { rows = s.table.rows; columns = s.table.columns; cells = cells i };
  entries = s.entries;
  runs = own_take s.runs rs i;
  saved = own_take s.saved ks i;
  room = s.room;
}
  where
    t : Table A
    t = s.table

    rs : List (ℕ × ℕ)
    rs = runs_of t ch

    ks : List A
    ks = lost_of t ch

    cells : (before (after s ch) (entry_of s.table ch) s.entries).table.cells ≡ s.table.cells
    cells =
        ap₂ (λ mine ks. restored (changed t ch) (origins (recalled row (note_of ch) mine) t.rows) (origins (recalled column (note_of ch) mine) t.columns) (places t.rows t.columns) ks)
        (own_drop s.runs rs) (own_drop s.saved ks)
        ∙ ap₂ (λ os ps. restored (changed t ch) os ps (places t.rows t.columns) ks) (recall_rows t ch) (recall_columns t ch)
        ∙ cells_back t ch right there
