-- The former table read off the changed one: by what the entry notes, and where each of its cells stands.
use Rattle.std.proofs.Common.{◌≡◌, ℕ, ◌+◌, ◌*◌, ◌<◌, ◌≤◌, true, List, [], length, get_or, take, sym, refl, ap, ◌∙◌, arith}
use Rattle.std.proofs.lemmas.Nat.{mul-add-lt}
use Rattle.std.proofs.lemmas.Bool.{and_parts}
use Rattle.model.specs.Sheet.{Origin, old, new, keep, origins, Side, row, column, named, Change, insert_lines, remove_lines, remove_listed, swap_lines, fill_lines, resize_to, edit, Table, rows_of, columns_of}
use Rattle.model.specs.Journal.{Sheet, Note, insertion, removal, listed_removal, exchange, gap, resizing, note_of, recalled, named_in}
use Rattle.model.specs.Sentences.{lines}
use Rattle.model.specs.Reached.{Newest}
use Rattle.model.proofs.Lines.{keep_at, keep_length}
use Rattle.model.proofs.Joins.{table_cells, former_cell, same_cell}
use Rattle.model.proofs.Reaching.{newest_named}
use Rattle.journal.specs.declared.parts.Parts.{Parts}
use Rattle.journal.specs.View.{view}

-- a note that holds all of its numbers
abbrev pub Unlisted : Note → Type 0
Unlisted (insertion s i n) = Unit {0}
Unlisted (removal s i n) = Unit {0}
Unlisted (listed_removal s) = ⊥
Unlisted (exchange s i j) = Unit {0}
Unlisted (gap s i n) = Unit {0}
Unlisted (resizing m n) = Unit {0}

-- tells what the change did to a side
pub told : {A : Type 0} (s : Side) (ch : Change A) → Unlisted (note_of ch) → recalled s (note_of ch) [] ≡ edit s ch
told s (insert_lines s' i n v) h = refl
told s (remove_lines s' i n) h = refl
told s (remove_listed s' ks) h = absurd h
told s (swap_lines s' i j) h = refl
told s (fill_lines s' i n vs v) h = refl
told row (resize_to m n v) h = refl
told column (resize_to m n v) h = refl

-- the lines of the side that an accepted change names are there
pub side_named : {A : Type 0} (s : Side) (t : Table A) (ch : Change A) → named_in t ch ≡ true → named (edit s ch) (lines s t) ≡ true
side_named row t ch h = (and_parts (named (edit row ch) t.rows) (named (edit column ch) t.columns) h).0
side_named column t ch h = (and_parts (named (edit row ch) t.rows) (named (edit column ch) t.columns) h).1

-- line j of these origins was line k
pub record Comes (os : List Origin) (j k : ℕ) : Type 0 where
  pub there : j < length os
  pub is : get_or os j (new 0) ≡ old k

pub kept : (m k : ℕ) → k < m → Comes (origins keep m) k k
kept m k h = let l = keep_length m in record { there = omega arith; is = keep_at m k (new 0) h }

-- the former cell of row r and column c stands on row k and column l of the changed table in ys, of m rows, and zs has it in its old place
pub record Stands {A : Type 0} (t : Table A) (ch : Change A) (m : ℕ) (ys zs : List A) (r c : ℕ) : Type 0 where
  pub k : ℕ
  pub l : ℕ
  pub on_row : Comes (rows_of t ch) k r
  pub on_column : Comes (columns_of t ch) l c
  pub same : (d : A) → get_or zs (r + c * t.rows) d ≡ get_or ys (k + l * m) d

module _ {A : Type 0} (p : Parts A) (w : Newest (view p)) where
  pub rows_now : p.table.rows ≡ length (rows_of w.former.table w.last)
  rows_now = ap (λ (z : Sheet A). z.table.rows) w.is

  pub columns_now : p.table.columns ≡ length (columns_of w.former.table w.last)
  columns_now = ap (λ (z : Sheet A). z.table.columns) w.is

  -- the former table had room in the buffer
  pub former_fits : w.former.table.rows * w.former.table.columns ≤ length p.table.cells.now
  former_fits =
      let e : length p.table.cells.now ≡ w.former.room.for_cells = ap (λ (z : Sheet A). z.room.for_cells) w.is in
      omega (arith, w.bounds.within.cells)

  -- a buffer that has every former cell in its old place
  pub former_back :
      (zs : List A) → length zs ≡ length p.table.cells.now
      → ((r c : ℕ) → r < w.former.table.rows → c < w.former.table.columns → Stands w.former.table w.last p.table.rows p.table.cells.now zs r c)
      → take (w.former.table.rows * w.former.table.columns) zs ≡ w.former.table.cells
  former_back zs long h =
      let t = w.former.table in
      let ch : Change A = w.last in
      let ys = p.table.cells.now in
      let room = former_fits in
      let er = rows_now in
      let ec = columns_now in
      table_cells t zs w.bounds.within.right (omega arith) (λ r c a b.
      let s = h r c a b in
      let hk : s.k < p.table.rows = omega (arith, s.on_row.there) in
      let hl : s.l < p.table.columns = omega (arith, s.on_column.there) in
      let below = mul-add-lt c t.rows r t.columns b a in
      let fits = p.table.fits in
      let inside = mul-add-lt s.l p.table.rows s.k p.table.columns hl hk in
      same_cell zs ys (r + c * t.rows) (s.k + s.l * p.table.rows) (omega arith) (omega arith) s.same
      ∙ former_cell t ch p.table.rows p.table.columns ys w.bounds.within.right (newest_named (view p) w) (sym er) (sym ec)
      (ap (λ (z : Sheet A). z.table.cells) w.is) s.k s.l r c hk hl s.on_row.is s.on_column.is)
