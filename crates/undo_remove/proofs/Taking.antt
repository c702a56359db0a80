-- The newest change, a removal, taken back.
use Rattle.std.proofs.Common.{◌≡◌, ℕ, ◌+◌, ◌-◌, ◌*◌, ◌≤◌, true, List, length, take, drop, sym, refl, ap, ◌∙◌, ap₂, subst, arith}
use Rattle.std.proofs.lemmas.Bool.{and_parts, leb-true}
use Rattle.layout.specs.declared.side.Side.{Side}
use Rattle.layout.specs.declared.side.Side.TheVariants.{Rows, Columns}
use Rattle.moves.specs.Blocks.{block_in, block_of, cells_in, cells_of, columns_with, count_of, lines_in, rows_with}
use Rattle.moves.specs.Stores.{items}
use Rattle.moves.specs.Tables.{Restored}
use Rattle.model.specs.Sheet.{Change, insert_lines, remove_lines, remove_listed, swap_lines, fill_lines, resize_to, Table, changed}
use Rattle.model.specs.Journal as model
use Rattle.model.specs.Journal.{Sheet, Right, lost_of, named_in, one_run}
use Rattle.model.specs.Reached.{Newest}
use Rattle.model.proofs.Counting.{Counts, rows_removed, columns_removed}
use Rattle.model.proofs.Reaching.{newest_named}
use Rattle.journal.specs.declared.parts.Note.TheVariants.{Removal}
use Rattle.journal.specs.declared.parts.Entry.{Entry}
use Rattle.journal.specs.declared.parts.Parts.{Parts}
use Rattle.journal.specs.View.{note_of, side_of, view}
use Rattle.journal.specs.Answering.{Held}
use Rattle.leaving.specs.Leaving as leaving
use Rattle.leaving.proofs.Undoing.{by_change, its_entry, own_lost}
use Rattle.undo_remove.proofs.Cells.{lines_back}

-- the note tells the change
was_removal : {A : Type 0} (side : Side) (i n : ℕ) (ch : Change A) → note_of (Removal side i n) ≡ model.note_of ch → ch ≡ remove_lines (side_of side) i n
was_removal side i n (insert_lines s a b v) h = absurd (let z : ◌≡◌ {A = ℕ} 0 1 = cc in omega arith)
was_removal side i n (remove_lines s a b) h = cc
was_removal side i n (remove_listed s ks) h = absurd (let z : ◌≡◌ {A = ℕ} 0 1 = cc in omega arith)
was_removal side i n (swap_lines s a b) h = absurd (let z : ◌≡◌ {A = ℕ} 0 1 = cc in omega arith)
was_removal side i n (fill_lines s a b vs v) h = absurd (let z : ◌≡◌ {A = ℕ} 0 1 = cc in omega arith)
was_removal side i n (resize_to a b v) h = absurd (let z : ◌≡◌ {A = ℕ} 0 1 = cc in omega arith)

named_there : {A : Type 0} (side : Side) (t : Table A) (i n : ℕ) → named_in t (remove_lines (side_of side) i n) ≡ true → i + n ≤ lines_in side t.rows t.columns
named_there Rows t i n h = leb-true (i + n) t.rows (and_parts _ true h).0
named_there Columns t i n h = leb-true (i + n) t.columns h

counts : {A : Type 0} (side : Side) (t : Table A) → Right t → (i n : ℕ) → i + n ≤ lines_in side t.rows t.columns
    → Counts t (remove_lines (side_of side) i n) (rows_with side (lines_in side t.rows t.columns - n) t.rows) (columns_with side (lines_in side t.rows t.columns - n) t.columns)
    (one_run i n) (cells_in side n t.rows t.columns)
counts Rows t right i n h = rows_removed t right i n h
counts Columns t right i n h = columns_removed t right i n h

-- a side without n of its lines, which come back
less_more : (side : Side) (R C n k : ℕ) → n ≤ lines_in side R C → k ≡ lines_in side R C - n
    → (lines_in side (rows_with side k R) (columns_with side k C) ≡ k)
    × (cells_in side (k + n) (rows_with side k R) (columns_with side k C) ≡ R * C)
    × (cells_in side n (rows_with side k R) (columns_with side k C) ≡ cells_in side n R C)
less_more Rows R C n k h e = (refl, ap (λ z. z * C) (let z : k + n ≡ R = omega arith in z), refl)
less_more Columns R C n k h e = (refl, ap (λ z. R * z) (let z : k + n ≡ C = omega arith in z), refl)

module _ {A : Type 0} (p : Parts A) (e : Entry) (held : Held p) (is : leaving.Newest p e) (side : Side) (i n : ℕ) (noted : e.note ≡ Removal side i n) where
  module _ (w : Newest (view p)) where
    change_is : w.last ≡ remove_lines (side_of side) i n
    change_is = was_removal side i n w.last (ap note_of (sym noted) ∙ ap (λ (z : model.Entry). z.note) (its_entry p e held is w))

    there : i + n ≤ lines_in side w.former.table.rows w.former.table.columns
    there = named_there side w.former.table i n (ap (named_in w.former.table) (sym change_is) ∙ newest_named (view p) w)

    table_is : (view p).table ≡ changed w.former.table (remove_lines (side_of side) i n)
    table_is = ap (λ (z : Sheet A). z.table) w.is ∙ ap (changed w.former.table) change_is

    abbrev left : ℕ
    left = lines_in side w.former.table.rows w.former.table.columns - n

    its_counts : Counts w.former.table (remove_lines (side_of side) i n) (rows_with side left w.former.table.rows) (columns_with side left w.former.table.columns) (one_run i n) (cells_in side n w.former.table.rows w.former.table.columns)
    its_counts = counts side w.former.table w.bounds.within.right i n there

    rows_are : p.table.rows ≡ rows_with side left w.former.table.rows
    rows_are = ap (λ (z : Table A). z.rows) table_is ∙ its_counts.rows

    columns_are : p.table.columns ≡ columns_with side left w.former.table.columns
    columns_are = ap (λ (z : Table A). z.columns) table_is ∙ its_counts.columns

    shape : (count_of p.table side ≡ left) × (cells_of p.table side (left + n) ≡ w.former.table.rows * w.former.table.columns) × (cells_of p.table side n ≡ cells_in side n w.former.table.rows w.former.table.columns)
    shape =
        let f = less_more side w.former.table.rows w.former.table.columns n left (let h = there in omega arith) refl in (
          ap₂ (lines_in side) rows_are columns_are ∙ f.0,
          ap₂ (cells_in side (left + n)) rows_are columns_are ∙ f.1,
          ap₂ (cells_in side n) rows_are columns_are ∙ f.2,
        )

  pub lines_there : i ≤ count_of p.table side
  lines_there = by_change p e held is i (count_of p.table side) (λ w. let h = there w in let s = (shape w).0 in omega arith)

  pub room : cells_of p.table side (count_of p.table side + n) ≤ length p.table.cells.now
  room = by_change p e held is (cells_of p.table side (count_of p.table side + n)) (length p.table.cells.now) (λ w.
      let s = shape w in
      let f : cells_of p.table side (count_of p.table side + n) ≡ w.former.table.rows * w.former.table.columns = ap (λ z. cells_of p.table side (z + n)) s.0 ∙ s.1 in
      let g = ap (λ (z : Sheet A). z.room.for_cells) w.is in
      omega (arith, f, g, w.bounds.within.cells))

  module _ (src : List A) (own : src ≡ drop (length (items p.saved) - e.cells) (items p.saved)) where
    lost_is : (w : Newest (view p)) → src ≡ lost_of w.former.table (remove_lines (side_of side) i n)
    lost_is w = own_lost p e held is src own w ∙ ap (lost_of w.former.table) (change_is w)

    pub all_there : cells_of p.table side n ≤ length src
    all_there = by_change p e held is (cells_of p.table side n) (length src) (λ w. omega (arith, ap length (lost_is w), (its_counts w).lost, (shape w).2))

    pub table_back : (zs : List A) → Restored src p.table.cells.now zs (block_in p.table side i n) → (w : Newest (view p))
        → take (w.former.table.rows * w.former.table.columns) zs ≡ w.former.table.cells
    table_back zs h w =
        let t = w.former.table in
        let k = left w in
        let g = ap (λ (z : Sheet A). z.room.for_cells) w.is in
        lines_back t w.bounds.within.right i n src p.table.cells.now zs (omega (arith, g, w.bounds.within.cells)) side (there w)
        (ap₂ (λ y z. take (y * z) p.table.cells.now) (sym (rows_are w)) (sym (columns_are w)) ∙ ap (λ (z : Table A). z.cells) (table_is w))
        (lost_is w)
        (subst (λ z. Restored src p.table.cells.now zs (block_of side (rows_with side k t.rows) z i n)) (columns_are w)
        (subst (λ z. Restored src p.table.cells.now zs (block_of side z p.table.columns i n)) (rows_are w) h))
