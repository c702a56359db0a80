-- A swap taken back.
use Rattle.std.proofs.Common.{◌≡◌, ℕ, suc, ◌*◌, ◌<◌, true, ◌&&◌, ltb, List, take, sym, ap, ◌∙◌, subst, ap₂, arith}
use Rattle.std.proofs.lemmas.Bool.{and_parts, ltb-true}
use Rattle.layout.specs.Lawful.{dense}
use Rattle.model.specs.Sheet.{Change, insert_lines, remove_lines, remove_listed, swap_lines, fill_lines, resize_to, Table, changed}
use Rattle.model.specs.Journal as model
use Rattle.model.specs.Journal.{Sheet, named_in}
use Rattle.model.specs.Reached.{Newest}
use Rattle.model.proofs.Reaching.{newest_named}
use Rattle.layout.specs.declared.side.Side.{Side}
use Rattle.layout.specs.declared.side.Side.TheVariants.{Rows, Columns}
use Rattle.journal.specs.declared.parts.Note.TheVariants.{Exchange}
use Rattle.journal.specs.declared.parts.Entry.{Entry}
use Rattle.journal.specs.declared.parts.Parts.{Parts}
use Rattle.moves.specs.Blocks.{lines_in}
use Rattle.journal.specs.View.{note_of, side_of, view}
use Rattle.journal.specs.Answering.{Held}
use Rattle.leaving.specs.Leaving as leaving
use Rattle.leaving.proofs.Undoing.{by_change, its_entry}
use Rattle.swaps.specs.Exchange.{Swapped}
use Rattle.swaps.proofs.Exchanging.{counts, exchanged_back}

-- the note tells the change
was_exchange : {A : Type 0} (side : Side) (i j : ℕ) (ch : Change A) → note_of (Exchange side i j) ≡ model.note_of ch → ch ≡ swap_lines (side_of side) i j
was_exchange side i j (insert_lines s a b v) h = absurd (let z : ◌≡◌ {A = ℕ} 0 1 = cc in omega arith)
was_exchange side i j (remove_lines s a b) h = absurd (let z : ◌≡◌ {A = ℕ} 0 1 = cc in omega arith)
was_exchange side i j (remove_listed s ks) h = absurd (let z : ◌≡◌ {A = ℕ} 0 1 = cc in omega arith)
was_exchange side i j (swap_lines s a b) h = cc
was_exchange side i j (fill_lines s a b vs v) h = absurd (let z : ◌≡◌ {A = ℕ} 0 1 = cc in omega arith)
was_exchange side i j (resize_to a b v) h = absurd (let z : ◌≡◌ {A = ℕ} 0 1 = cc in omega arith)

named_there : {A : Type 0} (side : Side) (t : Table A) (i j : ℕ) → named_in t (swap_lines (side_of side) i j) ≡ true
    → (i < lines_in side t.rows t.columns) × (j < lines_in side t.rows t.columns)
named_there Rows t i j h =
    let b = and_parts (ltb i t.rows) (ltb j t.rows) (and_parts (ltb i t.rows && ltb j t.rows) true h).0 in
    (ltb-true i t.rows b.0, ltb-true j t.rows b.1)
named_there Columns t i j h =
    let b = and_parts (ltb i t.columns) (ltb j t.columns) h in (ltb-true i t.columns b.0, ltb-true j t.columns b.1)

module _ {A : Type 0} (p : Parts A) (e : Entry) (held : Held p) (is : leaving.Newest p e) (side : Side) (i j : ℕ) (noted : e.note ≡ Exchange side i j) where
  module _ (w : Newest (view p)) where
    t : Table A
    t = w.former.table

    change_is : w.last ≡ swap_lines (side_of side) i j
    change_is = was_exchange side i j w.last (ap note_of (sym noted) ∙ ap (λ (z : model.Entry). z.note) (its_entry p e held is w))

    there : (i < lines_in side w.former.table.rows w.former.table.columns) × (j < lines_in side w.former.table.rows w.former.table.columns)
    there = named_there side w.former.table i j (ap (named_in w.former.table) (sym change_is) ∙ newest_named (view p) w)

    table_is : (view p).table ≡ changed w.former.table (swap_lines (side_of side) i j)
    table_is = ap (λ (z : Sheet A). z.table) w.is ∙ ap (changed w.former.table) change_is

    rows_are : p.table.rows ≡ w.former.table.rows
    rows_are = ap (λ (z : Table A). z.rows) table_is ∙ (counts side w.former.table i j there.0 there.1).rows

    columns_are : p.table.columns ≡ w.former.table.columns
    columns_are = ap (λ (z : Table A). z.columns) table_is ∙ (counts side w.former.table i j there.0 there.1).columns

    lines_are : lines_in side w.former.table.rows w.former.table.columns ≡ lines_in side p.table.rows p.table.columns
    lines_are = ap₂ (lines_in side) (sym rows_are) (sym columns_are)

  pub lines_there : (i < lines_in side p.table.rows p.table.columns) × (j < lines_in side p.table.rows p.table.columns)
  lines_there = (
    by_change p e held is (suc i) (lines_in side p.table.rows p.table.columns) (λ w. subst (λ z. i < z) (lines_are w) (there w).0),
    by_change p e held is (suc j) (lines_in side p.table.rows p.table.columns) (λ w. subst (λ z. j < z) (lines_are w) (there w).1),
  )

  pub swapped_back : (zs : List A) → Swapped side (dense p.table.rows p.table.columns) p.table.cells.now zs i j
      → (w : Newest (view p)) → take (w.former.table.rows * w.former.table.columns) zs ≡ w.former.table.cells
  swapped_back zs s w =
      let f = w.former.table in
      let er = rows_are w in
      let ec = columns_are w in
      let s2 = subst (λ z. Swapped side (dense f.rows z) p.table.cells.now zs i j) ec (subst (λ z. Swapped side (dense z p.table.columns) p.table.cells.now zs i j) er s) in
      let size : p.table.rows * p.table.columns ≡ f.rows * f.columns = ap₂ ◌*◌ er ec in
      exchanged_back side f i j (there w).0 (there w).1 w.bounds.within.right p.table.cells.now zs s2 (omega (arith, p.table.fits))
      (ap (λ k. take k p.table.cells.now) (sym size) ∙ ap (λ (z : Table A). z.cells) (table_is w))
