-- The newest change, a resize, taken back.
use Rattle.std.proofs.Common.{◌≡◌, ℕ, ◌-◌, ◌*◌, ◌≤◌, List, length, take, drop, sym, ap, ◌∙◌, subst, ap₂, arith}
use Rattle.moves.specs.Blocks.{count_of_lost}
use Rattle.moves.specs.Stores.{items}
use Rattle.model.specs.Sheet.{resize_to, Table, rows_of, columns_of, changed}
use Rattle.model.specs.Journal as model
use Rattle.model.specs.Journal.{Sheet, lost_of}
use Rattle.model.specs.Reached.{Newest}
use Rattle.model.proofs.Resized.{resize_length, resized}
use Rattle.journal.specs.declared.parts.Entry.{Entry}
use Rattle.journal.specs.declared.parts.Parts.{Parts}
use Rattle.journal.specs.View.{view}
use Rattle.journal.specs.Answering.{Held}
use Rattle.leaving.specs.Leaving as leaving
use Rattle.leaving.proofs.Undoing.{its_entry, by_change, own_lost}
use Rattle.undo_resize.specs.Back.{ShapeBack}
use Rattle.undo_resize.specs.Noted.{OfResize, is_resizing}
use Rattle.undo_resize.proofs.Cells.{Resized, was_resized, cells_back}

-- src is the entry's own saved cells
module _ {A : Type 0} (p : Parts A) (e : Entry) (held : Held p) (is : leaving.Newest p e) (noted : OfResize e)
    (src : List A) (own : src ≡ drop (length (items p.saved) - e.cells) (items p.saved)) where
  -- how many cells the shape now has no place for
  abbrev lost : ℕ
  lost = count_of_lost e.rows e.columns p.table.rows p.table.columns

  module _ (w : Newest (view p)) where
    form : Resized w.last
    form = was_resized w.last (ap (λ (z : model.Entry). is_resizing z.note) (sym (its_entry p e held is w)) ∙ noted)

    rows_now : p.table.rows ≡ form.rows
    rows_now =
        ap (λ (z : Sheet A). z.table.rows) w.is
        ∙ ap (λ ch. length (rows_of w.former.table ch)) form.is ∙ resize_length form.rows w.former.table.rows

    columns_now : p.table.columns ≡ form.columns
    columns_now =
        ap (λ (z : Sheet A). z.table.columns) w.is
        ∙ ap (λ ch. length (columns_of w.former.table ch)) form.is ∙ resize_length form.columns w.former.table.columns

    -- to the shape that the sheet has now
    last_is : w.last ≡ resize_to p.table.rows p.table.columns form.value
    last_is = form.is ∙ ap₂ (λ m n. resize_to m n form.value) (sym rows_now) (sym columns_now)

    rows_as_before : e.rows ≡ w.former.table.rows
    rows_as_before = ap (λ (z : model.Entry). z.rows_were) (its_entry p e held is w)

    columns_as_before : e.columns ≡ w.former.table.columns
    columns_as_before = ap (λ (z : model.Entry). z.columns_were) (its_entry p e held is w)

    own_count : length src ≡ lost
    own_count =
        ap length (own_lost p e held is src own w ∙ ap (lost_of w.former.table) last_is)
        ∙ (resized w.former.table p.table.rows p.table.columns form.value w.bounds.within.right).lost
        ∙ ap₂ (λ R C. count_of_lost R C p.table.rows p.table.columns) (sym rows_as_before) (sym columns_as_before)

    pub table_back : (zs : List A) → ShapeBack src p.table.cells.now zs p.table.rows p.table.columns e.rows e.columns
        → take (w.former.table.rows * w.former.table.columns) zs ≡ w.former.table.cells
    table_back zs h =
        let t : Table A = w.former.table in
        let m = p.table.rows in
        let n = p.table.columns in
        let room : length p.table.cells.now ≡ w.former.room.for_cells = ap (λ (z : Sheet A). z.room.for_cells) w.is in
        cells_back t w.bounds.within.right m n form.value src p.table.cells.now zs
        (ap (λ (z : Sheet A). z.table.cells) w.is ∙ ap (λ ch. (changed t ch).cells) last_is)
        p.table.fits
        (omega (arith, room, w.bounds.within.cells))
        (own_lost p e held is src own w ∙ ap (lost_of t) last_is)
        (subst (λ C. ShapeBack src p.table.cells.now zs m n t.rows C) columns_as_before
        (subst (λ R. ShapeBack src p.table.cells.now zs m n R e.columns) rows_as_before h))

  -- the cells that come back are there
  pub all_there : lost ≤ length src
  all_there = by_change p e held is lost (length src) (λ w. omega (arith, own_count w))
