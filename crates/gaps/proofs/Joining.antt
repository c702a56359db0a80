-- A gap opened and then filled is one change.
use Rattle.std.proofs.Common.{◌≡◌, ℕ, ◌+◌, true, false, List, [], ◌∷◌, map, is_err, Ok, Err, Result, sym, refl, ap, ◌∙◌, subst, append-nil}
use mathlib.Core.Logic.{∥∥₁_elim, ∥∥₁_prop}
use Rattle.std.proofs.lemmas.Bool.{both_ways}
use Rattle.layout.specs.declared.refusal.Refusal.{Refusal}
use Rattle.layout.specs.declared.side.Side.{Side}
use Rattle.moves.specs.Blocks.{block_of, columns_with, lines_in, rows_with}
use Rattle.moves.specs.Stores.{Grown, items, room}
use Rattle.model.specs.Sheet.{Change, fill_lines}
use Rattle.model.specs.Journal.{change}
use Rattle.journal.specs.declared.parts.Note.{Note}
use Rattle.journal.specs.declared.parts.Parts.{Parts}
use Rattle.journal.specs.View.{run_of, side_of, table_of, view}
use Rattle.journal.specs.Entering.{entry_for}
use Rattle.journal.specs.Answering.{Answers, Held, Performed}
use Rattle.journal.proofs.Asking.{verdict_is}
use Rattle.journal.proofs.Answering.{accepted, entered, nothing_lost, refuses, right, same_room}
use Rattle.gaps.specs.Taken.{RowsTaken}
use Rattle.gaps.specs.Gaps.{Parted, Left, Filled, Fills}
use Rattle.gaps.proofs.Questions.{gap_counts, gap_lost}
use Rattle.gaps.proofs.Cells.{gap_cells}

module _ {A : Type 0} (p q q' : Parts A) (side : Side) (i n : ℕ) (vs : List A) (v : A) (o : Parted p q side i n) (f : Filled q q' side i n vs v) where
  filled_rows : q'.table.rows ≡ rows_with side (lines_in side p.table.rows p.table.columns + n) p.table.rows
  filled_rows = f.shape.0 ∙ (λ j. rows_with side (lines_in side (o.shape.0 j) (o.shape.1 j) + n) (o.shape.0 j))

  filled_columns : q'.table.columns ≡ columns_with side (lines_in side p.table.rows p.table.columns + n) p.table.columns
  filled_columns = f.shape.1 ∙ (λ j. columns_with side (lines_in side (o.shape.0 j) (o.shape.1 j) + n) (o.shape.1 j))

  filled_performs : Performed p q' (fill_lines (side_of side) i n vs v) (rows_with side (lines_in side p.table.rows p.table.columns + n) p.table.rows) (columns_with side (lines_in side p.table.rows p.table.columns + n) p.table.columns) [] 0
  filled_performs =
      let note : Note = Note.Gap side i n in
      record {
        note = note;
        noted = refl;
        rows = filled_rows;
        columns = filled_columns;
        cells = gap_cells (table_of p) (right p) p.table.cells.now refl i n vs v side o.room.there q.table.cells.now q'.table.cells.now o.room.fits.cells o.cells
            (subst (λ b. RowsTaken q.table.cells.now q'.table.cells.now b vs v) (λ j. block_of side (filled_rows j) (filled_columns j) i n) f.cells);
        saved = ap (λ s. items s) (f.saved ∙ o.saved) ∙ nothing_lost p (fill_lines (side_of side) i n vs v) (gap_lost (table_of p) i n vs v side o.room.there);
        runs = ap (λ s. map run_of (items s)) (f.runs ∙ o.runs) ∙ sym (append-nil _);
        entries = entered p _ _ _ (λ j. record { note = note; rows = o.shape.0 j; columns = o.shape.1 j; runs = 0; cells = 0 }) (subst (λ s. Grown s q'.entries (entry_for q note 0 0 ∷ [])) o.entries f.entries);
        room = same_room _ _ _ _ _ _ _ _ (f.cells.long ∙ o.cells.long) (f.entries.kept.room ∙ ap (λ s. room s) o.entries) (ap (λ s. room s) (f.runs ∙ o.runs)) (ap (λ s. room s) (f.saved ∙ o.saved));
      }

-- filling an accepted gap
pub fills : {A : Type 0} (q q' : Parts A) (side : Side) (i n : ℕ) (r : Result Unit Refusal) (vs : List A) (v : A) → false ≡ is_err r → Filled q q' side i n vs v → Fills q q' side i n r vs v
fills q q' side i n (Err e) vs v ok f p gap = absurd (both_ways false refl ok)
fills {A} q q' side i n (Ok u) vs v ok f p gap =
    let ch : Change A = fill_lines (side_of side) i n vs v in
    let o : Parted p q side i n = gap.opened in
    let counts = gap_counts (table_of p) i n vs v side o.room.there in
    accepted p q' ch _ _ [] 0 counts (filled_performs p q q' side i n vs v o f) gap.held (gap.which vs v ∙ sym (verdict_is (view p) ch _ _ [] 0 counts))

-- and a refused one: the parts are as they were
pub fills_none : {A : Type 0} (q : Parts A) (side : Side) (i n : ℕ) (r : Result Unit Refusal) (vs : List A) (v : A) → true ≡ is_err r → Fills q q side i n r vs v
fills_none q side i n (Ok u) vs v no_gap p gap = absurd (both_ways false refl (sym no_gap))
fills_none {A} q side i n (Err e) vs v no_gap p gap =
    let ch : Change A = fill_lines (side_of side) i n vs v in
    subst (λ z. Answers p z (change ch) (Err e)) (sym gap.opened) (refuses p ch e gap.held (gap.which vs v))

module _ {A : Type 0} (q : Parts A) (side : Side) (i n : ℕ) (r : Result Unit Refusal) (w : ∥ Left q side i n r ∥₁) where
  -- what filling leaves is a sheet
  pub filled_held : (q' : Parts A) (vs : List A) (v : A) → Fills q q' side i n r vs v → Held q'
  filled_held q' vs v f = ∥∥₁_elim w ∥∥₁_prop (λ z. (f z.former z.gap).held)
