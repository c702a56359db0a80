-- The newest change taken back, whichever it was: what is left to show is that the former cells stand there again.
use Rattle.std.proofs.Common.{◌≡◌, ℕ, ◌+◌, ◌-◌, ◌*◌, ◌<◌, ◌≤◌, [], ◌∷◌, map, reverse, length, get_or, take, Ok, Err, refl, sym, ap, ◌∙◌, ap₂, arith, length-append, List, ◌++◌, drop}
use mathlib.Core.List.{is_set}
use native.Mathlib.Bridge.{le_prop}
use Rattle.std.proofs.Math.Seq.{drop-append_seam, take-length}
use Rattle.std.proofs.lemmas.List.{drop-map, reverse-append, take_more, take-map}
use Rattle.layout.specs.declared.refusal.Refusal.{Refusal}
use Rattle.moves.specs.declared.vec_storage.Table.{Table}
use Rattle.moves.specs.Stores.{items}
use Rattle.model.specs.Journal as model
use Rattle.model.specs.Journal.{Sheet, lost_of, before, step, undo, taken_back, done, refused, all_but}
use Rattle.model.specs.Reached.{Newest}
use Rattle.model.proofs.Reaching.{by_newest, newest_back, still_reached}
use Rattle.model.proofs.Replays.{not_done}
use Rattle.journal.specs.declared.parts.Entry.{Entry}
use Rattle.journal.specs.declared.parts.Parts.{Parts}
use Rattle.journal.specs.View.{view, entries_of, runs_of, entry_of, run_of}
use Rattle.journal.specs.Answering.{Answers, Held}
use Rattle.journal.proofs.Answering.{same_room, same_sheet}
use Rattle.journal.proofs.Asking.{entries_long, runs_long}
use Rattle.leaving.specs.Leaving.{Leaves, TakesBack, below}
use Rattle.leaving.specs.Leaving as leaving

-- the newest entry, as an undo reads it
pub newest : {A : Type 0} (p : Parts A) (e d : Entry) → 0 < length (items p.entries) → get_or (items p.entries) (length (items p.entries) - 1) d ≡ e
    → leaving.Newest p e
newest p e d h is =
    let xs = items p.entries in
    let j = length xs - 1 in
    ap (λ zs. map entry_of (reverse zs)) (sym (take-length xs) ∙ ap (λ n. take n xs) (let m : length xs ≡ j + 1 = omega arith in m) ∙ take_more xs j d (omega arith))
    ∙ ap (map entry_of) (reverse-append (take j xs) (get_or xs j d ∷ []))
    ∙ ap (λ (x : Entry). entry_of x ∷ below p) is

-- with no entry there is nothing to take back
pub nothing_back : {A : Type 0} (p : Parts A) → Held p → items p.entries ≡ [] → Answers p p undo (Err Refusal.NothingToUndo)
nothing_back p held none =
    let e : entries_of p ≡ [] = ap (λ zs. map entry_of (reverse zs)) none in
    record {
      which = sym (ap (λ qs. (taken_back (view p) qs).1) e);
      state = sym (ap (λ qs. (taken_back (view p) qs).0) e);
      same = λ k z. refl;
      held = held;
    }

module _ {A : Type 0} (p : Parts A) (e : Entry) (held : Held p) (is : leaving.Newest p e) where
  -- it is the entry of the newest change
  pub its_entry : (w : Newest (view p)) → entry_of e ≡ model.entry_of w.former.table w.last
  its_entry w =
      let f : entries_of p ≡ model.entry_of w.former.table w.last ∷ w.former.entries = ap (λ (z : Sheet A). z.entries) w.is in
      cc (is, f)

  -- a bound that follows from whatever change came last
  pub by_change : (a b : ℕ) → (Newest (view p) → a ≤ b) → a ≤ b
  by_change a b f = by_newest (view p) (entry_of e) (below p) is held le_prop f

  -- its saved cells are there
  pub own_cells : e.cells ≤ length (items p.saved)
  own_cells = by_change e.cells (length (items p.saved)) (λ w.
      let t = w.former.table in
      let f : e.cells ≡ length (lost_of t w.last) = ap (λ (z : model.Entry). z.cells_own) (its_entry w) in
      let g = ap (λ (z : Sheet A). length z.saved) w.is in
      let h = length-append w.former.saved (lost_of t w.last) in
      omega arith)

  -- and are what the change lost
  pub own_lost : (src : List A) → src ≡ drop (length (items p.saved) - e.cells) (items p.saved) → (w : Newest (view p)) → src ≡ lost_of w.former.table w.last
  own_lost src own w =
      let gone : List A = lost_of w.former.table w.last in
      let all : items p.saved ≡ w.former.saved ++ gone = ap (λ (z : Sheet A). z.saved) w.is in
      let n = ap (λ (z : model.Entry). z.cells_own) (its_entry w) in
      let f = ap length all in
      let g = length-append w.former.saved gone in
      own
      ∙ ap₂ drop (let z : length (items p.saved) - e.cells ≡ length w.former.saved = omega arith in z) all
      ∙ drop-append_seam w.former.saved gone

  -- and so are its runs
  pub own_runs : (w : Newest (view p)) → map run_of (drop (length (items p.runs) - e.runs) (items p.runs)) ≡ model.runs_of w.former.table w.last
  own_runs w =
      let more = model.runs_of w.former.table w.last in
      let all : runs_of p ≡ w.former.runs ++ more = ap (λ (z : Sheet A). z.runs) w.is in
      let n = ap (λ (z : model.Entry). z.runs_own) (its_entry w) in
      let f = ap length all in
      let g = length-append w.former.runs more in
      let l = runs_long p in
      sym (drop-map run_of (length (items p.runs) - e.runs) (items p.runs))
      ∙ ap₂ drop (let z : length (items p.runs) - e.runs ≡ length w.former.runs = omega arith in z) all
      ∙ drop-append_seam w.former.runs more

  -- so are its runs and itself; the table before it has its shape, and had the same room
  pub leaves : Leaves p e
  leaves = record {
    entries = let l = entries_long p in let f = ap length is in omega arith;
    runs = by_change e.runs (length (items p.runs)) (λ w.
        let t = w.former.table in
        let f : e.runs ≡ length (model.runs_of t w.last) = ap (λ (z : model.Entry). z.runs_own) (its_entry w) in
        let g = ap (λ (z : Sheet A). length z.runs) w.is in
        let h = length-append w.former.runs (model.runs_of t w.last) in
        let l = runs_long p in omega arith);
    saved = own_cells;
    rows = by_change e.rows 4096 (λ w. let f = ap (λ (z : model.Entry). z.rows_were) (its_entry w) in omega (arith, f, w.bounds.within.rows));
    columns = by_change e.columns 4096 (λ w. let f = ap (λ (z : model.Entry). z.columns_were) (its_entry w) in omega (arith, f, w.bounds.within.columns));
    cells = by_change (e.rows * e.columns) (length p.table.cells.now) (λ w.
        let f = ap (λ (z : model.Entry). z.rows_were * z.columns_were) (its_entry w) in
        let g = ap (λ (z : Sheet A). z.room.for_cells) w.is in omega (arith, f, g, w.bounds.within.cells));
  }

  module _ (q : Parts A) (w : TakesBack p q e) where
    back_view : take (q.table.rows * q.table.columns) q.table.cells.now ≡ (before (view p) (entry_of e) (below p)).table.cells → view q ≡ (step (view p) undo).0
    back_view cells =
        same_sheet (view q) (before (view p) (entry_of e) (below p)) w.rows w.columns cells
        (ap (λ zs. map entry_of (reverse zs)) w.entries.left)
        (ap (map run_of) w.runs.left ∙ sym (take-map run_of (length (items p.runs) - e.runs) (items p.runs)) ∙ ap (λ k. take (k - e.runs) (runs_of p)) (sym (runs_long p)))
        w.saved.left
        (same_room _ _ _ _ _ _ _ _ w.cells_long (ap length w.entries.stand) (ap length w.runs.stand) (ap length w.saved.stand))
        ∙ sym (ap (λ qs. (taken_back (view p) qs).0) is)

    -- undone, if the cells are again those of whatever sheet was there before
    undone : IsSet A
        → ((v : Newest (view p)) → take (v.former.table.rows * v.former.table.columns) q.table.cells.now ≡ v.former.table.cells)
        → Answers p q undo (Ok tt)
    undone aset f =
        let cells = by_newest (view p) (entry_of e) (below p) is held (is_set aset _ _) (λ v.
        let x = its_entry v in
        let er : q.table.rows ≡ v.former.table.rows = w.rows ∙ ap (λ (z : model.Entry). z.rows_were) x in
        let ec : q.table.columns ≡ v.former.table.columns = w.columns ∙ ap (λ (z : model.Entry). z.columns_were) x in
        ap (λ k. take k q.table.cells.now) (ap₂ ◌*◌ er ec) ∙ f v ∙ sym (ap (λ (z : Sheet A). z.table.cells) (newest_back (view p) (entry_of e) (below p) is v))) in
        let st = back_view cells in
        record {
          which = sym (ap (λ qs. (taken_back (view p) qs).1) is);
          state = st;
          same = λ k z. absurd (not_done k (sym z));
          held = still_reached (view p) (view q) undo st held;
        }

-- cells were moved, and then the entry leaves
module _ {A : Type 0} (p : Parts A) (t : Table A) (e : Entry) (held : Held p) (is : leaving.Newest p e) (long : length t.cells.now ≡ length p.table.cells.now) where
  abbrev moved : Parts A
  moved = record { table = t; entries = p.entries; runs = p.runs; saved = p.saved }

  pub moved_leaves : Leaves moved e
  moved_leaves =
      let w = leaves p e held is in
      record { entries = w.entries; runs = w.runs; saved = w.saved; rows = w.rows; columns = w.columns; cells = omega (arith, w.cells, long) }

  pub moved_undone : (q : Parts A) → TakesBack moved q e → IsSet A
      → ((v : Newest (view p)) → take (v.former.table.rows * v.former.table.columns) q.table.cells.now ≡ v.former.table.cells)
      → Answers p q undo (Ok tt)
  moved_undone q w =
      undone p e held is q (record {
        rows = w.rows;
        columns = w.columns;
        entries = w.entries;
        runs = w.runs;
        saved = w.saved;
        cells_long = w.cells_long ∙ long;
      })
