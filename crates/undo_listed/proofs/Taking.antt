-- The newest change, a listed removal, taken back.
use Rattle.std.proofs.Common.{◌≡◌, ℕ, ◌+◌, ◌-◌, ◌*◌, ◌≤◌, List, [], ◌∷◌, map, length, take, drop, sym, refl, ap, ◌∙◌, ap₂, subst, mul_comm, mul-one, one-mul, zero-mul, arith}
use native.Mathlib.Bridge.{le_prop}
use Rattle.std.specs.List.{sum_by}
use Rattle.std.proofs.Math.Seq.{take-length}
use Rattle.std.proofs.Math.Nat.{ℕ_set}
use Rattle.layout.specs.declared.side.Side.{Side}
use Rattle.layout.specs.declared.side.Side.TheVariants.{Rows, Columns}
use Rattle.moves.specs.Blocks.{cells_in, columns_with, lines_in, rows_with}
use Rattle.moves.specs.Stores.{items}
use Rattle.model.specs.Sheet.{listed, Change, insert_lines, remove_lines, remove_listed, swap_lines, fill_lines, resize_to, Table, changed}
use Rattle.model.specs.Journal as model
use Rattle.model.specs.Journal.{Sheet, lost_of, runs_from}
use Rattle.model.specs.Reached.{Newest}
use Rattle.model.proofs.Listed.{Numbers, goes}
use Rattle.model.proofs.Reaching.{by_newest}
use Rattle.journal.specs.declared.parts.Note.TheVariants.{ListedRemoval}
use Rattle.journal.specs.declared.parts.Run.{Run}
use Rattle.journal.specs.declared.parts.Entry.{Entry}
use Rattle.journal.specs.declared.parts.Parts.{Parts}
use Rattle.journal.specs.View.{entry_of, note_of, run_of, side_of, view}
use Rattle.journal.specs.Answering.{Held}
use Rattle.leaving.specs.Leaving as leaving
use Rattle.leaving.specs.Leaving.{below}
use Rattle.leaving.proofs.Undoing.{its_entry, own_lost, own_runs}
use Rattle.listed.specs.Runs.{Rising}
use Rattle.listed.specs.Cuts.{between, cut, lines_of_side, spared, taken_of}
use Rattle.listings.proofs.Cells.{cells_left, cells_lost}
use Rattle.listings.proofs.Working.{numbers, own_goes, own_rises}
use Rattle.undo_listed.proofs.Same.{same_groups}

-- a change that is noted as a listed removal is one
record Listed {A : Type 0} (side : Side) (ch : Change A) : Type 0 where
  list : List ℕ
  is : ch ≡ remove_listed (side_of side) list

was_listed : {A : Type 0} (side : Side) (ch : Change A) → note_of (ListedRemoval side) ≡ model.note_of ch → Listed side ch
was_listed side (insert_lines s a b v) h = absurd (let z : ◌≡◌ {A = ℕ} 0 1 = cc in omega arith)
was_listed side (remove_lines s a b) h = absurd (let z : ◌≡◌ {A = ℕ} 0 1 = cc in omega arith)
was_listed side (remove_listed s ks) h = record { list = ks; is = cc }
was_listed side (swap_lines s a b) h = absurd (let z : ◌≡◌ {A = ℕ} 0 1 = cc in omega arith)
was_listed side (fill_lines s a b vs v) h = absurd (let z : ◌≡◌ {A = ℕ} 0 1 = cc in omega arith)
was_listed side (resize_to a b v) h = absurd (let z : ◌≡◌ {A = ℕ} 0 1 = cc in omega arith)

rising_prop : (rs : List (ℕ × ℕ)) (a e : ℕ) → IsProp (Rising a rs e)
rising_prop [] a e = le_prop
rising_prop (r ∷ rs) a e = λ x y. λ i. (le_prop x.0 y.0 i, rising_prop rs (r.0 + r.1) e x.1 y.1 i)

-- the cells of a table, as its lines lie
whole : (side : Side) (R C : ℕ) → (lines_of_side side R C).groups * ((lines_of_side side R C).count * (lines_of_side side R C).width) ≡ R * C
whole Rows R C = ap (λ z. C * z) (mul-one R) ∙ mul_comm C R
whole Columns R C = one-mul (C * R) ∙ mul_comm C R

-- and those of one without so many lines of the side
fewer : (side : Side) (R C n : ℕ) → (lines_of_side side R C).groups * (((lines_of_side side R C).count - n) * (lines_of_side side R C).width)
    ≡ rows_with side (lines_in side R C - n) R * columns_with side (lines_in side R C - n) C
fewer Rows R C n = ap (λ z. C * z) (mul-one (R - n)) ∙ mul_comm C (R - n)
fewer Columns R C n = one-mul ((C - n) * R) ∙ mul_comm (C - n) R

lost_count : (side : Side) (R C n : ℕ) → (lines_of_side side R C).groups * (n * (lines_of_side side R C).width) ≡ cells_in side n R C
lost_count Rows R C n = ap (λ z. C * z) (mul-one n) ∙ mul_comm C n
lost_count Columns R C n = one-mul (n * R) ∙ mul_comm n R

counted : (side : Side) (R C : ℕ) → (lines_of_side side R C).count ≡ lines_in side R C
counted Rows R C = refl
counted Columns R C = refl

module _ {A : Type 0} (p : Parts A) (e : Entry) (held : Held p) (is : leaving.Newest p e) (side : Side) (noted : e.note ≡ ListedRemoval side)
    (runs : List Run) (mine : runs ≡ drop (length (items p.runs) - e.runs) (items p.runs))
    (src : List A) (own : src ≡ drop (length (items p.saved) - e.cells) (items p.saved)) where
  abbrev gone : ℕ
  gone = sum_by (λ (r : Run). r.length) runs

  module _ (w : Newest (view p)) where
    listed_is : Listed side w.last
    listed_is = was_listed side w.last (ap note_of (sym noted) ∙ ap (λ (z : model.Entry). z.note) (its_entry p e held is w))

    abbrev ks : List ℕ
    ks = (listed_is).list

    rows_as_before : e.rows ≡ w.former.table.rows
    rows_as_before = ap (λ (z : model.Entry). z.rows_were) (its_entry p e held is w)

    columns_as_before : e.columns ≡ w.former.table.columns
    columns_as_before = ap (λ (z : model.Entry). z.columns_were) (its_entry p e held is w)

    runs_are : map run_of runs ≡ runs_from (listed ks) 0 (lines_in side w.former.table.rows w.former.table.columns)
    runs_are =
        ap (map run_of) mine ∙ own_runs p e held is w ∙ ap (model.runs_of w.former.table) listed_is.is
        ∙ (numbers w.former.table ks side (goes ks (lines_in side w.former.table.rows w.former.table.columns)) w.bounds.within.right refl).runs

    gone_is : gone ≡ goes ks (lines_in side w.former.table.rows w.former.table.columns)
    gone_is = own_goes ks (lines_in side w.former.table.rows w.former.table.columns) runs runs_are

    its_numbers : Numbers w.former.table (remove_listed (side_of side) ks)
        (rows_with side (lines_in side w.former.table.rows w.former.table.columns - gone) w.former.table.rows)
        (columns_with side (lines_in side w.former.table.rows w.former.table.columns - gone) w.former.table.columns)
        (runs_from (listed ks) 0 (lines_in side w.former.table.rows w.former.table.columns)) (cells_in side gone w.former.table.rows w.former.table.columns)
    its_numbers = numbers w.former.table ks side gone w.bounds.within.right gone_is

    lost_is : src ≡ lost_of w.former.table (remove_listed (side_of side) ks)
    lost_is = own_lost p e held is src own w ∙ ap (lost_of w.former.table) listed_is.is

    table_is : (view p).table ≡ changed w.former.table (remove_listed (side_of side) ks)
    table_is = ap (λ (z : Sheet A). z.table) w.is ∙ ap (changed w.former.table) listed_is.is

    rises : Rising 0 (map run_of runs) (lines_in side e.rows e.columns)
    rises =
        subst (λ k. Rising 0 (map run_of runs) k) (sym (ap₂ (lines_in side) rows_as_before columns_as_before))
        (own_rises ks (lines_in side w.former.table.rows w.former.table.columns) runs runs_are)

    long : length src ≡ (lines_of_side side e.rows e.columns).groups * (gone * (lines_of_side side e.rows e.columns).width)
    long =
        ap length lost_is ∙ its_numbers.lost ∙ ap₂ (cells_in side gone) (sym rows_as_before) (sym columns_as_before)
        ∙ sym (lost_count side e.rows e.columns gone)

    former_lies : w.former.table.cells ≡ take (w.former.table.rows * w.former.table.columns) w.former.table.cells
    former_lies = sym (ap (λ k. take k w.former.table.cells) (sym w.bounds.within.right) ∙ take-length w.former.table.cells)

  pub runs_rise : Rising 0 (map run_of runs) (lines_in side e.rows e.columns)
  runs_rise = by_newest (view p) (entry_of e) (below p) is held (rising_prop (map run_of runs) 0 (lines_in side e.rows e.columns)) rises

  pub own_long : length src ≡ (lines_of_side side e.rows e.columns).groups * (gone * (lines_of_side side e.rows e.columns).width)
  own_long = by_newest (view p) (entry_of e) (below p) is held (ℕ_set _ _) long

  pub table_back : (zs : List A) → length zs ≡ length p.table.cells.now → e.rows * e.columns ≤ length p.table.cells.now
      → cut (lines_of_side side e.rows e.columns) zs runs ≡ src
      → spared (lines_of_side side e.rows e.columns) zs runs
      ≡ take ((lines_of_side side e.rows e.columns).groups * (((lines_of_side side e.rows e.columns).count - gone) * (lines_of_side side e.rows e.columns).width)) p.table.cells.now
      → (w : Newest (view p)) → take (w.former.table.rows * w.former.table.columns) zs ≡ w.former.table.cells
  table_back zs kept_long fits own_back left_back w =
      let t = w.former.table in
      let xs = t.cells in
      let ys = p.table.cells.now in
      let er = sym (rows_as_before w) in
      let ec = sym (columns_as_before w) in
      let lay = lines_of_side side t.rows t.columns in
      let size = lay.count * lay.width in
      let rs = map run_of runs in
      let all = whole side t.rows t.columns in
      let hown : cut lay zs runs ≡ src = ap₂ (λ y z. cut (lines_of_side side y z) zs runs) er ec ∙ own_back in
      let hleft : spared lay zs runs ≡ take (lay.groups * ((lay.count - gone) * lay.width)) ys =
      ap₂ (λ y z. spared (lines_of_side side y z) zs runs) er ec ∙ left_back
      ∙ ap₂ (λ y z. take ((lines_of_side side y z).groups * (((lines_of_side side y z).count - gone) * (lines_of_side side y z).width)) ys) (sym er) (sym ec) in
      let eown : taken_of lay.width size 0 lay.groups xs rs ≡ taken_of lay.width size 0 lay.groups zs rs =
      ap (taken_of lay.width size 0 lay.groups xs) (runs_are w) ∙ cells_lost t xs (former_lies w) (ks w) side ∙ sym (lost_is w) ∙ sym hown in
      let now_rows = ap (λ (z : Table A). z.rows) (table_is w) ∙ (its_numbers w).rows in
      let now_columns = ap (λ (z : Table A). z.columns) (table_is w) ∙ (its_numbers w).columns in
      let now = ap₂ ◌*◌ now_rows now_columns ∙ sym (fewer side t.rows t.columns gone) in
      let eleft : taken_of lay.width size 0 lay.groups xs (between 0 rs lay.count) ≡ taken_of lay.width size 0 lay.groups zs (between 0 rs lay.count) =
      ap (λ qs. taken_of lay.width size 0 lay.groups xs (between 0 qs lay.count)) (runs_are w) ∙ cells_left t xs (former_lies w) (ks w) side
      ∙ sym (ap (λ (z : Table A). z.cells) (table_is w)) ∙ ap (λ k. take k ys) now ∙ sym hleft in
      let rising : Rising 0 rs lay.count =
      subst (λ k. Rising 0 rs k) (sym (counted side t.rows t.columns)) (own_rises (ks w) (lines_in side t.rows t.columns) runs (runs_are w)) in
      let right = w.bounds.within.right in
      let shape = ap₂ ◌*◌ er ec in
      let same = same_groups lay.width lay.count rs rising xs zs lay.groups 0 (omega (arith, all, right)) (omega (arith, all, shape, kept_long, fits)) eown eleft in
      let none : (vs : List A) → take (lay.groups * size) (drop (0 * size) vs) ≡ take (t.rows * t.columns) vs =
      λ vs. ap₂ (λ j k. take j (drop k vs)) all (zero-mul size) in
      sym (none zs) ∙ sym same ∙ none xs ∙ sym (former_lies w)
