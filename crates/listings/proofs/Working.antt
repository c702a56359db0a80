-- Runs found and lines taken out, put together to the change that the model has.
use Rattle.std.proofs.Common.{◌≡◌, ℕ, Ok, Err, ◌+◌, ◌-◌, ◌*◌, ◌<◌, ◌≤◌, true, List, [], ◌++◌, map, length, take, sym, refl, ap, ◌∙◌, subst, ap₂, sum_by, arith}
use mathlib.Core.List.{map-append}
use Rattle.std.proofs.lemmas.Bool.{le-ltb, lt-ltb}
use Rattle.std.proofs.lemmas.List.{length-map}
use Rattle.layout.specs.declared.refusal.Refusal.{Refusal}
use Rattle.layout.specs.Refusals.{number_of}
use Rattle.layout.specs.declared.side.Side.{Side}
use Rattle.layout.specs.declared.side.Side.TheVariants.{Rows, Columns}
use Rattle.moves.specs.declared.vec_storage.Table as moves
use Rattle.moves.specs.Blocks.{cells_in, cells_of, columns_with, count_of, lines_in, rows_with}
use Rattle.moves.specs.Stores.{items}
use Rattle.model.specs.Sheet.{listed, remove_listed, Table, changed}
use Rattle.model.specs.Journal.{Answer, Right, change, done, first_no, refused, has_column, lines_of, runs_from, lost_of}
use Rattle.model.proofs.Undo.{right_changed}
use Rattle.model.proofs.Listed.{counted, Numbers, goes, goes_few, rows_listed, columns_listed}
use Rattle.journal.specs.declared.parts.Note.TheVariants.{ListedRemoval}
use Rattle.journal.specs.declared.parts.Run.{Run}
use Rattle.journal.specs.declared.parts.Parts.{Parts}
use Rattle.journal.specs.View.{run_of, runs_of, saved_of, side_of, table_of}
use Rattle.journal.specs.Entering.{entry_for}
use Rattle.journal.specs.Answering.{Answers, Held, Performed}
use Rattle.journal.specs.Asking.{rooms_with}
use Rattle.journal.proofs.Asking.{asked_with}
use Rattle.journal.proofs.Answering.{accepted, entered, right, same_room}
use Rattle.listed.specs.Runs.{Rising}
use Rattle.listed.specs.Cuts.{between, cut, lying, spared, taken_of}
use Rattle.listed.proofs.Walks.{lines_summed, runs_rising}
use Rattle.listings.specs.Cut.{Cut, Own}
use Rattle.listings.proofs.Questions.{columnless, stopped_early}
use Rattle.listings.proofs.Cells.{cells_left, cells_lost}

-- the change in numbers, with the lines that were counted
pub numbers : {A : Type 0} (t : Table A) (ks : List ℕ) (s : Side) (gone : ℕ) → Right t → gone ≡ goes ks (lines_in s t.rows t.columns)
    → Numbers t (remove_listed (side_of s) ks) (rows_with s (lines_in s t.rows t.columns - gone) t.rows) (columns_with s (lines_in s t.rows t.columns - gone) t.columns)
    (runs_from (listed ks) 0 (lines_in s t.rows t.columns)) (cells_in s gone t.rows t.columns)
numbers t ks s gone right e =
    subst
    (λ k. Numbers t (remove_listed (side_of s) ks) (rows_with s (lines_in s t.rows t.columns - k) t.rows) (columns_with s (lines_in s t.rows t.columns - k) t.columns)
    (runs_from (listed ks) 0 (lines_in s t.rows t.columns)) (cells_in s k t.rows t.columns))
    (sym e) (go s)
  where
    go : (s : Side) → Numbers t (remove_listed (side_of s) ks)
        (rows_with s (lines_in s t.rows t.columns - goes ks (lines_in s t.rows t.columns)) t.rows) (columns_with s (lines_in s t.rows t.columns - goes ks (lines_in s t.rows t.columns)) t.columns)
        (runs_from (listed ks) 0 (lines_in s t.rows t.columns)) (cells_in s (goes ks (lines_in s t.rows t.columns)) t.rows t.columns)
    go Rows = rows_listed t ks right
    go Columns = let h = columns_listed t ks right in record { named = h.named; rows = h.rows; columns = h.columns; runs = h.runs; lost = h.lost }

pub lines_few : {A : Type 0} (t : moves.Table A) (s : Side) → count_of t s ≤ 4096
lines_few t Rows = t.few_rows
lines_few t Columns = t.few_columns

-- question 9: rows leave only where a column is there
some_column : {A : Type 0} (t : Table A) (ks : List ℕ) (s : Side) → (s ≡ Rows → 0 < t.columns) → has_column t (remove_listed (side_of s) ks) ≡ true
some_column t ks Rows h = lt-ltb 0 t.columns (h refl)
some_column t ks Columns h = refl

-- the runs as they are handed on
pub found_own : (ks : List ℕ) (k m : ℕ) (was is own : List Run) → was ≡ [] → k ≡ m → map run_of is ≡ map run_of was ++ runs_from (listed ks) 0 k → own ≡ is
    → map run_of own ≡ runs_from (listed ks) 0 m
found_own ks k m was is own none e found same =
    ap (map run_of) same ∙ found ∙ ap (λ zs. map run_of zs ++ runs_from (listed ks) 0 k) none ∙ ap (runs_from (listed ks) 0) e

module _ (ks : List ℕ) (m : ℕ) (own : List Run) (e : map run_of own ≡ runs_from (listed ks) 0 m) where
  own_many : length own ≡ length (runs_from (listed ks) 0 m)
  own_many = sym (length-map own run_of) ∙ ap length e

  pub own_goes : sum_by (λ (r : Run). r.length) own ≡ goes ks m
  own_goes = sym (lines_summed own) ∙ ap (λ zs. length (lines_of zs)) e

  pub own_few : sum_by (λ (r : Run). r.length) own ≤ m
  own_few = omega (arith, own_goes, goes_few ks m)

  pub own_rises : Rising 0 (map run_of own) m
  own_rises = subst (λ zs. Rising 0 zs m) (sym e) (subst (λ k. Rising 0 (runs_from (listed ks) 0 m) k) (let f : 0 + m ≡ m = omega arith in f) (runs_rising (listed ks) m 0))

-- what is handed on is what was found
pub found_lines : (ks : List ℕ) (m gone : ℕ) (own is : List Run) → own ≡ is → map run_of is ≡ runs_from (listed ks) 0 m → gone ≡ sum_by (λ (r : Run). r.length) is
    → (map run_of own ≡ runs_from (listed ks) 0 m) × (gone ≡ goes ks m)
found_lines ks m gone own is same found counted =
    let e = ap (map run_of) same ∙ found in
    (e, counted ∙ ap (sum_by (λ (r : Run). r.length)) (sym same) ∙ own_goes ks m own e)

module _ {A : Type 0} (p : Parts A) (s : Side) (ks : List ℕ) (own : List Run) (e : map run_of own ≡ runs_from (listed ks) 0 (count_of p.table s)) where
  own_lost : cut (lying s p.table) p.table.cells.now own ≡ lost_of (table_of p) (remove_listed (side_of s) ks)
  own_lost =
      let w = lying s p.table in
      ap (taken_of w.width (w.count * w.width) 0 w.groups p.table.cells.now) e ∙ cells_lost (table_of p) p.table.cells.now refl ks s

  own_left : spared (lying s p.table) p.table.cells.now own ≡ (changed (table_of p) (remove_listed (side_of s) ks)).cells
  own_left =
      let w = lying s p.table in
      ap (λ zs. taken_of w.width (w.count * w.width) 0 w.groups p.table.cells.now (between 0 zs w.count)) e ∙ cells_left (table_of p) p.table.cells.now refl ks s

  module _ (gone : ℕ) (f : gone ≡ goes ks (count_of p.table s)) where
    pub own_runs : Own p s own gone
    own_runs = record {
      rising = own_rises ks (count_of p.table s) own e;
      there = omega (arith, goes_few ks (count_of p.table s));
      counted = sym (ap length own_lost ∙ (numbers (table_of p) ks s gone (right p) f).lost);
    }

    -- lines taken out
    performed_cut : (q : Parts A) → Cut p q s own gone
        → Performed p q (remove_listed (side_of s) ks) (rows_with s (count_of p.table s - gone) p.table.rows) (columns_with s (count_of p.table s - gone) p.table.columns)
        (runs_from (listed ks) 0 (count_of p.table s)) (cells_of p.table s gone)
    performed_cut q c =
        let ch = remove_listed (side_of s) ks in
        let k = numbers (table_of p) ks s gone (right p) f in
        let m = rows_with s (count_of p.table s - gone) p.table.rows in
        let n = columns_with s (count_of p.table s - gone) p.table.columns in
        let long : length (changed (table_of p) ch).cells ≡ m * n = right_changed (table_of p) ch (right p) k.named ∙ ap₂ ◌*◌ k.rows k.columns in
        let whole : m * n ≡ 0 + length (spared (lying s p.table) p.table.cells.now own) = (let z = ap length own_left in omega arith) in
        record {
          note = ListedRemoval s;
          noted = refl;
          rows = c.shape.0;
          columns = c.shape.1;
          cells = ap (λ k. take k q.table.cells.now) whole ∙ c.cells.put ∙ own_left;
          saved = c.saved.more ∙ ap (λ zs. saved_of p ++ zs) own_lost;
          runs = ap (map run_of) c.runs.more ∙ map-append run_of (items p.runs) own ∙ ap (λ zs. runs_of p ++ zs) e;
          entries = entered p _ _ _ (ap (λ k. entry_for p (ListedRemoval s) k (cells_of p.table s gone)) (own_many ks (count_of p.table s) own e)) c.entries;
          room = same_room _ _ _ _ _ _ _ _ c.cells.long c.entries.kept.room c.runs.kept.room c.saved.kept.room;
        }

    -- the answers, from the questions asked of numbers that come to the same
    module _ (k l : ℕ) (ek : k ≡ count_of p.table s - gone) (el : l ≡ cells_of p.table s gone) (h : Held p) where
      asked : (a : Answer) → a ≡ first_no (rooms_with p s k (length own) l)
          → a ≡ first_no (rooms_with p s (count_of p.table s - gone) (length (runs_from (listed ks) 0 (count_of p.table s))) (cells_of p.table s gone))
      asked a = asked_with p s a k (length own) l _ _ _ ek (own_many ks (count_of p.table s) own e) el

      pub stopped : (x : Refusal) → refused (number_of x) ≡ first_no (rooms_with p s k (length own) l) → Answers p p (change (remove_listed (side_of s) ks)) (Err x)
      stopped x w = stopped_early p (remove_listed (side_of s) ks) _ _ _ _ (numbers (table_of p) ks s gone (right p) f) h x (asked (refused (number_of x)) w)

      pub no_column : done ≡ first_no (rooms_with p s k (length own) l) → s ≡ Rows → p.table.columns ≡ 0 → Answers p p (change (remove_listed (side_of s) ks)) (Err Refusal.NoColumn)
      no_column w rows none =
          columnless p (remove_listed (side_of s) ks) _ _ _ _ (numbers (table_of p) ks s gone (right p) f) h (asked done w)
          (ap (λ z. has_column (table_of p) (remove_listed (side_of z) ks)) rows ∙ le-ltb 0 p.table.columns (omega arith))

      pub carried_out : (q : Parts A) → done ≡ first_no (rooms_with p s k (length own) l) → (s ≡ Rows → 0 < p.table.columns) → Cut p q s own gone
          → Answers p q (change (remove_listed (side_of s) ks)) (Ok tt)
      carried_out q w there c =
          accepted p q (remove_listed (side_of s) ks) _ _ _ _ (counted _ _ _ _ _ _ (numbers (table_of p) ks s gone (right p) f) (some_column (table_of p) ks s there)) (performed_cut q c) h (asked done w)
