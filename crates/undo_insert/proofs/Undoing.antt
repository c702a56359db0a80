-- Lines put in and taken out again.
use Rattle.std.proofs.Common.{◌≡◌, ℕ, ◌+◌, ◌-◌, ◌*◌, ◌<◌, ◌≤◌, List, [], length, get_or, take, sym, refl, ap, ◌∙◌, subst, inl, inr, mul_comm, mul-le-mul_right, add-mul, arith}
use Rattle.std.proofs.lemmas.Bool.{cases_lt, leb-true}
use Rattle.moves.specs.Blocks.{block_of, lines_in, rows_block}
use Rattle.moves.specs.Tables.{Compressed}
use Rattle.moves.proofs.Flat.{compressed_before, compressed_behind}
use Rattle.moves.proofs.Places.{columns_lt}
use Rattle.model.specs.Sheet as sheet
use Rattle.model.specs.Sheet.{new, insert, origins, named, on, row, column, Change, edit, rows_of, columns_of}
use Rattle.model.specs.Journal as model
use Rattle.model.specs.Journal.{recalled}
use Rattle.model.specs.Sentences.{lines}
use Rattle.model.specs.Reached.{Newest}
use Rattle.model.proofs.Lines.{keep_length, insert_length, insert_upper, insert_lower}
use Rattle.model.proofs.Reaching.{newest_named}
use Rattle.layout.specs.declared.side.Side.{Side}
use Rattle.layout.specs.declared.side.Side.TheVariants.{Rows, Columns}
use Rattle.journal.specs.declared.parts.Note.{Note}
use Rattle.journal.specs.declared.parts.Entry.{Entry}
use Rattle.journal.specs.declared.parts.Parts.{Parts}
use Rattle.journal.specs.View.{view, note_of, side_of}
use Rattle.journal.specs.Answering.{Held}
use Rattle.leaving.specs.Leaving as leaving
use Rattle.leaving.proofs.Undoing.{its_entry, by_change}
use Rattle.undo_insert.specs.Putting.{Puts}
use Rattle.undo_insert.proofs.Former.{Unlisted, told, side_named, Comes, kept, rows_now, columns_now, former_back}

-- the change of such an entry put the lines into its side and kept the other
puts_edit : {A : Type 0} (note : Note) (side : Side) (i n : ℕ) (ch : Change A) → Puts note side i n → note_of note ≡ model.note_of ch
    → (s : sheet.Side) → edit s ch ≡ on s (side_of side) (insert i n)
puts_edit note side i n ch (inl h) e s =
    let f : model.insertion (side_of side) i n ≡ model.note_of ch = ap note_of (sym h) ∙ e in
    sym (told s ch (subst Unlisted f tt)) ∙ ap (λ z. recalled s z []) (sym f)
puts_edit note side i n ch (inr h) e s =
    let f : model.gap (side_of side) i n ≡ model.note_of ch = ap note_of (sym h) ∙ e in
    sym (told s ch (subst Unlisted f tt)) ∙ ap (λ z. recalled s z []) (sym f)

-- where an old line stands after the insertion
module _ (i n m k : ℕ) (there : i ≤ m) where
  above : k < i → Comes (origins (insert i n) m) k k
  above h = let l = insert_length i n m there in record { there = omega arith; is = insert_upper i n m there k (new 0) h }

  behind : i ≤ k → k < m → Comes (origins (insert i n) m) (k + n) k
  behind h b = let l = insert_length i n m there in record { there = omega arith; is = insert_lower i n m there k (new 0) h b }

module _ {A : Type 0} (p : Parts A) (e : Entry) (held : Held p) (is : leaving.Newest p e) where
  module _ (side : Side) (i n : ℕ) (puts : Puts e.note side i n) (w : Newest (view p)) where
    its_edit : (s : sheet.Side) → edit s w.last ≡ on s (side_of side) (insert i n)
    its_edit = puts_edit e.note side i n w.last puts (ap (λ (z : model.Entry). z.note) (its_entry p e held is w))

    row_origins : origins (on row (side_of side) (insert i n)) w.former.table.rows ≡ rows_of w.former.table w.last
    row_origins = ap (λ z. origins z w.former.table.rows) (sym (its_edit row))

    column_origins : origins (on column (side_of side) (insert i n)) w.former.table.columns ≡ columns_of w.former.table w.last
    column_origins = ap (λ z. origins z w.former.table.columns) (sym (its_edit column))

    there_before : (s : sheet.Side) → on s (side_of side) (insert i n) ≡ insert i n → i ≤ lines s w.former.table
    there_before s f =
        leb-true i (lines s w.former.table)
        (ap (λ z. named z (lines s w.former.table)) (sym f ∙ sym (its_edit s)) ∙ side_named s w.former.table w.last (newest_named (view p) w))

  module _ (i n : ℕ) (puts : Puts e.note Rows i n) where
    more_rows : (w : Newest (view p)) → p.table.rows ≡ w.former.table.rows + n
    more_rows w = rows_now p w ∙ ap length (sym (row_origins Rows i n puts w)) ∙ insert_length i n w.former.table.rows (there_before Rows i n puts w row refl)

    rows_there : i + n ≤ p.table.rows
    rows_there = by_change p e held is (i + n) p.table.rows (λ w.
        let a = there_before Rows i n puts w row refl in
        let b = more_rows w in omega arith)

    rows_back : (zs : List A) → Compressed p.table.cells.now zs (rows_block p.table.rows p.table.columns i n) → (w : Newest (view p))
        → take (w.former.table.rows * w.former.table.columns) zs ≡ w.former.table.cells
    rows_back zs h w =
        let t = w.former.table in
        let there : i ≤ t.rows = there_before Rows i n puts w row refl in
        let os = row_origins Rows i n puts w in
        let ps = column_origins Rows i n puts w in
        let em = more_rows w in
        let en : p.table.columns ≡ t.columns = columns_now p w ∙ ap length (sym ps) ∙ keep_length t.columns in
        let less : t.rows ≡ p.table.rows - n = omega arith in
        former_back p w zs h.long (λ r c a b.
        let c2 : c < p.table.columns = omega arith in
        let on_column : Comes (columns_of t w.last) c c = subst (λ z. Comes z c c) ps (kept t.columns c b) in
        elim (cases_lt r i) [
          | inl l ↦ record {
            k = r;
            l = c;
            on_row = subst (λ z. Comes z r r) os (above i n t.rows r there l);
            on_column = on_column;
            same = λ d. ap (λ m. get_or zs (r + c * m) d) less ∙ h.upper r c d l c2;
          }
          | inr l ↦ record {
            k = r + n;
            l = c;
            on_row = subst (λ z. Comes z (r + n) r) os (behind i n t.rows r there l a);
            on_column = on_column;
            same = λ d. ap (λ m. get_or zs (r + c * m) d) less ∙ h.lower r c d l (omega arith) c2;
          }
        ])

  module _ (i n : ℕ) (puts : Puts e.note Columns i n) where
    more_columns : (w : Newest (view p)) → p.table.columns ≡ w.former.table.columns + n
    more_columns w = columns_now p w ∙ ap length (sym (column_origins Columns i n puts w)) ∙ insert_length i n w.former.table.columns (there_before Columns i n puts w column refl)

    columns_there : i + n ≤ p.table.columns
    columns_there = by_change p e held is (i + n) p.table.columns (λ w.
        let a = there_before Columns i n puts w column refl in
        let b = more_columns w in omega arith)

    columns_back : (zs : List A) → Compressed p.table.cells.now zs (block_of Columns p.table.rows p.table.columns i n) → (w : Newest (view p))
        → take (w.former.table.rows * w.former.table.columns) zs ≡ w.former.table.cells
    columns_back zs h w =
        let t = w.former.table in
        let ys = p.table.cells.now in
        let m = p.table.rows in
        let there : i ≤ t.columns = there_before Columns i n puts w column refl in
        let os = row_origins Columns i n puts w in
        let ps = column_origins Columns i n puts w in
        let em : m ≡ t.rows = rows_now p w ∙ ap length (sym os) ∙ keep_length t.rows in
        let en = more_columns w in
        former_back p w zs h.long (λ r c a b.
        let on_row : Comes (rows_of t w.last) r r = subst (λ z. Comes z r r) os (kept t.rows r a) in
        elim (cases_lt c i) [
          | inl l ↦
              let before = columns_lt c i m l in
              record {
                k = r;
                l = c;
                on_row = on_row;
                on_column = subst (λ z. Comes z c c) ps (above i n t.columns c there l);
                same = λ d. ap (λ z. get_or zs (r + c * z) d) (sym em) ∙ compressed_before ys zs m p.table.columns i n h (r + c * m) d (omega arith);
              }
          | inr l ↦
              let e1 : (c + n) * m ≡ c * m + n * m = add-mul c n m in
              let starts = mul-le-mul_right m l in
              let ends = columns_lt (c + n) p.table.columns m (omega arith) in
              record {
                k = r;
                l = c + n;
                on_row = on_row;
                on_column = subst (λ z. Comes z (c + n) c) ps (behind i n t.columns c there l b);
                same = λ d.
                    ap (λ z. get_or zs (r + c * z) d) (sym em)
                    ∙ compressed_behind ys zs m p.table.columns i n h (r + c * m) d (omega arith) (omega (arith, mul_comm m p.table.columns))
                    ∙ ap (λ z. get_or ys z d) (let z : r + c * m + n * m ≡ r + (c + n) * m = omega arith in z);
              }
        ])

  -- on either side
  module _ (i n : ℕ) where
    pub lines_there : (s : Side) → Puts e.note s i n → i + n ≤ lines_in s p.table.rows p.table.columns
    lines_there Rows puts = rows_there i n puts
    lines_there Columns puts = columns_there i n puts

    pub lines_back : (s : Side) → Puts e.note s i n → (zs : List A) → Compressed p.table.cells.now zs (block_of s p.table.rows p.table.columns i n)
        → (w : Newest (view p)) → take (w.former.table.rows * w.former.table.columns) zs ≡ w.former.table.cells
    lines_back Rows puts = rows_back i n puts
    lines_back Columns puts = columns_back i n puts
