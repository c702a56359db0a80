-- The sentences hold of the one definition of a changed table.
use Rattle.std.proofs.Common.{◌≡◌, ℕ, zero, suc, ◌+◌, ◌-◌, ◌<◌, ◌≤◌, Bool, true, false, cond, ◌&&◌, eqb, ltb, List, [], ◌∷◌, length, get_or, sym, refl, ap, ◌∙◌, subst, ap₂, inl, inr, append-nil, arith}
use Rattle.std.proofs.lemmas.List.{get_or-map, length-map}
use Rattle.std.proofs.lemmas.Bool.{cases_eq, cases_lt, cond-false, cond-true, eq-eqb, le-ltb, lt-ltb, ne_eqb}
use Rattle.model.specs.Sheet.{Origin, old, new, keep, insert, resize, swap, listed, origins, others, row, column, Change, insert_lines, remove_lines, remove_listed, swap_lines, fill_lines, resize_to, Table, cell_at, cell_of, rows_of, columns_of, changed}
use Rattle.model.specs.Journal.{Right, begun, lines_of, named_in, places, runs_from, runs_of, stays, survives}
use Rattle.model.specs.Sentences.{at, Inserts, Inserting, counted, Gapping, Removing, staying, Spaced, RemovingListed, Exchanging, Resizing}
use Rattle.model.proofs.Edits.{lines_runs}
use Rattle.model.proofs.Grids.{all_places}
use Rattle.model.proofs.Joins.{joined_same}
use Rattle.model.proofs.Regions.{lost_columns, lost_rows}
use Rattle.model.proofs.Resized.{resize_goes, resize_new, resize_old, resize_stays, resized}
use Rattle.model.proofs.Undo.{changed_at}
use Rattle.model.proofs.Lines.{keep_at, keep_length, insert_length, insert_upper, insert_new, insert_lower, insert_stays, keep_stays, others_stays, remove_upper, remove_lower}
use Rattle.model.proofs.Counting.{columns_inserted, columns_removed, columns_removed_lost, none_lost, rows_inserted, rows_removed, rows_removed_lost}
use Rattle.model.proofs.Exchanges.{columns_exchanged, columns_exchanged_lost, rows_exchanged, rows_exchanged_lost, swap_at, swapped_first, swapped_other, swapped_second}

-- a cell of the changed table by what its row and its column come from
module _ {A : Type 0} (t : Table A) (ch : Change A) (m n : ℕ) (right : Right t) (there : named_in t ch ≡ true)
    (rows : length (rows_of t ch) ≡ m) (columns : length (columns_of t ch) ≡ n) where
  pub comes : (r c : ℕ) (o p : Origin) → r < m → c < n → get_or (rows_of t ch) r (new 0) ≡ o → get_or (columns_of t ch) c (new 0) ≡ p
      → at row (changed t ch) r c ≡ cell_of t ch o p
  comes r c o p a b er ec = changed_at t ch right there r c (new 0) (new 0) (omega (arith, rows)) (omega (arith, columns)) ∙ ap₂ (cell_of t ch) er ec

-- lines that come in, by a plain insertion or by a gap
module _ {A : Type 0} (t : Table A) (ch : Change A) (right : Right t) (there : named_in t ch ≡ true) (none : runs_of t ch ≡ []) (i n : ℕ) (cell : ℕ → ℕ → A) where
  rows_come : i ≤ t.rows → rows_of t ch ≡ origins (insert i n) t.rows → columns_of t ch ≡ origins keep t.columns
      → ((k l : ℕ) → cell_of t ch (new k) (old l) ≡ cell k l ∷ []) → Inserts row t i n cell ch
  rows_come h er ec value =
      let m = ap length er ∙ insert_length i n t.rows h in
      let w = ap length ec ∙ keep_length t.columns in
      let here = comes t ch (t.rows + n) t.columns right there m w in
      let row_is = λ (r : ℕ). ap (λ os. get_or os r (new 0)) er in
      let column_is = λ (c : ℕ) (b : c < t.columns). ap (λ os. get_or os c (new 0)) ec ∙ keep_at t.columns c (new 0) b in
      record {
        more = m;
        same = w;
        before = λ r c a b. here r c (old r) (old c) (omega arith) b (row_is r ∙ insert_upper i n t.rows h r (new 0) a) (column_is c b);
        put = λ r c a b. here (i + r) c (new r) (old c) (omega arith) b (row_is (i + r) ∙ insert_new i n t.rows h r (new 0) a) (column_is c b) ∙ value r c;
        behind = λ r c a b k. here (r + n) c (old r) (old c) (omega arith) k (row_is (r + n) ∙ insert_lower i n t.rows h r (new 0) a b) (column_is c k);
        saved = none_lost t ch
            (λ r k. ap (survives r) er ∙ insert_stays i n t.rows r h k) (λ c k. ap (survives c) ec ∙ keep_stays t.columns c k);
        runs = none;
      }

  columns_come : i ≤ t.columns → rows_of t ch ≡ origins keep t.rows → columns_of t ch ≡ origins (insert i n) t.columns
      → ((k l : ℕ) → cell_of t ch (old l) (new k) ≡ cell k l ∷ []) → Inserts column t i n cell ch
  columns_come h er ec value =
      let m = ap length er ∙ keep_length t.rows in
      let w = ap length ec ∙ insert_length i n t.columns h in
      let here = comes t ch t.rows (t.columns + n) right there m w in
      let row_is = λ (r : ℕ) (b : r < t.rows). ap (λ os. get_or os r (new 0)) er ∙ keep_at t.rows r (new 0) b in
      let column_is = λ (c : ℕ). ap (λ os. get_or os c (new 0)) ec in
      record {
        more = w;
        same = m;
        before = λ c r a b. here r c (old r) (old c) b (omega arith) (row_is r b) (column_is c ∙ insert_upper i n t.columns h c (new 0) a);
        put = λ c r a b. here r (i + c) (old r) (new c) b (omega arith) (row_is r b) (column_is (i + c) ∙ insert_new i n t.columns h c (new 0) a) ∙ value c r;
        behind = λ c r a b k. here r (c + n) (old r) (old c) k (omega arith) (row_is r k) (column_is (c + n) ∙ insert_lower i n t.columns h c (new 0) a b);
        saved = none_lost t ch
            (λ r k. ap (survives r) er ∙ keep_stays t.rows r k) (λ c k. ap (survives c) ec ∙ insert_stays i n t.columns c h k);
        runs = none;
      }

pub inserting : {A : Type 0} → Inserting A
inserting row t i n v right h =
    rows_come t (insert_lines row i n v) right (rows_inserted t i n v h).named refl i n (λ k l. v) h refl refl (λ k l. refl)
inserting column t i n v right h =
    columns_come t (insert_lines column i n v) right (columns_inserted t i n v h).named refl i n (λ k l. v) h refl refl (λ k l. refl)

pub gapping : {A : Type 0} → Gapping A
gapping row t i n vs v right h =
    rows_come t (fill_lines row i n vs v) right (rows_inserted t i n v h).named refl i n (λ k l. get_or vs (counted row t n k l) v) h refl refl (λ k l. refl)
gapping column t i n vs v right h =
    columns_come t (fill_lines column i n vs v) right (columns_inserted t i n v h).named refl i n (λ k l. get_or vs (counted column t n k l) v) h refl refl (λ k l. refl)

pub removing : {A : Type 0} → Removing A
removing row t i n right there =
    let k = rows_removed t right i n there in
    let here = comes t (remove_lines row i n) (t.rows - n) t.columns right k.named k.rows k.columns in
    record {
      fewer = k.rows;
      same = k.columns;
      before = λ r c a b. here r c (old r) (old c) (omega arith) b (remove_upper i n t.rows there r (new 0) a) (keep_at t.columns c (new 0) b);
      behind = λ r c a b h. here r c (old (r + n)) (old c) b h (remove_lower i n t.rows there r (new 0) a b) (keep_at t.columns c (new 0) h);
      saved = rows_removed_lost t right i n there;
      runs = k.runs;
    }
removing column t i n right there =
    let k = columns_removed t right i n there in
    let here = comes t (remove_lines column i n) t.rows (t.columns - n) right k.named k.rows k.columns in
    record {
      fewer = k.columns;
      same = k.rows;
      before = λ c r a b. here r c (old r) (old c) b (omega arith) (keep_at t.rows r (new 0) b) (remove_upper i n t.columns there c (new 0) a);
      behind = λ c r a b h. here r c (old r) (old (c + n)) h b (keep_at t.rows r (new 0) h) (remove_lower i n t.columns there c (new 0) a b);
      saved = columns_removed_lost t right i n there;
      runs = k.runs;
    }

second_is : (i j m : ℕ) → j < m → get_or (origins (swap i j) m) j (new 0) ≡ old i
second_is i j m h = elim (cases_eq j i) [
  | inl e ↦ swap_at i j m j (new 0) h ∙ ap old (swapped_first i j j e ∙ e)
  | inr n ↦ swap_at i j m j (new 0) h ∙ ap old (swapped_second i j j n refl)
]

pub exchanging : {A : Type 0} → Exchanging A
exchanging row t i j right hi hj =
    let k = rows_exchanged t i j hi hj in
    let m = t.rows in
    let here = comes t (swap_lines row i j) m t.columns right k.named k.rows k.columns in
    record {
      as_many = k.rows;
      same = k.columns;
      first = λ c b. here i c (old j) (old c) hi b (swap_at i j m i (new 0) hi ∙ ap old (swapped_first i j i refl)) (keep_at t.columns c (new 0) b);
      second = λ c b. here j c (old i) (old c) hj b (second_is i j m hj) (keep_at t.columns c (new 0) b);
      others = λ r c a p q b. here r c (old r) (old c) a b (swap_at i j m r (new 0) a ∙ ap old (swapped_other i j r p q)) (keep_at t.columns c (new 0) b);
      saved = rows_exchanged_lost t i j hi hj;
      runs = k.runs;
    }
exchanging column t i j right hi hj =
    let k = columns_exchanged t i j hi hj in
    let m = t.columns in
    let here = comes t (swap_lines column i j) t.rows m right k.named k.rows k.columns in
    record {
      as_many = k.columns;
      same = k.rows;
      first = λ r b. here r i (old r) (old j) b hi (keep_at t.rows r (new 0) b) (swap_at i j m i (new 0) hi ∙ ap old (swapped_first i j i refl));
      second = λ r b. here r j (old r) (old i) b hj (keep_at t.rows r (new 0) b) (second_is i j m hj);
      others = λ c r a p q b. here r c (old r) (old c) b a (keep_at t.rows r (new 0) b) (swap_at i j m c (new 0) a ∙ ap old (swapped_other i j c p q));
      saved = columns_exchanged_lost t i j hi hj;
      runs = k.runs;
    }

-- a line stays if the new count reaches it
resize_tells : (n m k : ℕ) → k < m → survives k (origins (resize n) m) ≡ ltb k n
resize_tells n m k h = elim (cases_lt k n) [
  | inl l ↦ resize_stays n m k l h ∙ sym (lt-ltb k n l)
  | inr l ↦ resize_goes n m k l ∙ sym (le-ltb k n l)
]

-- a cell on a new row, whatever its column comes from
new_row : {A : Type 0} (t : Table A) (m n : ℕ) (v : A) (j : ℕ) (p : Origin) → cell_of t (resize_to m n v) (new j) p ≡ v ∷ []
new_row t m n v j (old l) = refl
new_row t m n v j (new l) = refl

new_column : {A : Type 0} (t : Table A) (m n : ℕ) (v : A) (o : Origin) (j : ℕ) → cell_of t (resize_to m n v) o (new j) ≡ v ∷ []
new_column t m n v (old k) j = refl
new_column t m n v (new k) j = refl

pub resizing : {A : Type 0} → Resizing A
resizing {A} t m n v right =
    let ch : Change A = resize_to m n v in
    let k = resized t m n v right in
    let here = comes t ch m n right k.named k.rows k.columns in
    record {
      rows = k.rows;
      columns = k.columns;
      stays = λ r c a b h l. here r c (old r) (old c) a b (resize_old m t.rows r (new 0) a h) (resize_old n t.columns c (new 0) b l);
      below = λ r c a b h.
          here r c (new (r - t.rows)) (get_or (columns_of t ch) c (new 0)) a b (resize_new m t.rows r (new 0) a h) refl
          ∙ new_row t m n v (r - t.rows) (get_or (columns_of t ch) c (new 0));
      beside = λ r c a b h.
          here r c (get_or (rows_of t ch) r (new 0)) (new (c - t.columns)) a b refl (resize_new n t.columns c (new 0) b h)
          ∙ new_column t m n v (get_or (rows_of t ch) r (new 0)) (c - t.columns);
      saved =
          joined_same (λ (q : ℕ × ℕ). cond (stays (rows_of t ch) (columns_of t ch) q) [] (cell_at t q.0 q.1))
          (λ (q : ℕ × ℕ). cond (ltb q.0 m && ltb q.1 n) [] (cell_at t q.0 q.1)) (places t.rows t.columns)
          (all_places _ t.rows t.columns (λ r c a b.
          ap (λ z. cond z [] (cell_at t r c)) (ap₂ ◌&&◌ (resize_tells m t.rows r a) (resize_tells n t.columns c b))));
      runs = k.runs;
    }

-- the runs that are found begin at a or later, and a line parts each from the next
abbrev Begins : ℕ → List (ℕ × ℕ) → Type 0
Begins a [] = Unit {0}
Begins a (r ∷ rs) = a ≤ r.0

begun_spaced : (a : ℕ) (rs : List (ℕ × ℕ)) → Spaced rs → Begins (a + 1) rs → Spaced (begun a rs) × Begins a (begun a rs)
begun_spaced a [] s b = (omega arith, omega arith)
begun_spaced a (r ∷ []) s b = elim (cases_eq r.0 (suc a)) [
  | inl e ↦ subst (λ z. Spaced z × Begins a z) (sym (cond-true (eqb r.0 (suc a)) ((a, suc r.1) ∷ []) ((a, 1) ∷ r ∷ []) (eq-eqb r.0 (suc a) e))) (omega arith, omega arith)
  | inr n ↦ subst (λ z. Spaced z × Begins a z) (sym (cond-false (eqb r.0 (suc a)) ((a, suc r.1) ∷ []) ((a, 1) ∷ r ∷ []) (ne_eqb r.0 (suc a) n))) ((omega arith, omega arith, s), omega arith)
]
begun_spaced a (r ∷ q ∷ rs) s b = elim (cases_eq r.0 (suc a)) [
  | inl e ↦
      subst (λ z. Spaced z × Begins a z) (sym (cond-true (eqb r.0 (suc a)) ((a, suc r.1) ∷ q ∷ rs) ((a, 1) ∷ r ∷ q ∷ rs) (eq-eqb r.0 (suc a) e)))
      ((omega arith, omega (arith, s.1), s.2), omega arith)
  | inr n ↦
      subst (λ z. Spaced z × Begins a z) (sym (cond-false (eqb r.0 (suc a)) ((a, suc r.1) ∷ q ∷ rs) ((a, 1) ∷ r ∷ q ∷ rs) (ne_eqb r.0 (suc a) n)))
      ((omega arith, omega arith, s), omega arith)
]

later : (a : ℕ) (rs : List (ℕ × ℕ)) → Begins (a + 1) rs → Begins a rs
later a [] b = tt
later a (r ∷ rs) b = omega arith

runs_spaced : (p : ℕ → Bool) (a n : ℕ) → Spaced (runs_from p a n) × Begins a (runs_from p a n)
runs_spaced p a zero = (tt, tt)
runs_spaced p a (suc n) =
    let w = runs_spaced p (a + 1) n in
    go (p a) w.0 w.1
  where
    go : (b : Bool) → Spaced (runs_from p (a + 1) n) → Begins (a + 1) (runs_from p (a + 1) n)
        → Spaced (cond b (begun a (runs_from p (a + 1) n)) (runs_from p (a + 1) n)) × Begins a (cond b (begun a (runs_from p (a + 1) n)) (runs_from p (a + 1) n))
    go true s b = begun_spaced a (runs_from p (a + 1) n) s b
    go false s b = (s, later a (runs_from p (a + 1) n) b)

-- the line that stays as the k-th
stays_as : (ks : List ℕ) (m k : ℕ) → k < length (staying ks m) → get_or (others (listed ks) m) k (new 0) ≡ old (get_or (staying ks m) k 0)
stays_as ks m k h = get_or-map old (staying ks m) k 0 (new 0) h

pub removing_listed : {A : Type 0} → RemovingListed A
removing_listed row t ks right =
    let ch = remove_listed row ks in
    let m = length-map (staying ks t.rows) old in
    let w = keep_length t.columns in
    let here = comes t ch (length (staying ks t.rows)) t.columns right refl m w in
    record {
      fewer = m;
      same = w;
      stays = λ k l a b. here k l (old (get_or (staying ks t.rows) k 0)) (old l) a b (stays_as ks t.rows k a) (keep_at t.columns l (new 0) b);
      saved = lost_rows t ch (listed ks) (others_stays (listed ks) t.rows) (keep_stays t.columns);
      runs = ap lines_of (append-nil (runs_from (listed ks) 0 t.rows)) ∙ lines_runs (listed ks) 0 t.rows;
      spaced = subst Spaced (sym (append-nil (runs_from (listed ks) 0 t.rows))) (runs_spaced (listed ks) 0 t.rows).0;
    }
removing_listed column t ks right =
    let ch = remove_listed column ks in
    let m = keep_length t.rows in
    let w = length-map (staying ks t.columns) old in
    let here = comes t ch t.rows (length (staying ks t.columns)) right refl m w in
    record {
      fewer = w;
      same = m;
      stays = λ k l a b. here l k (old l) (old (get_or (staying ks t.columns) k 0)) b a (keep_at t.rows l (new 0) b) (stays_as ks t.columns k a);
      saved = lost_columns t ch (listed ks) (keep_stays t.rows) (others_stays (listed ks) t.columns);
      runs = lines_runs (listed ks) 0 t.columns;
      spaced = (runs_spaced (listed ks) 0 t.columns).0;
    }
