-- Every cell by its lines.
use Rattle.std.proofs.Common.{◌≡◌, ℕ, suc, ◌+◌, ◌-◌, ◌*◌, ◌<◌, ◌≤◌, max, true, cond, eqb, ltb, ◌⊎◌, List, [], ◌∷◌, ◌++◌, map, length, get_or, sym, refl, ap, ◌∙◌, subst, ap₂, inl, inr, arith, length-append}
use Rattle.std.specs.List.{range_with_len, AllByRecursion as All}
use Rattle.std.proofs.lemmas.List.{get_or-map, length-map}
use Rattle.std.proofs.lemmas.List.FromFn.{get_or-map-range_with_len, length-map-range_with_len}
use Rattle.std.proofs.ByRecursion.{All-get_or, All-map, All-weaker}
use Rattle.std.proofs.lemmas.Bool.{cond_both, and_parts, eq-eqb, ne_eqb}
use Rattle.model.specs.Sheet.{Origin, old, new, number, inserted, origins, named, Side, row, column, Change, insert_lines, remove_lines, remove_listed, swap_lines, fill_lines, resize_to, edit, made, Table, cell_at, cell_of, changed}
use Rattle.model.specs.Journal.{Room, Call, change, undo, settle, Sheet, Right, named_in}
use Rattle.model.specs.History.{remains, final}
use Rattle.model.specs.Provenance.{changes_of, left, descent, descents, row_descents, column_descents, line, at, puts, Told, Cells}
use Rattle.model.proofs.Grids.{all_counting}
use Rattle.model.proofs.Edits.{Fits, fits}
use Rattle.model.proofs.Undo.{right_changed, changed_at}
use Rattle.model.proofs.Replays.{reach, Accepts, accepted_there, accepted_after, all_come}
use Rattle.model.proofs.Apart.{Apart, apart_origins, at_line}

-- the descents of one side

module _ {A : Type 0} (s : Side) (m : ℕ) where
  -- each change names lines that are there
  abbrev pub Sound : List (Change A) → Type 0
  Sound [] = Unit {0}
  Sound (ch ∷ chs) = (named (edit s ch) (length (descents s m chs)) ≡ true) × Sound chs

  below :
      (ch : Change A) (t : ℕ) (B : List (ℕ × ℕ)) → All (λ d. d.0 ≤ t) B
      → (o : Origin) → Fits (edit s ch) (length B) o → (descent (suc t) B o).0 ≤ suc t
  below ch t B h (old k) f = let e : (line B k).0 ≤ t = All-get_or (λ d. d.0 ≤ t) B k (0, 0) f h in omega arith
  below ch t B h (new j) f = omega arith

  pub known : (chs : List (Change A)) → Sound chs → All (λ d. d.0 ≤ length chs) (descents s m chs)
  known [] ok = All-map (λ d. d.0 ≤ 0) (λ k. (0, k)) (range_with_len 0 m) (all_counting (λ k. 0 ≤ 0) 0 m (λ k a b. omega arith))
  known (ch ∷ chs) ok =
      let B = descents s m chs in
      All-map (λ d. d.0 ≤ suc (length chs)) (descent (suc (length chs)) B) (origins (edit s ch) (length B))
      (All-weaker (Fits (edit s ch) (length B)) (λ o. (descent (suc (length chs)) B o).0 ≤ suc (length chs))
      (below ch (length chs) B (known chs ok.1)) (origins (edit s ch) (length B)) (fits (edit s ch) (length B) ok.0))

  pub line_after :
      (ch : Change A) (chs : List (Change A)) (r : ℕ) (d : ℕ × ℕ) → r < length (origins (edit s ch) (length (descents s m chs)))
      → get_or (descents s m (ch ∷ chs)) r d
      ≡ descent (suc (length chs)) (descents s m chs) (get_or (origins (edit s ch) (length (descents s m chs))) r (new 0))
  line_after ch chs r d h =
      get_or-map (descent (suc (length chs)) (descents s m chs)) (origins (edit s ch) (length (descents s m chs))) r (new 0) d h

  pub length_after : (ch : Change A) (chs : List (Change A)) → length (descents s m (ch ∷ chs)) ≡ length (origins (edit s ch) (length (descents s m chs)))
  length_after ch chs = length-map (origins (edit s ch) (length (descents s m chs))) (descent (suc (length chs)) (descents s m chs))

  pub apart_descents : (chs : List (Change A)) → Sound chs → Apart (descents s m chs)
  apart_descents [] ok i j d l k e =
      let f : ℕ → ℕ × ℕ = λ k. (0, k) in
      let z = length-map-range_with_len f 0 m in
      let il : i < m = omega arith in
      let jl : j < m = omega arith in
      ap (λ (a : ℕ × ℕ). a.1)
      (sym (get_or-map-range_with_len f 0 m i i d il (omega arith)) ∙ e ∙ get_or-map-range_with_len f 0 m j j d jl (omega arith))
  apart_descents (ch ∷ chs) ok i j d l k e =
      go (get_or os i (new 0)) (get_or os j (new 0)) refl refl
      (All-get_or (Fits (edit s ch) (length B)) os i (new 0) il (fits (edit s ch) (length B) ok.0))
      (All-get_or (Fits (edit s ch) (length B)) os j (new 0) jl (fits (edit s ch) (length B) ok.0))
      (sym (line_after ch chs i d il) ∙ e ∙ line_after ch chs j d jl)
      (apart_descents chs ok.1)
    where
      t : ℕ
      t = length chs

      B : List (ℕ × ℕ)
      B = descents s m chs

      os : List Origin
      os = origins (edit s ch) (length B)

      il : i < length os
      il = let z = length_after ch chs in omega arith

      jl : j < length os
      jl = let z = length_after ch chs in omega arith

      older : (k : ℕ) → k < length B → (line B k).0 ≤ t
      older k f = All-get_or (λ d. d.0 ≤ t) B k (0, 0) f (known chs ok.1)

      go :
          (o p : Origin) → get_or os i (new 0) ≡ o → get_or os j (new 0) ≡ p
          → Fits (edit s ch) (length B) o → Fits (edit s ch) (length B) p
          → descent (suc t) B o ≡ descent (suc t) B p → Apart B → i ≡ j
      go (old a) (old b) eo ep fo fp e apart =
          apart_origins (edit s ch) (length B) i j (new 0) il jl (eo ∙ ap old (apart a b (0, 0) fo fp e) ∙ sym ep)
      go (old a) (new b) eo ep fo fp e apart =
          let z : (line B a).0 ≡ suc t = ap (λ (q : ℕ × ℕ). q.0) e in
          let y = older a fo in absurd (omega arith)
      go (new a) (old b) eo ep fo fp e apart =
          let z : suc t ≡ (line B b).0 = ap (λ (q : ℕ × ℕ). q.0) e in
          let y = older b fp in absurd (omega arith)
      go (new a) (new b) eo ep fo fp e apart =
          apart_origins (edit s ch) (length B) i j (new 0) il jl (eo ∙ ap (λ (q : ℕ × ℕ). new q.1) e ∙ sym ep)

-- what a change makes, by the places

abbrev IsNew : Origin → Type 0
IsNew (old k) = ⊥
IsNew (new j) = Unit {0}

gap_number : (i n r : ℕ) (o : Origin) → inserted i n r ≡ o → IsNew o → number o ≡ r - i
gap_number i n r o e w =
    subst (λ x. IsNew x → number x ≡ r - i) e
    (cond_both (ltb r i) (old r) (cond (ltb r (i + n)) (new (r - i)) (old (r - n))) (λ x. IsNew x → number x ≡ r - i)
    (λ f w. absurd w)
    (λ f. cond_both (ltb r (i + n)) (new (r - i)) (old (r - n)) (λ x. IsNew x → number x ≡ r - i)
    (λ g w. refl) (λ g w. absurd w)))
    w

at_mapped : (f : ℕ → Origin) (n r : ℕ) (o : Origin) → r < length (map f (range_with_len 0 n)) → get_or (map f (range_with_len 0 n)) r (new 0) ≡ o → f r ≡ o
at_mapped f n r o h e =
    let z = length-map-range_with_len f 0 n in
    sym (get_or-map-range_with_len f 0 n r r (new 0) (omega arith) (omega arith)) ∙ e

made_puts :
    {A : Type 0} (ch : Change A) (m n r c : ℕ) (o p : Origin)
    → r < length (origins (edit row ch) m) → c < length (origins (edit column ch) n)
    → get_or (origins (edit row ch) m) r (new 0) ≡ o → get_or (origins (edit column ch) n) c (new 0) ≡ p
    → IsNew o ⊎ IsNew p → made ch m o p ≡ puts ch m r c
made_puts (insert_lines s i k v) m n r c o p h l eo ep w = refl
made_puts (remove_lines s i k) m n r c o p h l eo ep w = refl
made_puts (remove_listed s ks) m n r c o p h l eo ep w = refl
made_puts (swap_lines s i j) m n r c o p h l eo ep w = refl
made_puts (fill_lines row i k vs v) m n r c o p h l eo ep w =
    let ec = at_mapped old n c p l ep in
    let er = at_mapped (inserted i k) (m + k) r o h eo in
    let e : number o ≡ r - i = elim w [ inl x ↦ gap_number i k r o er x | inr x ↦ absurd (subst IsNew (sym ec) x) ] in
    ap₂ (λ a b. get_or vs (a + b * k) v ∷ []) e (ap number (sym ec))
made_puts (fill_lines column i k vs v) m n r c o p h l eo ep w =
    let er = at_mapped old m r o h eo in
    let ec = at_mapped (inserted i k) (n + k) c p l ep in
    let e : number p ≡ c - i = elim w [ inl x ↦ absurd (subst IsNew (sym er) x) | inr x ↦ gap_number i k c p ec x ] in
    ap₂ (λ a b. get_or vs (a + b * m) v ∷ []) (ap number (sym er)) e
made_puts (resize_to m' n' v) m n r c o p h l eo ep w = refl

module _ {A : Type 0} (t : Table A) where
  -- the table after these changes, the newest first
  abbrev pub table_after : List (Change A) → Table A
  table_after [] = t
  table_after (ch ∷ chs) = changed (table_after chs) ch

  abbrev pub AllNamed : List (Change A) → Type 0
  AllNamed [] = Unit {0}
  AllNamed (ch ∷ chs) = (named_in (table_after chs) ch ≡ true) × AllNamed chs

  pub rows_after : (chs : List (Change A)) → (table_after chs).rows ≡ length (row_descents t chs)
  rows_after [] = let f : ℕ → ℕ × ℕ = λ k. (0, k) in sym (length-map-range_with_len f 0 t.rows)
  rows_after (ch ∷ chs) = ap (λ n. length (origins (edit row ch) n)) (rows_after chs) ∙ sym (length_after row t.rows ch chs)

  pub columns_after : (chs : List (Change A)) → (table_after chs).columns ≡ length (column_descents t chs)
  columns_after [] = let f : ℕ → ℕ × ℕ = λ k. (0, k) in sym (length-map-range_with_len f 0 t.columns)
  columns_after (ch ∷ chs) =
      ap (λ n. length (origins (edit column ch) n)) (columns_after chs) ∙ sym (length_after column t.columns ch chs)

  sound_rows : (chs : List (Change A)) → AllNamed chs → Sound row t.rows chs
  sound_rows [] ok = tt
  sound_rows (ch ∷ chs) ok =
      let tb = table_after chs in (
        subst (λ n. named (edit row ch) n ≡ true) (rows_after chs)
            (and_parts (named (edit row ch) tb.rows) (named (edit column ch) tb.columns) ok.0).0,
        sound_rows chs ok.1,
      )

  sound_columns : (chs : List (Change A)) → AllNamed chs → Sound column t.columns chs
  sound_columns [] ok = tt
  sound_columns (ch ∷ chs) ok =
      let tb = table_after chs in (
        subst (λ n. named (edit column ch) n ≡ true) (columns_after chs)
            (and_parts (named (edit row ch) tb.rows) (named (edit column ch) tb.columns) ok.0).1,
        sound_columns chs ok.1,
      )

  -- what the descents tells of a cell
  abbrev told : List (Change A) → ℕ × ℕ → ℕ × ℕ → List A
  told [] a b = cell_at t a.1 b.1
  told (ch ∷ chs) a b =
      cond (eqb (max a.0 b.0) (suc (length chs)))
      (puts ch (length (row_descents t chs)) (at a (row_descents t (ch ∷ chs))) (at b (column_descents t (ch ∷ chs))))
      (told chs a b)

  module _ (right : Right t) where
    right_after : (chs : List (Change A)) → AllNamed chs → Right (table_after chs)
    right_after [] ok = right
    right_after (ch ∷ chs) ok = right_changed (table_after chs) ch (right_after chs ok.1) ok.0

    abbrev CellsTold : List (Change A) → Type 0
    CellsTold chs =
        (r c : ℕ) → r < length (row_descents t chs) → c < length (column_descents t chs)
        → cell_at (table_after chs) r c ≡ told chs (line (row_descents t chs) r) (line (column_descents t chs) c)

    module _ (ch : Change A) (chs : List (Change A)) (ok : AllNamed (ch ∷ chs)) (ih : CellsTold chs) (r c : ℕ)
        (h : r < length (origins (edit row ch) (length (row_descents t chs))))
        (l : c < length (origins (edit column ch) (length (column_descents t chs)))) where
      abbrev tb : Table A
      tb = table_after chs

      abbrev B : List (ℕ × ℕ)
      B = row_descents t chs

      abbrev D : List (ℕ × ℕ)
      D = column_descents t chs

      abbrev n : ℕ
      n = length chs

      abbrev os : List Origin
      os = origins (edit row ch) (length B)

      abbrev ps : List Origin
      ps = origins (edit column ch) (length D)

      fit_row : Fits (edit row ch) (length B) (get_or os r (new 0))
      fit_row =
          All-get_or (Fits (edit row ch) (length B)) os r (new 0) h (fits (edit row ch) (length B) (sound_rows (ch ∷ chs) ok).0)

      fit_column : Fits (edit column ch) (length D) (get_or ps c (new 0))
      fit_column =
          All-get_or (Fits (edit column ch) (length D)) ps c (new 0) l (fits (edit column ch) (length D) (sound_columns (ch ∷ chs) ok).0)

      known_row : (k : ℕ) → k < length B → (line B k).0 ≤ n
      known_row k f = All-get_or (λ d. d.0 ≤ n) B k (0, 0) f (known row t.rows chs (sound_rows chs ok.1))

      known_column : (k : ℕ) → k < length D → (line D k).0 ≤ n
      known_column k f = All-get_or (λ d. d.0 ≤ n) D k (0, 0) f (known column t.columns chs (sound_columns chs ok.1))

      newest :
          (o p : Origin) → Fits (edit row ch) (length B) o → Fits (edit column ch) (length D) p
          → IsNew o ⊎ IsNew p → max (descent (suc n) B o).0 (descent (suc n) D p).0 ≡ suc n
      newest (old k) (old j) f g w = elim w [ inl x ↦ absurd x | inr x ↦ absurd x ]
      newest (old k) (new j) f g w = let e = known_row k f in omega arith
      newest (new i) (old k) f g w = let e = known_column k g in omega arith
      newest (new i) (new j) f g w = omega arith

      at_row : (o : Origin) → get_or os r (new 0) ≡ o → at (descent (suc n) B o) (row_descents t (ch ∷ chs)) ≡ r
      at_row o e =
          let z = length_after row t.rows ch chs in
          ap (λ a. at a (row_descents t (ch ∷ chs))) (ap (descent (suc n) B) (sym e) ∙ sym (line_after row t.rows ch chs r (0, 0) h))
          ∙ at_line (row_descents t (ch ∷ chs)) (apart_descents row t.rows (ch ∷ chs) (sound_rows (ch ∷ chs) ok)) r (omega arith)

      at_column : (p : Origin) → get_or ps c (new 0) ≡ p → at (descent (suc n) D p) (column_descents t (ch ∷ chs)) ≡ c
      at_column p e =
          let z = length_after column t.columns ch chs in
          ap (λ a. at a (column_descents t (ch ∷ chs))) (ap (descent (suc n) D) (sym e) ∙ sym (line_after column t.columns ch chs c (0, 0) l))
          ∙ at_line (column_descents t (ch ∷ chs)) (apart_descents column t.columns (ch ∷ chs) (sound_columns (ch ∷ chs) ok)) c (omega arith)

      fresh :
          (o p : Origin) → get_or os r (new 0) ≡ o → get_or ps c (new 0) ≡ p → IsNew o ⊎ IsNew p
          → made ch tb.rows o p ≡ told (ch ∷ chs) (descent (suc n) B o) (descent (suc n) D p)
      fresh o p eo ep w =
          let a = descent (suc n) B o in
          let b = descent (suc n) D p in
          let top = newest o p (subst (Fits (edit row ch) (length B)) eo fit_row) (subst (Fits (edit column ch) (length D)) ep fit_column) w in
          ap (λ m. made ch m o p) (rows_after chs)
          ∙ made_puts ch (length B) (length D) r c o p h l eo ep w
          ∙ ap₂ (puts ch (length B)) (sym (at_row o eo)) (sym (at_column p ep))
          ∙ ap (λ z. cond z (puts ch (length B) (at a (row_descents t (ch ∷ chs))) (at b (column_descents t (ch ∷ chs)))) (told chs a b))
          (sym (eq-eqb (max a.0 b.0) (suc n) top))

      by_origins :
          (o p : Origin) → get_or os r (new 0) ≡ o → get_or ps c (new 0) ≡ p
          → Fits (edit row ch) (length B) o → Fits (edit column ch) (length D) p
          → cell_of tb ch o p ≡ told (ch ∷ chs) (descent (suc n) B o) (descent (suc n) D p)
      by_origins (old k) (old j) eo ep f g =
          let a = line B k in
          let b = line D j in
          let ea = known_row k f in
          let eb = known_column j g in
          ih k j f g
          ∙ ap (λ z. cond z (puts ch (length B) (at a (row_descents t (ch ∷ chs))) (at b (column_descents t (ch ∷ chs)))) (told chs a b))
          (sym (ne_eqb (max a.0 b.0) (suc n) (λ x. omega arith)))
      by_origins (old k) (new j) eo ep f g = fresh (old k) (new j) eo ep (inr tt)
      by_origins (new i) p eo ep f g = fresh (new i) p eo ep (inl tt)

      cell_step :
          cell_at (changed tb ch) r c
          ≡ told (ch ∷ chs) (line (row_descents t (ch ∷ chs)) r) (line (column_descents t (ch ∷ chs)) c)
      cell_step =
          changed_at tb ch (right_after chs ok.1) ok.0 r c (new 0) (new 0)
          (subst (λ m. r < length (origins (edit row ch) m)) (sym (rows_after chs)) h)
          (subst (λ m. c < length (origins (edit column ch) m)) (sym (columns_after chs)) l)
          ∙ ap₂ (λ m k. cell_of tb ch (get_or (origins (edit row ch) m) r (new 0)) (get_or (origins (edit column ch) k) c (new 0)))
          (rows_after chs) (columns_after chs)
          ∙ by_origins (get_or os r (new 0)) (get_or ps c (new 0)) refl refl fit_row fit_column
          ∙ ap₂ (told (ch ∷ chs)) (sym (line_after row t.rows ch chs r (0, 0) h)) (sym (line_after column t.columns ch chs c (0, 0) l))

    cells_told : (chs : List (Change A)) → AllNamed chs → CellsTold chs
    cells_told [] ok r c h l =
        let f : ℕ → ℕ × ℕ = λ k. (0, k) in
        let zr = length-map-range_with_len f 0 t.rows in
        let zc = length-map-range_with_len f 0 t.columns in
        ap₂ (λ (a b : ℕ × ℕ). cell_at t a.1 b.1)
        (sym (get_or-map-range_with_len f 0 t.rows r r (0, 0) (omega arith) (omega arith)))
        (sym (get_or-map-range_with_len f 0 t.columns c c (0, 0) (omega arith) (omega arith)))
    cells_told (ch ∷ chs) ok r c h l =
        let zr = length_after row t.rows ch chs in
        let zc = length_after column t.columns ch chs in
        cell_step ch chs ok (cells_told chs ok.1) r c (omega arith) (omega arith)

    told_opening : (chs : List (Change A)) (k l : ℕ) → told chs (0, k) (0, l) ≡ cell_at t k l
    told_opening [] k l = refl
    told_opening (ch ∷ chs) k l =
        ap (λ z. cond z (puts ch (length (row_descents t chs)) (at (0, k) (row_descents t (ch ∷ chs))) (at (0, l) (column_descents t (ch ∷ chs)))) (told chs (0, k) (0, l)))
        (ne_eqb 0 (suc (length chs)) (λ x. omega arith))
        ∙ told_opening chs k l

    told_later :
        (newer : List (Change A)) (ch : Change A) (older : List (Change A)) (a b : ℕ × ℕ)
        → max a.0 b.0 ≡ suc (length older)
        → told (newer ++ ch ∷ older) a b
        ≡ puts ch (length (row_descents t older)) (at a (row_descents t (ch ∷ older))) (at b (column_descents t (ch ∷ older)))
    told_later [] ch older a b e =
        ap (λ z. cond z (puts ch (length (row_descents t older)) (at a (row_descents t (ch ∷ older))) (at b (column_descents t (ch ∷ older)))) (told older a b))
        (eq-eqb (max a.0 b.0) (suc (length older)) e)
    told_later (x ∷ newer) ch older a b e =
        let rest = newer ++ ch ∷ older in
        let z : length rest ≡ length newer + suc (length older) = length-append newer (ch ∷ older) in
        ap (λ z. cond z (puts x (length (row_descents t rest)) (at a (row_descents t (x ∷ rest))) (at b (column_descents t (x ∷ rest)))) (told rest a b))
        (ne_eqb (max a.0 b.0) (suc (length rest)) (λ y. omega arith))
        ∙ told_later newer ch older a b e

    pub all_told : (chs : List (Change A)) → AllNamed chs → Told t (table_after chs) chs
    all_told chs ok =
        let er = rows_after chs in
        let ec = columns_after chs in
        record {
          rows = er;
          columns = ec;
          rows_known = λ r h.
              All-get_or (λ (d : ℕ × ℕ). d.0 ≤ length chs) (row_descents t chs) r (0, 0) (omega arith) (known row t.rows chs (sound_rows chs ok));
          columns_known = λ c h.
              All-get_or (λ (d : ℕ × ℕ). d.0 ≤ length chs) (column_descents t chs) c (0, 0) (omega arith) (known column t.columns chs (sound_columns chs ok));
          rows_apart = λ r r' h h' e.
              apart_descents row t.rows chs (sound_rows chs ok) r r' (0, 0) (omega arith) (omega arith) e;
          columns_apart = λ c c' h h' e.
              apart_descents column t.columns chs (sound_columns chs ok) c c' (0, 0) (omega arith) (omega arith) e;
          opening = λ r c k l hr hc e f.
              cells_told chs ok r c (omega arith) (omega arith) ∙ ap₂ (told chs) e f ∙ told_opening chs k l;
          later = λ r c hr hc newer ch older e top.
              cells_told chs ok r c (omega arith) (omega arith)
              ∙ ap (λ z. told z (line (row_descents t chs) r) (line (column_descents t chs) c)) e
              ∙ told_later newer ch older (line (row_descents t chs) r) (line (column_descents t chs) c) top;
        }

-- the table of a history

abbrev Made : {A : Type 0} → Table A → Table A → List (Change A) → Type 0
Made t s chs = (s ≡ table_after t chs) × AllNamed t chs

reach_made : {A : Type 0} (t : Table A) (room : Room) (past : List (Call A)) → Accepts t room past → Made t (reach t room past).table (changes_of past)
reach_made t room [] ok = (refl, tt)
reach_made {A} t room (change ch ∷ past) ok =
    let s = reach t room past in
    let ih = reach_made t room past ok.2 in (
      ap (λ (z : Sheet A). z.table) (accepted_after s ch ok.1) ∙ ap (λ z. changed z ch) ih.0,
      (subst (λ z. named_in z ch ≡ true) ih.0 (accepted_there s ch ok.1), ih.1),
    )
reach_made t room (undo ∷ past) ok = absurd ok.0
reach_made t room (settle ∷ past) ok = reach_made t room past ok.2

pub final_made :
    {A : Type 0} (t : Table A) (room : Room) → Right t → (calls : List (Call A))
    → Made t (final t room calls).table (left t room calls)
final_made {A} t room right calls =
    let w = all_come t room right calls in
    let m = reach_made t room (remains t room calls) w.1 in
    (ap (λ (z : Sheet A). z.table) (sym w.0) ∙ m.0, m.1)

pub cells : (A : Type 0) → Cells A
cells A t room right calls =
    let m = final_made t room right calls in
    subst (λ z. Told t z (left t room calls)) (sym m.0) (all_told t right (left t room calls) m.1)
