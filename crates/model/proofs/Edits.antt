-- What the proofs know of each edit.
use Rattle.std.proofs.Common.{◌≡◌, ℕ, zero, suc, ◌+◌, ◌-◌, ◌<◌, ◌≤◌, Bool, true, false, cond, not, ◌||◌, eqb, ltb, ◌≢◌, ◌⊎◌, List, [], ◌∷◌, ◌++◌, map, filter, sym, refl, ap, ◌∙◌, ap₂, inl, inr, append-nil, arith}
use Rattle.std.specs.List.{range_with_len, AllByRecursion as All}
use Rattle.std.proofs.ByRecursion.{All-map, all_kept_by}
use Rattle.std.proofs.lemmas.Bool.{eqb-true, eqb-false, ltb-true, ltb-false, leb-true, cond_both, and_parts, ne_eqb, both_ways, or_right}
use Rattle.model.specs.Sheet.{Origin, old, new, Edit, keep, insert, remove, remove_at, swap, resize, within, listed, inserted, swapped, sized, others, origins, named, row, column, Change, insert_lines, remove_lines, remove_listed, swap_lines, fill_lines, resize_to, edit, made, Table, rows_of, columns_of}
use Rattle.model.specs.Journal.{begun, runs_from, lines_of, note_of, recalled, runs_of}
use Rattle.model.proofs.Grids.{all_counting, Single}

-- an old line was there, and new lines come only of an insertion or a resize

abbrev pub Makes : Edit → Type 0
Makes keep = ⊥
Makes (insert i n) = Unit {0}
Makes (remove i n) = ⊥
Makes (remove_at ks) = ⊥
Makes (swap i j) = ⊥
Makes (resize n) = Unit {0}

abbrev pub Fits : Edit → ℕ → Origin → Type 0
Fits e m (old k) = k < m
Fits e m (new j) = Makes e

mapped_fit : (e : Edit) (m : ℕ) (f : ℕ → Origin) (n : ℕ) → ((k : ℕ) → k < n → Fits e m (f k)) → All (Fits e m) (map f (range_with_len 0 n))
mapped_fit e m f n h =
    All-map (Fits e m) f (range_with_len 0 n) (all_counting (λ k. Fits e m (f k)) 0 n (λ k a b. h k (omega arith)))

others_fit : (e : Edit) (m : ℕ) (gone : ℕ → Bool) → All (Fits e m) (others gone m)
others_fit e m gone =
    All-map (Fits e m) old (filter (λ k. not (gone k)) (range_with_len 0 m))
    (all_kept_by (λ k. not (gone k)) (λ k. k < m) (range_with_len 0 m)
    (all_counting (λ k. k < m) 0 m (λ k a b. omega arith)))

pub fits : (e : Edit) (m : ℕ) → named e m ≡ true → All (Fits e m) (origins e m)
fits keep m h = mapped_fit keep m old m (λ k l. l)
fits (insert i n) m h = mapped_fit (insert i n) m (inserted i n) (m + n) (λ k l.
    let b = leb-true i m h in
    cond_both (ltb k i) (old k) (cond (ltb k (i + n)) (new (k - i)) (old (k - n))) (Fits (insert i n) m)
    (λ e. let f = ltb-true k i e in omega arith)
    (λ e. let f = ltb-false k i e in
    cond_both (ltb k (i + n)) (new (k - i)) (old (k - n)) (Fits (insert i n) m)
    (λ e'. tt) (λ e'. let g = ltb-false k (i + n) e' in omega arith)))
fits (remove i n) m h = others_fit (remove i n) m (within i n)
fits (remove_at ks) m h = others_fit (remove_at ks) m (listed ks)
fits (swap i j) m h = mapped_fit (swap i j) m (λ r. old (swapped i j r)) m (λ k l.
    let b = and_parts (ltb i m) (ltb j m) h in
    let bi = ltb-true i m b.0 in
    let bj = ltb-true j m b.1 in
    cond_both (eqb k i) j (cond (eqb k j) i k) (λ x. x < m)
    (λ e. bj) (λ e. cond_both (eqb k j) i k (λ x. x < m) (λ e'. bi) (λ e'. l)))
fits (resize n) m h = mapped_fit (resize n) m (sized m) n (λ k l.
    cond_both (ltb k m) (old k) (new (k - m)) (Fits (resize n) m) (λ e. ltb-true k m e) (λ e. tt))

pub made_single :
    {A : Type 0} (ch : Change A) (m : ℕ) (o p : Origin) → Makes (edit row ch) ⊎ Makes (edit column ch) → Single (made ch m o p)
made_single (insert_lines s i n v) m o p h = refl
made_single (remove_lines row i n) m o p h = elim h [ inl x ↦ absurd x | inr x ↦ absurd x ]
made_single (remove_lines column i n) m o p h = elim h [ inl x ↦ absurd x | inr x ↦ absurd x ]
made_single (remove_listed row ks) m o p h = elim h [ inl x ↦ absurd x | inr x ↦ absurd x ]
made_single (remove_listed column ks) m o p h = elim h [ inl x ↦ absurd x | inr x ↦ absurd x ]
made_single (swap_lines row i j) m o p h = elim h [ inl x ↦ absurd x | inr x ↦ absurd x ]
made_single (swap_lines column i j) m o p h = elim h [ inl x ↦ absurd x | inr x ↦ absurd x ]
made_single (fill_lines s i n vs v) m o p h = refl
made_single (resize_to m' n v) m o p h = refl

-- a removal is the removal of the lines of its runs

lines_begun : (a : ℕ) (rs : List (ℕ × ℕ)) → lines_of (begun a rs) ≡ a ∷ lines_of rs
lines_begun a [] = refl
lines_begun a (r ∷ rs) = go (eqb r.0 (suc a)) refl
  where
    go :
        (b : Bool) → eqb r.0 (suc a) ≡ b
        → lines_of (cond b ((a, suc r.1) ∷ rs) ((a, 1) ∷ r ∷ rs)) ≡ a ∷ lines_of (r ∷ rs)
    go true e =
        let f = eqb-true r.0 (suc a) e in
        let g : a + 1 ≡ r.0 = omega arith in
        ap (λ k. a ∷ (range_with_len k r.1 ++ lines_of rs)) g
    go false e = refl

pub lines_runs : (p : ℕ → Bool) (a n : ℕ) → lines_of (runs_from p a n) ≡ filter p (range_with_len a n)
lines_runs p a zero = refl
lines_runs p a (suc n) = go (p a) (lines_runs p (a + 1) n)
  where
    go :
        (b : Bool) → lines_of (runs_from p (a + 1) n) ≡ filter p (range_with_len (a + 1) n)
        → lines_of (cond b (begun a (runs_from p (a + 1) n)) (runs_from p (a + 1) n))
        ≡ cond b (a ∷ filter p (range_with_len (a + 1) n)) (filter p (range_with_len (a + 1) n))
    go true ih = lines_begun a (runs_from p (a + 1) n) ∙ ap (λ z. a ∷ z) ih
    go false ih = ih

pub listed_none : (p : ℕ → Bool) (k : ℕ) (xs : List ℕ) → p k ≡ false → listed (filter p xs) k ≡ false
listed_none p k [] h = refl
listed_none p k (x ∷ xs) h = go (p x) refl (listed_none p k xs h)
  where
    go : (b : Bool) → p x ≡ b → listed (filter p xs) k ≡ false → listed (cond b (x ∷ filter p xs) (filter p xs)) k ≡ false
    go true e ih =
        let n : eqb x k ≡ false = ne_eqb x k (λ s. both_ways (p k) h (sym (ap p s) ∙ e)) in
        ap (λ b. b || listed (filter p xs) k) n ∙ ih
    go false e ih = ih

pub listed_all : (p : ℕ → Bool) (k : ℕ) (xs : List ℕ) → p k ≡ true → listed xs k ≡ true → listed (filter p xs) k ≡ true
listed_all p k [] h l = absurd (both_ways false refl l)
listed_all p k (x ∷ xs) h l = go (p x) (eqb x k) refl refl l (listed_all p k xs h)
  where
    go :
        (b c : Bool) → p x ≡ b → eqb x k ≡ c → (c || listed xs k) ≡ true
        → (listed xs k ≡ true → listed (filter p xs) k ≡ true)
        → listed (cond b (x ∷ filter p xs) (filter p xs)) k ≡ true
    go true true e f l ih = ap (λ z. z || listed (filter p xs) k) f
    go true false e f l ih = or_right (eqb x k) (listed (filter p xs) k) (ih l)
    go false true e f l ih = absurd (both_ways (p x) e (ap p (eqb-true x k f) ∙ h))
    go false false e f l ih = ih l

pub listed_counting : (a n k : ℕ) → a ≤ k → k < a + n → listed (range_with_len a n) k ≡ true
listed_counting a zero k h l = absurd (omega arith)
listed_counting a (suc n) k h l = go (eqb a k) refl (listed_counting (a + 1) n k)
  where
    go :
        (b : Bool) → eqb a k ≡ b → (a + 1 ≤ k → k < a + 1 + n → listed (range_with_len (a + 1) n) k ≡ true)
        → (b || listed (range_with_len (a + 1) n) k) ≡ true
    go true e ih = refl
    go false e ih = let z : a ≢ k = eqb-false a k e in ih (omega arith) (omega arith)

kept_same : {X : Type 0} (p q : X → Bool) (xs : List X) → All (λ x. p x ≡ q x) xs → filter p xs ≡ filter q xs
kept_same p q [] h = refl
kept_same p q (x ∷ xs) h = ap₂ (λ b z. cond b (x ∷ z) z) h.0 (kept_same p q xs h.1)

recall_cut : (p : ℕ → Bool) (m : ℕ) → others (listed (lines_of (runs_from p 0 m))) m ≡ others p m
recall_cut p m = ap (map old) (kept_same (λ k. not (listed (lines_of (runs_from p 0 m)) k)) (λ k. not (p k)) (range_with_len 0 m)
    (all_counting (λ k. not (listed (lines_of (runs_from p 0 m)) k) ≡ not (p k)) 0 m (λ k a b.
    ap not (ap (λ xs. listed xs k) (lines_runs p 0 m) ∙ same k b (p k) refl))))
  where
    same : (k : ℕ) → k < 0 + m → (b : Bool) → p k ≡ b → listed (filter p (range_with_len 0 m)) k ≡ p k
    same k l true e = listed_all p k (range_with_len 0 m) e (listed_counting 0 m k (omega arith) l) ∙ sym e
    same k l false e = listed_none p k (range_with_len 0 m) e ∙ sym e

recall_cut_too : (p : ℕ → Bool) (m : ℕ) → others (listed (lines_of (runs_from p 0 m ++ []))) m ≡ others p m
recall_cut_too p m = ap (λ rs. others (listed (lines_of rs)) m) (append-nil (runs_from p 0 m)) ∙ recall_cut p m

-- the entry's notes with its runs tell the origins

pub recall_rows :
    {A : Type 0} (t : Table A) (ch : Change A) → origins (recalled row (note_of ch) (runs_of t ch)) t.rows ≡ rows_of t ch
recall_rows t (insert_lines row i n v) = refl
recall_rows t (insert_lines column i n v) = refl
recall_rows t (remove_lines row i n) = refl
recall_rows t (remove_lines column i n) = refl
recall_rows t (remove_listed row ks) = recall_cut_too (listed ks) t.rows
recall_rows t (remove_listed column ks) = refl
recall_rows t (swap_lines row i j) = refl
recall_rows t (swap_lines column i j) = refl
recall_rows t (fill_lines row i n vs v) = refl
recall_rows t (fill_lines column i n vs v) = refl
recall_rows t (resize_to m n v) = refl

pub recall_columns :
    {A : Type 0} (t : Table A) (ch : Change A)
    → origins (recalled column (note_of ch) (runs_of t ch)) t.columns ≡ columns_of t ch
recall_columns t (insert_lines row i n v) = refl
recall_columns t (insert_lines column i n v) = refl
recall_columns t (remove_lines row i n) = refl
recall_columns t (remove_lines column i n) = refl
recall_columns t (remove_listed row ks) = refl
recall_columns t (remove_listed column ks) = recall_cut (listed ks) t.columns
recall_columns t (swap_lines row i j) = refl
recall_columns t (swap_lines column i j) = refl
recall_columns t (fill_lines row i n vs v) = refl
recall_columns t (fill_lines column i n vs v) = refl
recall_columns t (resize_to m n v) = refl
