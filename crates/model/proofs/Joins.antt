-- From cells, place by place, to the lists of the model. The buffer's places are written as the moves have them.
use Rattle.std.proofs.Common.{◌≡◌, ℕ, ◌+◌, ◌-◌, ◌*◌, ◌<◌, ◌≤◌, true, List, [], ◌∷◌, ◌++◌, length, get_or, take, drop, sym, refl, ap, ◌∙◌, ap₂, arith, length-take}
use Rattle.std.specs.List.{flat_map, AllByRecursion as All}
use Rattle.std.proofs.Math.Seq.{take-length}
use Rattle.std.proofs.lemmas.List.{take-take, drop-take, drop_more, length-take-le, same_lists, get_or-take}
use Rattle.std.proofs.lemmas.Nat.{mul-add-lt}
use Rattle.model.specs.Sheet.{old, new, Change, Table, cell_at, cell_of, rows_of, columns_of, changed}
use Rattle.model.specs.Journal.{Right, places, named_in}
use Rattle.model.proofs.Grids.{table_back, all_places, take_then}
use Rattle.model.proofs.Undo.{right_changed, changed_at}

-- one cell of a buffer

some : {A : Type 0} (xs : List A) (k : ℕ) → k < length xs → A
some [] k h = absurd (omega arith)
some (x ∷ xs) k h = x

pub same_cell :
    {A : Type 0} (xs ys : List A) (k l : ℕ) → k < length xs → l < length ys
    → ((d : A) → get_or xs k d ≡ get_or ys l d) → take 1 (drop k xs) ≡ take 1 (drop l ys)
same_cell {A} xs ys k l h m e =
    let d : A = some xs k h in
    ap (take 1) (drop_more xs k d h) ∙ ap (λ x. x ∷ []) (e d) ∙ sym (ap (take 1) (drop_more ys l d m))

pub the_cell : {A : Type 0} (xs : List A) (k : ℕ) (v : A) → k < length xs → ((d : A) → get_or xs k d ≡ v) → take 1 (drop k xs) ≡ v ∷ []
the_cell xs k v h e = ap (take 1) (drop_more xs k v h) ∙ ap (λ x. x ∷ []) (e v)

pub cell_below : {A : Type 0} (xs : List A) (k n : ℕ) → k < n → take 1 (drop k (take n xs)) ≡ take 1 (drop k xs)
cell_below xs k n h =
    ap (λ z. take 1 (drop k (take z xs))) (let e : n ≡ k + (n - k) = omega arith in e)
    ∙ ap (take 1) (drop-take k (n - k) xs) ∙ take-take 1 (n - k) (drop k xs) (omega arith)

-- a table of the right size is what its cells are

pub joined_same : {X A : Type 0} (f g : X → List A) (xs : List X) → All (λ x. f x ≡ g x) xs → flat_map f xs ≡ flat_map g xs
joined_same f g [] h = refl
joined_same f g (x ∷ xs) h = ap₂ ◌++◌ h.0 (joined_same f g xs h.1)

pub table_cells :
    {A : Type 0} (t : Table A) (zs : List A) → Right t → t.rows * t.columns ≤ length zs
    → ((r c : ℕ) → r < t.rows → c < t.columns → take 1 (drop (r + c * t.rows) zs) ≡ cell_at t r c)
    → take (t.rows * t.columns) zs ≡ t.cells
table_cells {A} t zs right fits h =
    let m = t.rows in
    let n = t.columns in
    let u : Table A = record { rows = m; columns = n; cells = take (m * n) zs } in
    sym (table_back u (length-take-le (m * n) zs fits))
    ∙ joined_same (λ (q : ℕ × ℕ). cell_at u q.0 q.1) (λ (q : ℕ × ℕ). cell_at t q.0 q.1) (places m n)
    (all_places (λ q. cell_at u q.0 q.1 ≡ cell_at t q.0 q.1) m n (λ k l a b.
    let below = mul-add-lt l m k n b a in
    cell_below zs (k + l * m) (m * n) (omega arith) ∙ h k l a b))
    ∙ table_back t right

-- the changed table, from where each of its lines comes
pub changed_cells :
    {A : Type 0} (t : Table A) (ch : Change A) (R C : ℕ) (zs : List A) → Right t → named_in t ch ≡ true
    → length (rows_of t ch) ≡ R → length (columns_of t ch) ≡ C → R * C ≤ length zs
    → ((r c : ℕ) → r < R → c < C
    → take 1 (drop (r + c * R) zs) ≡ cell_of t ch (get_or (rows_of t ch) r (new 0)) (get_or (columns_of t ch) c (new 0)))
    → take (R * C) zs ≡ (changed t ch).cells
changed_cells t ch R C zs right there er ec fits h =
    let m = length (rows_of t ch) in
    let n = length (columns_of t ch) in
    let e : R * C ≡ m * n = ap₂ ◌*◌ (sym er) (sym ec) in
    ap (λ k. take k zs) e
    ∙ table_cells (changed t ch) zs (right_changed t ch right there) (omega (arith, e)) (λ r c a b.
    ap (λ k. take 1 (drop (r + c * k) zs)) er ∙ h r c (omega (arith, er)) (omega (arith, ec)) ∙ sym (changed_at t ch right there r c (new 0) (new 0) a b))

-- a cell of a table that lies at the start of a buffer
pub cell_of_lem :
    {A : Type 0} (t : Table A) (xs : List A) → t.cells ≡ take (t.rows * t.columns) xs
    → (r c : ℕ) → r < t.rows → c < t.columns → cell_at t r c ≡ take 1 (drop (r + c * t.rows) xs)
cell_of_lem t xs e r c h k =
    let below = mul-add-lt c t.rows r t.columns k h in
    ap (λ z. take 1 (drop (r + c * t.rows) z)) e ∙ cell_below xs (r + c * t.rows) (t.rows * t.columns) (omega arith)

-- a place of the new table that has an old cell, or the call's value
module _ {A : Type 0} (t : Table A) (ch : Change A) (xs ys : List A) (lies : t.cells ≡ take (t.rows * t.columns) xs) (fits : t.rows * t.columns ≤ length xs) where
  pub old_cell :
      (r c k l z : ℕ) → get_or (rows_of t ch) r (new 0) ≡ old k → get_or (columns_of t ch) c (new 0) ≡ old l
      → k < t.rows → l < t.columns → z < length ys → ((d : A) → get_or ys z d ≡ get_or xs (k + l * t.rows) d)
      → take 1 (drop z ys) ≡ cell_of t ch (get_or (rows_of t ch) r (new 0)) (get_or (columns_of t ch) c (new 0))
  old_cell r c k l z er ec hk hl hz e =
      let below = mul-add-lt l t.rows k t.columns hl hk in
      same_cell ys xs z (k + l * t.rows) hz (omega arith) e
      ∙ sym (cell_of_lem t xs lies k l hk hl)
      ∙ sym (ap₂ (cell_of t ch) er ec)

pub lying : {A : Type 0} (t : Table A) (xs : List A) → Right t → t.cells ≡ take (t.rows * t.columns) xs → t.rows * t.columns ≤ length xs
lying t xs right e =
    let f = ap length e in
    let g = length-take (t.rows * t.columns) xs in
    omega (arith, right)

-- an old cell, read where it stands in the changed table that lies in ys
pub former_cell :
    {A : Type 0} (t : Table A) (ch : Change A) (M N : ℕ) (ys : List A) → Right t → named_in t ch ≡ true
    → length (rows_of t ch) ≡ M → length (columns_of t ch) ≡ N → take (M * N) ys ≡ (changed t ch).cells
    → (r c k l : ℕ) → r < M → c < N → get_or (rows_of t ch) r (new 0) ≡ old k → get_or (columns_of t ch) c (new 0) ≡ old l
    → take 1 (drop (r + c * M) ys) ≡ cell_at t k l
former_cell t ch M N ys right there em en lies r c k l hr hc er ec =
    ap (λ m. take 1 (drop (r + c * m) ys)) (sym em)
    ∙ sym (cell_of_lem (changed t ch) ys (sym lies ∙ ap (λ z. take z ys) (ap₂ ◌*◌ (sym em) (sym en))) r c (omega (arith, em)) (omega (arith, en)))
    ∙ changed_at t ch right there r c (new 0) (new 0) (omega (arith, em)) (omega (arith, en))
    ∙ ap₂ (cell_of t ch) er ec

-- cells written behind the first `top`
pub put_behind :
    {A : Type 0} (was is : List A) (top n : ℕ) (lost : List A) → length is ≡ length was → top + n ≤ length was
    → ((k : ℕ) (d : A) → k < top → get_or is k d ≡ get_or was k d) → take n (drop top is) ≡ lost
    → take (top + n) is ≡ take top was ++ lost
put_behind was is top n lost long room below back =
    let l1 = length-take-le top is (omega arith) in
    let l2 = length-take-le top was (omega arith) in
    sym (take_then top n is)
    ∙ ap₂ ◌++◌
    (same_lists (take top is) (take top was) (l1 ∙ sym l2) (λ k d b. get_or-take top is k d (omega arith) ∙ below k d (omega arith) ∙ sym (get_or-take top was k d (omega arith))))
    back

-- cells written behind the others
pub put_on :
    {A : Type 0} (was is : List A) (n : ℕ) (more : List A) → length is ≡ length was + n
    → ((k : ℕ) (d : A) → k < length was → get_or is k d ≡ get_or was k d) → take n (drop (length was) is) ≡ more
    → is ≡ was ++ more
put_on was is n more long below back =
    let top = length was in
    let l1 = length-take-le top is (omega arith) in
    sym (take-length is) ∙ ap (λ z. take z is) long ∙ sym (take_then top n is)
    ∙ ap₂ ◌++◌ (same_lists (take top is) was l1 (λ k d b. get_or-take top is k d (omega arith) ∙ below k d (omega arith))) back
