-- Provenance (at the mill: the line book): where each row and each column comes from, told from the opened shape and the
-- remaining changes. In words of its own, some of which repeat those of Sheet: a reader is to believe them alone.
use Rattle.std.specs.Prelude.{◌≡◌, ℕ, suc, ◌+◌, ◌-◌, ◌*◌, ◌<◌, ◌≤◌, max, Bool, ◌&&◌, List, [], ◌∷◌, ◌++◌, map, length, ◌==◌, slice_index_or}
use Rattle.std.specs.List.{range_with_len}
use Rattle.model.specs.Sheet.{Origin, old, new, Edit, insert, remove, remove_at, swap, resize, origins, Side, row, column, Change, insert_lines, remove_lines, remove_listed, swap_lines, fill_lines, resize_to, edit, Table, cell_at}
use Rattle.model.specs.Journal.{Room, Call, change, undo, settle, Right, place}
use Rattle.model.specs.History.{remains, final}

-- the changes among the calls, in the order of the calls
abbrev pub changes_of : {A : Type 0} → List (Call A) → List (Change A)
changes_of [] = []
changes_of (change ch ∷ cs) = ch ∷ changes_of cs
changes_of (undo ∷ cs) = changes_of cs
changes_of (settle ∷ cs) = changes_of cs

-- the remaining changes, the newest first: the oldest has the number 1
abbrev pub left : {A : Type 0} → Table A → Room → List (Call A) → List (Change A)
left t room calls = changes_of (remains t room calls)

-- a line's descent: the number of the change that made it, 0 for the opening, and which of that change's new lines it is
abbrev pub descent : ℕ → List (ℕ × ℕ) → Origin → ℕ × ℕ
descent t descents (old k) = slice_index_or descents k (0, 0)
descent t descents (new j) = (t, j)

-- the descents of the lines of a side, of m lines at the opening, after the changes
abbrev pub descents : {A : Type 0} → Side → ℕ → List (Change A) → List (ℕ × ℕ)
descents s m [] = map (λ k. (0, k)) (range_with_len 0 m)
descents s m (ch ∷ chs) =
    map (descent (suc (length chs)) (descents s m chs)) (origins (edit s ch) (length (descents s m chs)))

abbrev pub row_descents : {A : Type 0} → Table A → List (Change A) → List (ℕ × ℕ)
row_descents t chs = descents row t.rows chs

abbrev pub column_descents : {A : Type 0} → Table A → List (Change A) → List (ℕ × ℕ)
column_descents t chs = descents column t.columns chs

-- line r of a side
abbrev pub line : List (ℕ × ℕ) → ℕ → ℕ × ℕ
line lines r = slice_index_or lines r (0, 0)

abbrev pub same : ℕ × ℕ → ℕ × ℕ → Bool
same a b = a.0 == b.0 && a.1 == b.1

-- where the line of this descent stands
abbrev pub at : ℕ × ℕ → List (ℕ × ℕ) → ℕ
at a lines = place (same a) lines

-- what a change, of a table of m rows, puts at row r and column c of the changed table where it makes a cell:
-- its value, or of a filled gap the list's value for that cell of the gap, column by column, and then the value
abbrev pub puts : {A : Type 0} → Change A → ℕ → ℕ → ℕ → List A
puts (insert_lines s i n v) m r c = v ∷ []
puts (remove_lines s i n) m r c = []
puts (remove_listed s ks) m r c = []
puts (swap_lines s i j) m r c = []
puts (fill_lines row i n vs v) m r c = slice_index_or vs ((r - i) + c * n) v ∷ []
puts (fill_lines column i n vs v) m r c = slice_index_or vs (r + (c - i) * m) v ∷ []
puts (resize_to m' n v) m r c = v ∷ []

-- every cell is told by the descents of its row and its column
pub record Told {A : Type 0} (t s : Table A) (chs : List (Change A)) : Type 0 where
  -- the shape
  pub rows : s.rows ≡ length (row_descents t chs)
  pub columns : s.columns ≡ length (column_descents t chs)
  -- the numbers are those of the changes
  pub rows_known : (r : ℕ) → r < s.rows → (line (row_descents t chs) r).0 ≤ length chs
  pub columns_known : (c : ℕ) → c < s.columns → (line (column_descents t chs) c).0 ≤ length chs
  -- no two lines have one descent
  pub rows_apart :
      (r r' : ℕ) → r < s.rows → r' < s.rows → line (row_descents t chs) r ≡ line (row_descents t chs) r' → r ≡ r'
  pub columns_apart :
      (c c' : ℕ) → c < s.columns → c' < s.columns → line (column_descents t chs) c ≡ line (column_descents t chs) c' → c ≡ c'
  -- a row and a column of the opening have the opening's cell
  pub opening :
      (r c k l : ℕ) → r < s.rows → c < s.columns
      → line (row_descents t chs) r ≡ (0, k) → line (column_descents t chs) c ≡ (0, l)
      → cell_at s r c ≡ cell_at t k l
  -- any other cell has what the newer of the two lines' changes put there: where both lines stood just after it
  pub later :
      (r c : ℕ) → r < s.rows → c < s.columns
      → (newer : List (Change A)) (ch : Change A) (older : List (Change A)) → chs ≡ newer ++ ch ∷ older
      → max (line (row_descents t chs) r).0 (line (column_descents t chs) c).0 ≡ suc (length older)
      → cell_at s r c
      ≡ puts ch (length (row_descents t older))
      (at (line (row_descents t chs) r) (row_descents t (ch ∷ older)))
      (at (line (column_descents t chs) c) (column_descents t (ch ∷ older)))

abbrev pub Cells : Type 0 → Type 0
Cells A =
    (t : Table A) (room : Room) → Right t → (calls : List (Call A))
    → Told t (final t room calls).table (left t room calls)

-- the calls of a side, as what they do to its lines: a resize by that side's count alone

abbrev pub mine : Side → Side → Edit → List Edit
mine row row e = e ∷ []
mine row column e = []
mine column row e = []
mine column column e = e ∷ []

abbrev pub call_on : {A : Type 0} → Side → Change A → List Edit
call_on s (insert_lines s' i n v) = mine s s' (insert i n)
call_on s (remove_lines s' i n) = mine s s' (remove i n)
call_on s (remove_listed s' ks) = mine s s' (remove_at ks)
call_on s (swap_lines s' i j) = mine s s' (swap i j)
call_on s (fill_lines s' i n vs v) = mine s s' (insert i n)
call_on row (resize_to m n v) = resize m ∷ []
call_on column (resize_to m n v) = resize n ∷ []

abbrev pub calls_on : {A : Type 0} → Side → List (Change A) → List Edit
calls_on s [] = []
calls_on s (ch ∷ chs) = call_on s ch ++ calls_on s chs

-- of two sheets: the same shape, and the same cells of the opening
pub record Alike {A : Type 0} (t s s' : Table A) (chs chs' : List (Change A)) : Type 0 where
  pub rows : s.rows ≡ s'.rows
  pub columns : s.columns ≡ s'.columns
  pub opening :
      (r c k l : ℕ) → r < s.rows → c < s.columns
      → line (row_descents t chs) r ≡ (0, k) → line (column_descents t chs) c ≡ (0, l)
      → (line (row_descents t chs') r ≡ (0, k)) × (line (column_descents t chs') c ≡ (0, l)) × (cell_at s r c ≡ cell_at s' r c)

-- the row calls and the column calls may come in any interleaving, the other sheet's rooms may differ
abbrev pub Interleaved : Type 0 → Type 0
Interleaved A =
    (t : Table A) (room room' : Room) → Right t → (calls calls' : List (Call A))
    → calls_on row (left t room calls) ≡ calls_on row (left t room' calls')
    → calls_on column (left t room calls) ≡ calls_on column (left t room' calls')
    → Alike t (final t room calls).table (final t room' calls').table (left t room calls) (left t room' calls')
