-- A sheet: a table with the journal of its changes.
use Rattle.std.specs.Prelude.{◌≡◌, ℕ, suc, ◌+◌, ◌-◌, ◌*◌, Bool, true, false, cond, ◌&&◌, List, [], ◌∷◌, ◌++◌, length, take, drop, ◌==◌, nat_le, nat_lt}
use Rattle.std.specs.List.{range_with_len, flat_map}
use Rattle.model.specs.Sheet.{Origin, old, new, Edit, keep, insert, remove, remove_at, swap, resize, within, listed, origins, named, Side, row, column, Change, insert_lines, remove_lines, remove_listed, swap_lines, fill_lines, resize_to, on, edit, Table, cell_at, pairs, rows_of, columns_of, changed}

-- the first place that passes the test, or the length
abbrev pub place : {X : Type 0} → (X → Bool) → List X → ℕ
place p [] = 0
place p (x ∷ xs) = cond (p x) 0 (suc (place p xs))

abbrev pub is_old : ℕ → Origin → Bool
is_old k (old j) = j == k
is_old k (new j) = false

-- where old line k stands now
abbrev pub stands : ℕ → List Origin → ℕ
stands k os = place (is_old k) os

-- old line k is there still
abbrev pub survives : ℕ → List Origin → Bool
survives k os = nat_lt (stands k os) (length os)

-- the cell's row and column are both there still
abbrev pub stays : List Origin → List Origin → ℕ × ℕ → Bool
stays os ps q = survives q.0 os && survives q.1 ps

-- runs: lines side by side, as the first and how many

abbrev pub begun : ℕ → List (ℕ × ℕ) → List (ℕ × ℕ)
begun a [] = (a, 1) ∷ []
begun a (r ∷ rs) = cond (r.0 == suc a) ((a, suc r.1) ∷ rs) ((a, 1) ∷ r ∷ rs)

-- the longest runs of lines that pass, of the n lines from a on
abbrev pub runs_from : (ℕ → Bool) → ℕ → ℕ → List (ℕ × ℕ)
runs_from p a ℕ.zero = []
runs_from p a (suc n) = cond (p a) (begun a (runs_from p (a + 1) n)) (runs_from p (a + 1) n)

-- the run of n lines at i, or none where no line goes
abbrev pub one_run : ℕ → ℕ → List (ℕ × ℕ)
one_run i n = cond (nat_lt 0 n) ((i, n) ∷ []) []

-- the lines of the runs
abbrev pub lines_of : List (ℕ × ℕ) → List ℕ
lines_of rs = flat_map (λ r. range_with_len r.0 r.1) rs

-- the runs that an edit of m lines enters: only a removal has any
abbrev pub removed : Edit → ℕ → List (ℕ × ℕ)
removed keep m = []
removed (insert i n) m = []
removed (remove i n) m = runs_from (within i n) 0 m
removed (remove_at ks) m = runs_from (listed ks) 0 m
removed (swap i j) m = []
removed (resize n) m = []

-- what an entry notes of a change: which it was and its numbers; of a list, only that its lines are in the entry's runs
pub data Note : Type 0 where
  insertion : Side → ℕ → ℕ → Note
  removal : Side → ℕ → ℕ → Note
  listed_removal : Side → Note
  exchange : Side → ℕ → ℕ → Note
  gap : Side → ℕ → ℕ → Note
  resizing : ℕ → ℕ → Note

abbrev pub note_of : {A : Type 0} → Change A → Note
note_of (insert_lines s i n v) = insertion s i n
note_of (remove_lines s i n) = removal s i n
note_of (remove_listed s ks) = listed_removal s
note_of (swap_lines s i j) = exchange s i j
note_of (fill_lines s i n vs v) = gap s i n
note_of (resize_to m n v) = resizing m n

-- what the noted change did to the lines of a side, told with the entry's runs
abbrev pub recalled : Side → Note → List (ℕ × ℕ) → Edit
recalled s (insertion s' i n) rs = on s s' (insert i n)
recalled s (removal s' i n) rs = on s s' (remove i n)
recalled s (listed_removal s') rs = on s s' (remove_at (lines_of rs))
recalled s (exchange s' i j) rs = on s s' (swap i j)
recalled s (gap s' i n) rs = on s s' (insert i n)
recalled row (resizing m n) rs = resize m
recalled column (resizing m n) rs = resize n

-- an entry of the journal
pub record Entry : Type 0 where
  pub note : Note
  -- the shape before
  pub rows_were : ℕ
  pub columns_were : ℕ
  -- how many run pairs and saved cells are its own
  pub runs_own : ℕ
  pub cells_own : ℕ

-- how much each handed-in buffer holds
pub record Room : Type 0 where
  pub for_cells : ℕ
  pub for_entries : ℕ
  pub for_runs : ℕ
  pub for_saved : ℕ

-- the newest entry stands first; the newest runs and saved cells stand last
pub record Sheet (A : Type 0) : Type 0 where
  pub table : Table A
  pub entries : List Entry
  pub runs : List (ℕ × ℕ)
  pub saved : List A
  pub room : Room

-- by number: the model stands alone and knows no refusals of the code
pub data Answer : Type 0 where
  done : Answer
  refused : ℕ → Answer

-- the first test that fails gives the refusal
abbrev pub first_no : List (ℕ × Bool) → Answer
first_no [] = done
first_no (q ∷ qs) = cond q.1 (first_no qs) (refused q.0)

abbrev pub runs_of : {A : Type 0} → Table A → Change A → List (ℕ × ℕ)
runs_of t ch = removed (edit row ch) t.rows ++ removed (edit column ch) t.columns

abbrev pub places : ℕ → ℕ → List (ℕ × ℕ)
places m n = pairs (range_with_len 0 m) (range_with_len 0 n)

-- the cells whose row or column goes
abbrev pub lost_of : {A : Type 0} → Table A → Change A → List A
lost_of t ch =
    flat_map
    (λ q. cond (stays (rows_of t ch) (columns_of t ch) q) [] (cell_at t q.0 q.1))
    (places t.rows t.columns)

abbrev pub has_column : {A : Type 0} → Table A → Change A → Bool
has_column t (insert_lines s i n v) = true
has_column t (remove_lines s i n) = true
has_column t (remove_listed row ks) = nat_lt 0 t.columns
has_column t (remove_listed column ks) = true
has_column t (swap_lines s i j) = true
has_column t (fill_lines s i n vs v) = true
has_column t (resize_to m n v) = true

abbrev pub named_in : {A : Type 0} → Table A → Change A → Bool
named_in t ch = named (edit row ch) t.rows && named (edit column ch) t.columns

-- questions 3 to 7 of a change to m rows and n columns, with k runs and l lost cells of its own
abbrev pub rooms : {A : Type 0} → Sheet A → (m n k l : ℕ) → List (ℕ × Bool)
rooms s m n k l =
    (3, nat_le m 4096 && nat_le n 4096)
    ∷ (4, nat_le (m * n) s.room.for_cells)
    ∷ (5, nat_lt (length s.entries) s.room.for_entries)
    ∷ (6, nat_le (length s.runs + k) s.room.for_runs)
    ∷ (7, nat_le (length s.saved + l) s.room.for_saved)
    ∷ []

-- what is asked before a change, in order
abbrev pub tests : {A : Type 0} → Sheet A → Change A → List (ℕ × Bool)
tests s ch =
    let t = s.table in
    (2, named_in t ch)
    ∷ (rooms s (length (rows_of t ch)) (length (columns_of t ch)) (length (runs_of t ch)) (length (lost_of t ch)) ++ ((9, has_column t ch) ∷ []))

abbrev pub verdict : {A : Type 0} → Sheet A → Change A → Answer
verdict s ch = first_no (tests s ch)

abbrev pub entry_of : {A : Type 0} → Table A → Change A → Entry
entry_of t ch = record {
  note = note_of ch;
  rows_were = t.rows;
  columns_were = t.columns;
  runs_own = length (runs_of t ch);
  cells_own = length (lost_of t ch);
}

abbrev pub after : {A : Type 0} → Sheet A → Change A → Sheet A
after s ch = record {
  table = changed s.table ch;
  entries = entry_of s.table ch ∷ s.entries;
  runs = s.runs ++ runs_of s.table ch;
  saved = s.saved ++ lost_of s.table ch;
  room = s.room;
}

-- the former cells at the places: a cell that stays is read where it stands now, any other is the next saved one
abbrev pub restored : {A : Type 0} → Table A → List Origin → List Origin → List (ℕ × ℕ) → List A → List A
restored t os ps [] ks = []
restored t os ps (q ∷ qs) ks =
    cond
    (stays os ps q)
    (cell_at t (stands q.0 os) (stands q.1 ps) ++ restored t os ps qs ks)
    (take 1 ks ++ restored t os ps qs (drop 1 ks))

abbrev pub all_but : {X : Type 0} → ℕ → List X → ℕ
all_but n xs = length xs - n

-- the sheet before the entry
abbrev pub before : {A : Type 0} → Sheet A → Entry → List Entry → Sheet A
before s p ps =
    let mine = drop (all_but p.runs_own s.runs) s.runs in
    let cells = drop (all_but p.cells_own s.saved) s.saved in
    record {
      table = record {
        rows = p.rows_were;
        columns = p.columns_were;
        cells = restored
            s.table
            (origins (recalled row p.note mine) p.rows_were)
            (origins (recalled column p.note mine) p.columns_were)
            (places p.rows_were p.columns_were)
            cells;
      };
      entries = ps;
      runs = take (all_but p.runs_own s.runs) s.runs;
      saved = take (all_but p.cells_own s.saved) s.saved;
      room = s.room;
    }

abbrev pub settled : {A : Type 0} → Sheet A → Sheet A
settled s = record { table = s.table; entries = []; runs = []; saved = []; room = s.room }

pub data Call (A : Type 0) : Type 0 where
  change : Change A → Call A
  undo : Call A
  settle : Call A

-- a refusal changes nothing
abbrev pub unless : {A : Type 0} → Answer → Sheet A → Sheet A → Sheet A × Answer
unless done s s' = (s', done)
unless (refused n) s s' = (s, refused n)

abbrev pub taken_back : {A : Type 0} → Sheet A → List Entry → Sheet A × Answer
taken_back s [] = (s, refused 8)
taken_back s (p ∷ ps) = (before s p ps, done)

abbrev pub step : {A : Type 0} → Sheet A → Call A → Sheet A × Answer
step s (change ch) = unless (verdict s ch) s (after s ch)
step s undo = taken_back s s.entries
step s settle = (settled s, done)

abbrev pub run : {A : Type 0} → Sheet A → List (Call A) → Sheet A × List Answer
run s [] = (s, [])
run s (c ∷ cs) = ((run (step s c).0 cs).0, (step s c).1 ∷ (run (step s c).0 cs).1)

abbrev pub opened : {A : Type 0} → Table A → Room → Sheet A
opened t room = record { table = t; entries = []; runs = []; saved = []; room = room }

-- as many cells as the shape says
abbrev pub Right : {A : Type 0} → Table A → Type 0
Right t = length t.cells ≡ t.rows * t.columns
