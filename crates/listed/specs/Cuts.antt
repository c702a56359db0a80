-- The cells of runs of lines, and what saving them and closing up behind them leaves. A line has `width` cells side by
-- side; the lines lie one behind the other, in one group or in several of `size` cells each.
use Rattle.std.specs.Prelude.{◌≡◌, ℕ, ◌+◌, ◌-◌, ◌*◌, ◌≤◌, List, [], ◌∷◌, ◌++◌, map, length, take, drop}
use Rattle.std.specs.List.{range_with_len, flat_map, sum_by}
use Rattle.layout.specs.declared.side.Side.{Side}
use Rattle.layout.specs.declared.side.Side.TheVariants.{Rows, Columns}
use Rattle.moves.specs.declared.vec_storage.Table.{Table}
use Rattle.journal.specs.declared.parts.Run.{Run}
use Rattle.journal.specs.View.{run_of}
use Rattle.listed.specs.declared.cutting.Lines.{Lines}

-- what lies between the runs, of the lines from a up to e
abbrev pub between : ℕ → List (ℕ × ℕ) → ℕ → List (ℕ × ℕ)
between a [] e = (a, e - a) ∷ []
between a (r ∷ rs) e = (a, r.0 - a) ∷ between (r.0 + r.1) rs e

-- the cells of the runs, where the first line lies at the start of xs
abbrev pub taken : {A : Type 0} → ℕ → List A → List (ℕ × ℕ) → List A
taken width xs rs = flat_map (λ r. take (r.1 * width) (drop (r.0 * width) xs)) rs

-- the same in each of n groups, from group g on
abbrev pub taken_of : {A : Type 0} → ℕ → ℕ → ℕ → ℕ → List A → List (ℕ × ℕ) → List A
taken_of width size g n xs rs = flat_map (λ j. taken width (drop (j * size) xs) rs) (range_with_len g n)

-- how the lines of a side of a table lie
abbrev pub lines_of_side : Side → (rows columns : ℕ) → Lines
lines_of_side Rows rows columns = record { width = 1; count = rows; groups = columns }
lines_of_side Columns rows columns = record { width = rows; count = columns; groups = 1 }

-- and those of a table
abbrev pub lying : {A : Type 0} → Side → Table A → Lines
lying side t = lines_of_side side t.rows t.columns

-- the lines are there, and a group of them has at most 65,536 cells
abbrev pub Lying : {A : Type 0} → Lines → List A → Type 0
Lying lines xs = (lines.count * lines.width ≤ 65536) × (lines.groups * (lines.count * lines.width) ≤ length xs)

-- the cells of the lines of the runs, and those of the lines between them
abbrev pub cut : {A : Type 0} → Lines → List A → List Run → List A
cut lines xs rs = taken_of lines.width (lines.count * lines.width) 0 lines.groups xs (map run_of rs)

abbrev pub spared : {A : Type 0} → Lines → List A → List Run → List A
spared lines xs rs = taken_of lines.width (lines.count * lines.width) 0 lines.groups xs (between 0 (map run_of rs) lines.count)

-- the cells of `more` stand behind the first `top`, and all others stand as they were
pub record Behind {A : Type 0} (was is : List A) (top : ℕ) (more : List A) : Type 0 where
  pub long : length is ≡ length was
  pub put : take (top + length more) is ≡ take top was ++ more
  pub rest : drop (top + length more) is ≡ drop (top + length more) was

-- how many lines the runs have
abbrev pub gone : List Run → ℕ
gone rs = sum_by (λ (r : Run). r.length) rs

-- one group of lines is put together again: what was spared of it stood from `first` on, what was cut out of it is lost,
-- and it stands from `top` on
pub record Opened {A : Type 0} (was is : List A) (first top : ℕ) (lines : Lines) (rs : List Run) (lost : List A) : Type 0 where
  pub long : length is ≡ length was
  pub put : taken lines.width (drop top is) (map run_of rs) ≡ lost
  pub kept : taken lines.width (drop top is) (between 0 (map run_of rs) lines.count) ≡ take (lines.count * lines.width - length lost) (drop first was)
  pub below : take top is ≡ take top was
  pub above : drop (top + lines.count * lines.width) is ≡ drop (top + lines.count * lines.width) was

-- the same of all groups, where what was spared stood from the start on
pub record Reopened {A : Type 0} (was is : List A) (lines : Lines) (rs : List Run) (lost : List A) : Type 0 where
  pub long : length is ≡ length was
  pub put : cut lines is rs ≡ lost
  pub kept : spared lines is rs ≡ take (lines.groups * ((lines.count - gone rs) * lines.width)) was
