-- What the lines of a script do to a sheet of weights, and what is written of each.
use Rattle.std.specs.Prelude.{ℕ, ◌+◌, ◌*◌, Bool, true, false, cond, not, ◌&&◌, List, [], ◌∷◌, ◌++◌, length, take, replicate, min, Ok, Err, Result, nat_le}
use Rattle.std.specs.List.{range_with_len, flat_map}
use Rattle.layout.specs.Refusals.{number_of}
use Rattle.journal.specs.View.{side_of}
use Rattle.model.specs.Sheet.{Table, Change, insert_lines, remove_lines, remove_listed, swap_lines, resize_to}
use Rattle.model.specs.Journal.{Sheet, Room, Answer, done, refused, Call, change, undo, settle, first_no, opened, step}
use Rattle.script.specs.declared.command.Command.{Command}
use Rattle.script.specs.declared.command.Command.TheVariants.{Insert, Remove, RemoveAt, Swap, New, Resize, Undo, Settle, Print, Remark}
use Rattle.script.specs.declared.command.Numbers.{Numbers}
use Rattle.script.specs.declared.command.Fault.{Fault}
use Rattle.script.specs.Commands.{decided}
use Rattle.answers.specs.declared.answer.Refused.{Refused}
use Rattle.answers.specs.Answers.{done_text, no_text, refused_text, row_cells, row_text}

-- a sheet, and whether the script has opened it
pub record State : Type 0 where
  pub is_open : Bool
  pub sheet : Sheet ℕ

-- before the first n
abbrev pub unopened : Sheet ℕ → State
unopened s = record { is_open = false; sheet = s }

-- a table of one value
abbrev pub plain : ℕ → ℕ → ℕ → Table ℕ
plain rows columns v = record { rows = rows; columns = columns; cells = replicate (rows * columns) v }

-- what n asks: the questions of its dense table, then those of opening it over buffers with this room; said as tests,
-- since a transcript is reckoned out
abbrev pub new_tests : Room → ℕ → ℕ → List (ℕ × Bool)
new_tests r rows columns =
    (3, nat_le rows 4096 && nat_le columns 4096)
    ∷ (4, nat_le (rows * columns) 65536)
    ∷ (1, nat_le r.for_cells 65536 && (nat_le r.for_entries 4096 && (nat_le r.for_runs 32768 && nat_le r.for_saved 65536)))
    ∷ (4, nat_le (rows * columns) r.for_cells)
    ∷ (10, nat_le (rows * columns) 4096)
    ∷ []

abbrev pub calling : State → Call ℕ → State × Answer
calling s c = (record { is_open = s.is_open; sheet = (step s.sheet c).0 }, (step s.sheet c).1)

abbrev pub changing : State → Change ℕ → State × Answer
changing s ch = calling s (change ch)

abbrev pub opening : State → Table ℕ → Answer → State × Answer
opening s t done = (record { is_open = true; sheet = opened t s.sheet.room }, done)
opening s t (refused k) = (s, refused k)

-- the numbers without the zeros behind them
abbrev pub listed_in : Numbers → List ℕ
listed_in ns = take (min ns.count 16) ns.at

abbrev pub carried : State → Command → State × Answer
carried s (Insert side i n v) = changing s (insert_lines (side_of side) i n v)
carried s (Remove side i n) = changing s (remove_lines (side_of side) i n)
carried s (RemoveAt side ns) = changing s (remove_listed (side_of side) (listed_in ns))
carried s (Swap side i j) = changing s (swap_lines (side_of side) i j)
carried s (New rows columns v) = opening s (plain rows columns v) (first_no (new_tests s.sheet.room rows columns))
carried s (Resize rows columns v) = changing s (resize_to rows columns v)
carried s Undo = calling s undo
carried s Settle = calling s settle
carried s Print = (s, done)
carried s Remark = (s, done)

abbrev pub needs_a_sheet : Command → Bool
needs_a_sheet (New rows columns v) = false
needs_a_sheet Remark = false
needs_a_sheet c = true

-- question 16 comes before what the sheet asks
abbrev pub performed : State → Command → State × Answer
performed s c = cond (needs_a_sheet c && not s.is_open) (s, refused 16) (carried s c)

abbrev pub row_of : Table ℕ → ℕ → List ℕ
row_of t r = row_cells t.cells t.rows t.columns r

-- the rows of a table, a line each
abbrev pub printed : Table ℕ → List ℕ
printed t = flat_map (λ r. row_text (row_of t r)) (range_with_len 0 t.rows)

-- what an accepted command writes
abbrev pub outcome : Command → Table ℕ → List ℕ
outcome Print t = printed t
outcome Remark t = []
outcome c t = done_text t.rows t.columns

abbrev pub told : ℕ → Command → Table ℕ → Answer → List ℕ
told number c t done = outcome c t
told number c t (refused k) = no_text number 1 k

-- a line that was read as this, with its number: the state after it, and what is written of it
abbrev pub obeyed : State → ℕ → Result Command Fault → State × List ℕ
obeyed s number (Err f) = (s, no_text number f.word (number_of f.refusal))
obeyed s number (Ok c) = ((performed s c).0, told number c (performed s c).0.sheet.table (performed s c).1)

-- what is written of a line, by what came of it and the table that the sheet has then
abbrev pub said : Result Command Refused → Table ℕ → List ℕ
said (Ok c) t = outcome c t
said (Err r) t = refused_text r.line r.word r.refusal

-- what is written of the lines, from the one with this number on
abbrev pub transcript : State → ℕ → List (List ℕ) → List ℕ
transcript s number [] = []
transcript s number (line ∷ lines) =
    (obeyed s number (decided line)).1 ++ transcript (obeyed s number (decided line)).0 (number + 1) lines

-- the lines one after another, from the one with this number on, as long as fewer than 65,536 bytes are written: the
-- state then, all that is written, and the lines that are left
abbrev pub played : State → ℕ → List (List ℕ) → List ℕ → State × (List ℕ × List (List ℕ))
played s number [] out = (s, (out, []))
played s number (line ∷ lines) out =
    cond (nat_le 65536 (length out)) (s, (out, line ∷ lines))
    (played (obeyed s number (decided line)).0 (number + 1) lines (out ++ (obeyed s number (decided line)).1))
