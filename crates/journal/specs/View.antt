-- The buffers read as the model's sheet.
use Rattle.std.specs.Prelude.{ℕ, ◌*◌, List, map, reverse, length, take, Ok, Err, Result}
use Rattle.layout.specs.declared.refusal.Refusal.{Refusal}
use Rattle.layout.specs.Refusals.{number_of}
use Rattle.layout.specs.declared.side.Side.{Side}
use Rattle.layout.specs.declared.side.Side.TheVariants.{Rows, Columns}
use Rattle.journal.specs.declared.parts.Note.{Note}
use Rattle.journal.specs.declared.parts.Note.TheVariants.{Insertion, Removal, ListedRemoval, Exchange, Gap, Resizing}
use Rattle.journal.specs.declared.parts.Run.{Run}
use Rattle.journal.specs.declared.parts.Entry.{Entry}
use Rattle.journal.specs.declared.parts.Parts.{Parts}
use Rattle.moves.specs.Stores.{items, room}
use Rattle.model.specs.Sheet as lines
use Rattle.model.specs.Sheet.{Table}
use Rattle.model.specs.Journal as model
use Rattle.model.specs.Journal.{Room, Sheet, Answer, done, refused}

abbrev pub side_of : Side → lines.Side
side_of Rows = lines.row
side_of Columns = lines.column

abbrev pub note_of : Note → model.Note
note_of (Insertion s i n) = model.insertion (side_of s) i n
note_of (Removal s i n) = model.removal (side_of s) i n
note_of (ListedRemoval s) = model.listed_removal (side_of s)
note_of (Exchange s i j) = model.exchange (side_of s) i j
note_of (Gap s i n) = model.gap (side_of s) i n
note_of (Resizing m n) = model.resizing m n

abbrev pub entry_of : Entry → model.Entry
entry_of e = record {
  note = note_of e.note;
  rows_were = e.rows;
  columns_were = e.columns;
  runs_own = e.runs;
  cells_own = e.cells;
}

abbrev pub run_of : Run → ℕ × ℕ
run_of r = (r.offset, r.length)

abbrev pub table_of : {A : Type 0} → Parts A → Table A
table_of p = record { rows = p.table.rows; columns = p.table.columns; cells = take (p.table.rows * p.table.columns) p.table.cells.now }

-- the newest entry first
abbrev pub entries_of : {A : Type 0} → Parts A → List model.Entry
entries_of p = map entry_of (reverse (items p.entries))

abbrev pub runs_of : {A : Type 0} → Parts A → List (ℕ × ℕ)
runs_of p = map run_of (items p.runs)

abbrev pub saved_of : {A : Type 0} → Parts A → List A
saved_of p = items p.saved

-- a buffer's length is the room in it
abbrev pub room_of : {A : Type 0} → Parts A → Room
room_of p = record {
  for_cells = length p.table.cells.now;
  for_entries = room p.entries;
  for_runs = room p.runs;
  for_saved = room p.saved;
}

-- what stands beyond the table and beyond a store's items does not count
abbrev pub view : {A : Type 0} → Parts A → Sheet A
view p = record { table = table_of p; entries = entries_of p; runs = runs_of p; saved = saved_of p; room = room_of p }

-- the number of the first question that was answered no, or none
abbrev pub answered : Result Unit Refusal → Answer
answered (Ok _) = done
answered (Err e) = refused (number_of e)
