-- What every undo leaves besides the cells.
use Rattle.std.specs.Prelude.{◌≡◌, ◌-◌, ◌*◌, ◌<◌, ◌≤◌, List, ◌∷◌, map, reverse, length, take}
use Rattle.moves.specs.Stores.{Shortened, items}
use Rattle.journal.specs.declared.parts.Entry.{Entry}
use Rattle.journal.specs.declared.parts.Parts.{Parts}
use Rattle.journal.specs.View.{entries_of, entry_of}
use Rattle.model.specs.Journal as model

-- the entries below the newest
abbrev pub below : {A : Type 0} → Parts A → List model.Entry
below p = map entry_of (reverse (take (length (items p.entries) - 1) (items p.entries)))

-- this entry is the newest: of an entry and the parts that it was read off, which are lent apart from it, so it is a word
-- and no field of either
abbrev pub Newest : {A : Type 0} → Parts A → Entry → Type 0
Newest p entry = entries_of p ≡ entry_of entry ∷ below p

-- there is an entry to free, and so many runs and saved cells; the shape before it is one of few lines, and there is room
-- for it
pub record Leaves {A : Type 0} (p : Parts A) (entry : Entry) : Type 0 where
  pub entries : 0 < length (items p.entries)
  pub runs : entry.runs ≤ length (items p.runs)
  pub saved : entry.cells ≤ length (items p.saved)
  pub rows : entry.rows ≤ 4096
  pub columns : entry.columns ≤ 4096
  pub cells : entry.rows * entry.columns ≤ length p.table.cells.now

-- the shape before the entry, and the entry, its runs and its saved cells freed
pub record TakesBack {A : Type 0} (p q : Parts A) (entry : Entry) : Type 0 where
  pub rows : q.table.rows ≡ entry.rows
  pub columns : q.table.columns ≡ entry.columns
  pub entries : Shortened p.entries q.entries 1
  pub runs : Shortened p.runs q.runs entry.runs
  pub saved : Shortened p.saved q.saved entry.cells
  pub cells_long : length q.table.cells.now ≡ length p.table.cells.now
