-- What a journal begins with, and what is entered in it.
use Rattle.std.specs.Prelude.{◌≡◌, ℕ, List}
use Rattle.moves.specs.Stores.{Emptied, stands}
use Rattle.journal.specs.declared.parts.Note.{Note}
use Rattle.journal.specs.declared.parts.Run.{Run}
use Rattle.journal.specs.declared.parts.Entry.{Entry}
use Rattle.journal.specs.declared.parts.Parts.{Parts}

-- a table of no cell over the first buffer, and an empty journal over the others
pub record Holds {A : Type 0} (p : Parts A) (buffer : List A) (es : List Entry) (rs : List Run) (ks : List A) : Type 0 where
  pub rows : p.table.rows ≡ 0
  pub columns : p.table.columns ≡ 0
  pub cells : p.table.cells.now ≡ buffer
  pub entries : Emptied p.entries es
  pub runs : Emptied p.runs rs
  pub saved : Emptied p.saved ks

-- the entry of a change, with so many runs and saved cells of its own
abbrev pub entry_for : {A : Type 0} → Parts A → Note → ℕ → ℕ → Entry
entry_for p note runs cells = record { note = note; rows = p.table.rows; columns = p.table.columns; runs = runs; cells = cells }

-- the same table, and in the same places an empty journal
pub record Cleared {A : Type 0} (p q : Parts A) : Type 0 where
  pub table : q.table ≡ p.table
  pub entries : Emptied q.entries (stands p.entries)
  pub runs : Emptied q.runs (stands p.runs)
  pub saved : Emptied q.saved (stands p.saved)
