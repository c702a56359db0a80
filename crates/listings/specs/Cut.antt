-- Runs of lines of a sheet, and what taking them out leaves.
use Rattle.std.specs.Prelude.{◌≡◌, ℕ, ◌-◌, ◌≤◌, List, [], ◌∷◌, map, length}
use Rattle.layout.specs.declared.side.Side.{Side}
use Rattle.moves.specs.Blocks.{Shaped, cells_of, count_of}
use Rattle.moves.specs.Stores.{Grown}
use Rattle.journal.specs.declared.parts.Note.TheVariants.{ListedRemoval}
use Rattle.journal.specs.declared.parts.Run.{Run}
use Rattle.journal.specs.declared.parts.Parts.{Parts}
use Rattle.journal.specs.View.{run_of}
use Rattle.journal.specs.Entering.{entry_for}
use Rattle.listed.specs.Runs.{Rising}
use Rattle.listed.specs.Cuts.{Behind, cut, lying, spared}

-- the runs lie in the side one behind the other, and have `gone` lines
pub record Own {A : Type 0} (p : Parts A) (side : Side) (own : List Run) (gone : ℕ) : Type 0 where
  pub rising : Rising 0 (map run_of own) (count_of p.table side)
  pub there : gone ≤ count_of p.table side
  pub counted : cells_of p.table side gone ≡ length (cut (lying side p.table) p.table.cells.now own)

-- the runs are saved and taken out, and the change is entered
pub record Cut {A : Type 0} (p q : Parts A) (side : Side) (own : List Run) (gone : ℕ) : Type 0 where
  pub cells : Behind p.table.cells.now q.table.cells.now 0 (spared (lying side p.table) p.table.cells.now own)
  pub saved : Grown p.saved q.saved (cut (lying side p.table) p.table.cells.now own)
  pub runs : Grown p.runs q.runs own
  pub entries : Grown p.entries q.entries (entry_for p (ListedRemoval side) (length own) (cells_of p.table side gone) ∷ [])
  pub shape : Shaped p.table q.table side (count_of p.table side - gone)
