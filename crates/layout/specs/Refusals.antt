-- The number of each question, by the refusal that answers it.
use Rattle.std.specs.Prelude.{ℕ}
use Rattle.layout.specs.declared.refusal.Refusal.{Refusal}
use Rattle.layout.specs.declared.refusal.Refusal.TheVariants.{BufferTooLarge, NoSuchLine, TooManyLines, TooManyCells, JournalFull, RunsFull, SavedFull, NothingToUndo, NoColumn, BufferTooShort, ShapesDiffer, NotSquare, CellsMeet, NoCommand, BadNumber, NoSheet}

abbrev pub number_of : Refusal → ℕ
number_of BufferTooLarge = 1
number_of NoSuchLine = 2
number_of TooManyLines = 3
number_of TooManyCells = 4
number_of JournalFull = 5
number_of RunsFull = 6
number_of SavedFull = 7
number_of NothingToUndo = 8
number_of NoColumn = 9
number_of BufferTooShort = 10
number_of ShapesDiffer = 11
number_of NotSquare = 12
number_of CellsMeet = 13
number_of NoCommand = 14
number_of BadNumber = 15
number_of NoSheet = 16
