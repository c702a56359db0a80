-- A gap in the buffers of a sheet: how it is opened, and how it is filled.
use Rattle.std.specs.Prelude.{◌≡◌, ℕ, ◌+◌, ◌≤◌, List, [], ◌∷◌, Result, MatchResult}
use Rattle.layout.specs.declared.refusal.Refusal.{Refusal}
use Rattle.layout.specs.declared.side.Side.{Side}
use Rattle.moves.specs.Blocks.{SameShape, Shaped, block_in, count_of}
use Rattle.moves.specs.Stores.{Grown}
use Rattle.moves.specs.Tables.{Extended}
use Rattle.model.specs.Sheet.{fill_lines}
use Rattle.model.specs.Journal.{change, verdict}
use Rattle.journal.specs.declared.parts.Note.{Note}
use Rattle.journal.specs.declared.parts.Parts.{Parts}
use Rattle.journal.specs.View.{answered, side_of, view}
use Rattle.journal.specs.Asking.{FitsWith}
use Rattle.journal.specs.Entering.{entry_for}
use Rattle.journal.specs.Answering.{Answers, Held}
use Rattle.gaps.specs.Taken.{RowsTaken}

-- n lines can come in at i: the place is there, and so is the room for their cells and for the entry
pub record Roomy {A : Type 0} (p : Parts A) (side : Side) (i n : ℕ) : Type 0 where
  pub there : i ≤ count_of p.table side
  pub fits : FitsWith p side (count_of p.table side + n) 0 0

-- q is p with its cells moved apart for n lines at i, between which stands what stood there
pub record Parted {A : Type 0} (p q : Parts A) (side : Side) (i n : ℕ) : Type 0 where
  pub room : Roomy p side i n
  pub cells : Extended p.table.cells.now q.table.cells.now (block_in p.table side i n)
  pub shape : SameShape p.table q.table
  pub entries : q.entries ≡ p.entries
  pub runs : q.runs ≡ p.runs
  pub saved : q.saved ≡ p.saved

-- a refused gap is empty
abbrev pub Opened : {A : Type 0} → (p q : Parts A) → Side → (i n : ℕ) → Result Unit Refusal → Type 0
Opened p q side i n r = MatchResult r (λ _. Parted p q side i n) (λ _. q ≡ p)

-- the answer is the model's, whatever the gap is filled with
abbrev pub Asked : {A : Type 0} → Parts A → Side → (i n : ℕ) → Result Unit Refusal → Type 0
Asked {A} p side i n r = (vs : List A) (v : A) → answered r ≡ verdict (view p) (fill_lines (side_of side) i n vs v)

-- q is what a gap of n lines at i left of a sheet's parts p, and r is the answer
pub record Gap {A : Type 0} (p q : Parts A) (side : Side) (i n : ℕ) (r : Result Unit Refusal) : Type 0 where
  pub held : Held p
  pub which : Asked p side i n r
  pub opened : Opened p q side i n r

-- a gap was opened in some sheet's parts, and q was left of them
pub record Left {A : Type 0} (q : Parts A) (side : Side) (i n : ℕ) (r : Result Unit Refusal) : Type 0 where
  pub former : Parts A
  pub gap : Gap former q side i n r

-- q is p with the lines counted, the list, and v behind it, in the gap's cells, and the entry made
pub record Filled {A : Type 0} (p q : Parts A) (side : Side) (i n : ℕ) (vs : List A) (v : A) : Type 0 where
  pub shape : Shaped p.table q.table side (count_of p.table side + n)
  pub cells : RowsTaken p.table.cells.now q.table.cells.now (block_in q.table side i n) vs v
  pub entries : Grown p.entries q.entries (entry_for p (Note.Gap side i n) 0 0 ∷ [])
  pub runs : q.runs ≡ p.runs
  pub saved : q.saved ≡ p.saved

-- filling a gap answers, from whatever parts it was opened in, as the model does
abbrev pub Fills : {A : Type 0} → (q q' : Parts A) → Side → (i n : ℕ) → Result Unit Refusal → List A → A → Type 0
Fills {A} q q' side i n r vs v =
    (p : Parts A) → Gap p q side i n r → Answers p q' (change (fill_lines (side_of side) i n vs v)) r
