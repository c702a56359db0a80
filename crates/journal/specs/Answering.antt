-- How a change on the buffers answers, and what its work leaves.
use Rattle.std.specs.Prelude.{◌≡◌, ℕ, ◌*◌, List, [], ◌∷◌, ◌++◌, length, take, Result}
use Rattle.layout.specs.declared.refusal.Refusal.{Refusal}
use Rattle.moves.specs.Stores.{Grown}
use Rattle.journal.specs.declared.parts.Note.{Note}
use Rattle.journal.specs.declared.parts.Parts.{Parts}
use Rattle.journal.specs.View.{answered, note_of, room_of, runs_of, saved_of, table_of, view}
use Rattle.journal.specs.Entering.{entry_for}
use Rattle.model.specs.Sheet.{Change, changed}
use Rattle.model.specs.Journal as model
use Rattle.model.specs.Journal.{Call, lost_of, refused, step}
use Rattle.model.specs.Reached.{Reachable}

-- the parts are those of a sheet: some opening and some calls lead to what they hold. `Sheet` has it as a ghost field;
-- parts have not, since a change has them on the way between two sheets
abbrev pub Held : {A : Type 0} → Parts A → Type 0
Held p = Reachable (view p)

-- the answer and the state after are the model's, and a refusal, by its number as the model has it, alters nothing
pub record Answers {A : Type 0} (p q : Parts A) (call : Call A) (r : Result Unit Refusal) : Type 0 where
  pub which : answered r ≡ (step (view p) call).1
  pub state : view q ≡ (step (view p) call).0
  pub same : (k : ℕ) → answered r ≡ refused k → q ≡ p
  pub held : Held q

-- the change is carried out: the table is its table of m rows and n columns, the lost cells stand behind the saved
-- ones, its runs behind the runs, and its entry behind the entries
pub record Performed {A : Type 0} (p q : Parts A) (ch : Change A) (m n : ℕ) (rs : List (ℕ × ℕ)) (l : ℕ) : Type 0 where
  pub note : Note
  pub noted : note_of note ≡ model.note_of ch
  pub rows : q.table.rows ≡ m
  pub columns : q.table.columns ≡ n
  pub cells : take (m * n) q.table.cells.now ≡ (changed (table_of p) ch).cells
  pub saved : saved_of q ≡ saved_of p ++ lost_of (table_of p) ch
  pub runs : runs_of q ≡ runs_of p ++ rs
  pub entries : Grown p.entries q.entries (entry_for p note (length rs) l ∷ [])
  pub room : room_of q ≡ room_of p
