-- A call from its questions and its work: the same for every change of either side.
use Rattle.std.proofs.Common.{◌≡◌, ℕ, ◌*◌, List, [], ◌∷◌, ◌++◌, map, reverse, length, take, Ok, Err, sym, refl, ap, ◌∙◌, subst, ap₂, append-nil}
use Rattle.std.proofs.lemmas.List.{length-take-le}
use Rattle.layout.specs.declared.refusal.Refusal.{Refusal}
use Rattle.layout.specs.Refusals.{number_of}
use Rattle.model.specs.Sheet.{Change}
use Rattle.model.specs.Journal as model
use Rattle.model.specs.Journal.{Sheet, Room, Right, done, refused, first_no, verdict, tests, named_in, after, change, lost_of, settled, rooms}
use Rattle.model.proofs.Counting.{Counts}
use Rattle.model.proofs.Reaching.{still_reached}
use Rattle.model.proofs.Replays.{not_done}
use Rattle.moves.specs.declared.store.Store.{Store}
use Rattle.moves.specs.declared.vec_storage.Table.{Table}
use Rattle.moves.specs.Stores.{Grown, items}
use Rattle.journal.specs.declared.parts.Entry.{Entry}
use Rattle.journal.specs.declared.parts.Parts.{Parts}
use Rattle.journal.specs.View.{view, table_of, entries_of, runs_of, saved_of, entry_of, run_of}
use Rattle.journal.specs.Entering.{Cleared, entry_for}
use Rattle.journal.specs.Answering.{Held, Answers, Performed}
use Rattle.journal.proofs.Asking.{stepped, verdict_is}
use Rattle.journal.proofs.Entries.{entry_more}

pub same_sheet : {A : Type 0} (s s' : Sheet A) → s.table.rows ≡ s'.table.rows → s.table.columns ≡ s'.table.columns → s.table.cells ≡ s'.table.cells
    → s.entries ≡ s'.entries → s.runs ≡ s'.runs → s.saved ≡ s'.saved → s.room ≡ s'.room → s ≡ s'
same_sheet s s' a b c d e f g = λ i. record {
  table = record { rows = a i; columns = b i; cells = c i };
  entries = d i;
  runs = e i;
  saved = f i;
  room = g i;
}

pub same_room : (a b c d a' b' c' d' : ℕ) → a ≡ a' → b ≡ b' → c ≡ c' → d ≡ d'
    → ◌≡◌ {A = Room} (record { for_cells = a; for_entries = b; for_runs = c; for_saved = d }) (record { for_cells = a'; for_entries = b'; for_runs = c'; for_saved = d' })
same_room a b c d a' b' c' d' e f g h = λ i. record { for_cells = e i; for_entries = f i; for_runs = g i; for_saved = h i }

-- a table has as many cells as its shape says
pub right : {A : Type 0} (p : Parts A) → Right (table_of p)
right p = length-take-le (p.table.rows * p.table.columns) p.table.cells.now p.table.fits

module _ {A : Type 0} (p q : Parts A) (ch : Change A) (m n : ℕ) (rs : List (ℕ × ℕ)) (l : ℕ)
    (counts : Counts (table_of p) ch m n rs l) (w : Performed p q ch m n rs l) where
  performed_view : view q ≡ after (view p) ch
  performed_view =
      same_sheet (view q) (after (view p) ch)
      (w.rows ∙ sym counts.rows) (w.columns ∙ sym counts.columns)
      (ap (λ k. take k q.table.cells.now) (ap₂ ◌*◌ w.rows w.columns) ∙ w.cells)
      (ap (λ zs. map entry_of (reverse zs)) w.entries.more ∙ entry_more (items p.entries) (entry_for p w.note (length rs) l)
      ∙ ap (λ z. z ∷ entries_of p) same_entry)
      (w.runs ∙ ap (λ zs. runs_of p ++ zs) (sym counts.runs))
      w.saved
      w.room
    where
      same_entry : entry_of (entry_for p w.note (length rs) l) ≡ model.entry_of (table_of p) ch
      same_entry = λ i. record {
        note = w.noted i;
        rows_were = p.table.rows;
        columns_were = p.table.columns;
        runs_own = ap length (sym counts.runs) i;
        cells_own = sym counts.lost i;
      }

  -- a change that all questions let pass, carried out
  pub accepted : Held p → done ≡ first_no (rooms (view p) m n (length rs) l) → Answers p q (change ch) (Ok tt)
  accepted h e =
      let f = e ∙ verdict_is (view p) ch m n rs l counts in
      let t = stepped (view p) ch done f in
      let s = performed_view ∙ ap (λ z. z.0) t in
      record {
        which = ap (λ z. z.1) t;
        state = s;
        same = λ k z. absurd (not_done k (sym z));
        held = still_reached (view p) (view q) (change ch) s h;
      }

-- a change that is refused
pub refuses : {A : Type 0} (p : Parts A) (ch : Change A) (e : Refusal) → Held p → refused (number_of e) ≡ verdict (view p) ch → Answers p p (change ch) (Err e)
refuses p ch e h f = record {
  which = ap (λ z. z.1) (stepped (view p) ch (refused (number_of e)) f);
  state = ap (λ z. z.0) (stepped (view p) ch (refused (number_of e)) f);
  same = λ k z. refl;
  held = h;
}

-- by one of the questions 3 to 7
pub full : {A : Type 0} (p : Parts A) (ch : Change A) (m n : ℕ) (rs : List (ℕ × ℕ)) (l : ℕ) → Counts (table_of p) ch m n rs l
    → (e : Refusal) → Held p → refused (number_of e) ≡ first_no (rooms (view p) m n (length rs) l) → Answers p p (change ch) (Err e)
full p ch m n rs l counts e h f = refuses p ch e h (f ∙ verdict_is (view p) ch m n rs l counts)

-- where no cell is lost, the saved cells stand
pub nothing_lost : {A : Type 0} (p : Parts A) (ch : Change A) → lost_of (table_of p) ch ≡ [] → saved_of p ≡ saved_of p ++ lost_of (table_of p) ch
nothing_lost p ch e = sym (append-nil (saved_of p)) ∙ ap (λ ks. saved_of p ++ ks) (sym e)

-- the entry that was made is the one that was entered
pub entered : {A : Type 0} (p : Parts A) (es : Store Entry) (e f : Entry) → e ≡ f → Grown p.entries es (e ∷ []) → Grown p.entries es (f ∷ [])
entered p es e f same h = subst (λ z. Grown p.entries es (z ∷ [])) same h

pub cleared : {A : Type 0} (p q : Parts A) → Cleared p q → view q ≡ settled (view p)
cleared {A} p q w =
    same_sheet (view q) (settled (view p)) (ap (λ (t : Table A). t.rows) w.table) (ap (λ (t : Table A). t.columns) w.table)
    (ap (λ (t : Table A). take (t.rows * t.columns) t.cells.now) w.table)
    (ap (λ zs. map entry_of (reverse zs)) w.entries.none) (ap (map run_of) w.runs.none) w.saved.none
    (same_room _ _ _ _ _ _ _ _ (ap (λ (t : Table A). length t.cells.now) w.table) (ap length w.entries.stand) (ap length w.runs.stand) (ap length w.saved.stand))
