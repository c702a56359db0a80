-- The questions of a listed removal, the ninth among them.
use Rattle.std.proofs.Common.{◌≡◌, ℕ, Bool, true, false, cond, List, [], ◌∷◌, ◌++◌, length, Err, sym, refl, ap, ◌∙◌}
use Rattle.layout.specs.declared.refusal.Refusal.{Refusal}
use Rattle.layout.specs.Refusals.{number_of}
use Rattle.model.specs.Sheet.{Change}
use Rattle.model.specs.Journal.{done, refused, first_no, has_column, change, rooms}
use Rattle.model.proofs.Replays.{not_done}
use Rattle.model.proofs.Listed.{Numbers}
use Rattle.journal.specs.declared.parts.Parts.{Parts}
use Rattle.journal.specs.View.{view, table_of}
use Rattle.journal.specs.Answering.{Held, Answers}
use Rattle.journal.proofs.Asking.{verdict_of}
use Rattle.journal.proofs.Answering.{refuses}

-- a no among the first questions is the answer to all
refused_early : (qs rs : List (ℕ × Bool)) (k : ℕ) → refused k ≡ first_no qs → refused k ≡ first_no (qs ++ rs)
refused_early [] rs k e = absurd (not_done k e)
refused_early (q ∷ qs) rs k e = go q.1 (refused_early qs rs k) e
  where
    go :
        (b : Bool) → (refused k ≡ first_no qs → refused k ≡ first_no (qs ++ rs)) → refused k ≡ cond b (first_no qs) (refused q.0)
        → refused k ≡ cond b (first_no (qs ++ rs)) (refused q.0)
    go true ih f = ih f
    go false ih f = f

-- where the first are answered yes, the rest decides
passed : (qs rs : List (ℕ × Bool)) → done ≡ first_no qs → first_no rs ≡ first_no (qs ++ rs)
passed [] rs e = refl
passed (q ∷ qs) rs e = go q.1 (passed qs rs) e
  where
    go :
        (b : Bool) → (done ≡ first_no qs → first_no rs ≡ first_no (qs ++ rs)) → done ≡ cond b (first_no qs) (refused q.0)
        → first_no rs ≡ cond b (first_no (qs ++ rs)) (refused q.0)
    go true ih f = ih f
    go false ih f = absurd (not_done q.0 (sym f))

module _ {A : Type 0} (p : Parts A) (ch : Change A) (m n : ℕ) (rs : List (ℕ × ℕ)) (l : ℕ) (numbers : Numbers (table_of p) ch m n rs l) (h : Held p) where
  -- by one of the questions 3 to 7, whether a column is there or not
  pub stopped_early : (e : Refusal) → refused (number_of e) ≡ first_no (rooms (view p) m n (length rs) l) → Answers p p (change ch) (Err e)
  stopped_early e f =
      refuses p ch e h (refused_early (rooms (view p) m n (length rs) l) ((9, has_column (table_of p) ch) ∷ []) (number_of e) f ∙ verdict_of (view p) ch m n rs l numbers)

  -- by question 9
  pub columnless : done ≡ first_no (rooms (view p) m n (length rs) l) → has_column (table_of p) ch ≡ false → Answers p p (change ch) (Err Refusal.NoColumn)
  columnless f none =
      refuses p ch Refusal.NoColumn h (ap (λ b. first_no ((9, b) ∷ [])) (sym none) ∙ passed (rooms (view p) m n (length rs) l) ((9, has_column (table_of p) ch) ∷ []) f ∙ verdict_of (view p) ch m n rs l numbers)
