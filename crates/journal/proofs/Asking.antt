-- The questions, and what an accepted or a refused change answers.
use Rattle.std.proofs.Common.{◌≡◌, ℕ, Bool, true, cond, List, [], ◌∷◌, ◌++◌, reverse, length, sym, ap, ◌∙◌}
use Rattle.std.proofs.lemmas.List.{length-reverse, length-map}
use Rattle.layout.specs.declared.side.Side.{Side}
use Rattle.model.specs.Sheet.{Change, rows_of, columns_of}
use Rattle.model.specs.Journal as model
use Rattle.model.specs.Journal.{Sheet, Answer, done, refused, first_no, verdict, named_in, has_column, lost_of, unless, after, step, change, rooms}
use Rattle.model.proofs.Counting.{Counts}
use Rattle.model.proofs.Listed.{Numbers}
use Rattle.journal.specs.declared.parts.Parts.{Parts}
use Rattle.moves.specs.Stores.{items}
use Rattle.journal.specs.View.{view, entries_of, runs_of, entry_of, run_of}
use Rattle.journal.specs.Asking.{rooms_with}

pub passes : (n : ℕ) (b : Bool) (qs : List (ℕ × Bool)) (a : Answer) → b ≡ true → a ≡ first_no qs → a ≡ first_no ((n, b) ∷ qs)
passes n b qs a e h = h ∙ ap (λ v. cond v (first_no qs) (refused n)) (sym e)

module _ {A : Type 0} (p : Parts A) where
  pub entries_long : length (entries_of p) ≡ length (items p.entries)
  entries_long = length-map (reverse (items p.entries)) entry_of ∙ length-reverse (items p.entries)

  pub runs_long : length (runs_of p) ≡ length (items p.runs)
  runs_long = length-map (items p.runs) run_of

-- the questions asked of numbers that come to the same
pub asked_as :
    {A : Type 0} (p : Parts A) (a : Answer) (m n k l m' n' k' l' : ℕ) → m ≡ m' → n ≡ n' → k ≡ k' → l ≡ l'
    → a ≡ first_no (rooms (view p) m n k l) → a ≡ first_no (rooms (view p) m' n' k' l')
asked_as p a m n k l m' n' k' l' em en ek el h = h ∙ (λ i. first_no (rooms (view p) (em i) (en i) (ek i) (el i)))

pub asked_with :
    {A : Type 0} (p : Parts A) (side : Side) (a : Answer) (k r l k' r' l' : ℕ) → k ≡ k' → r ≡ r' → l ≡ l'
    → a ≡ first_no (rooms_with p side k r l) → a ≡ first_no (rooms_with p side k' r' l')
asked_with p side a k r l k' r' l' ek er el h = h ∙ (λ i. first_no (rooms_with p side (ek i) (er i) (el i)))

-- the verdict from the numbers: one for all changes
pub verdict_of :
    {A : Type 0} (s : Sheet A) (ch : Change A) (m n : ℕ) (rs : List (ℕ × ℕ)) (l : ℕ) → Numbers s.table ch m n rs l
    → first_no (rooms s m n (length rs) l ++ ((9, has_column s.table ch) ∷ [])) ≡ verdict s ch
verdict_of s ch m n rs l h =
    let b9 = has_column s.table ch in
    let F : ℕ → ℕ → ℕ → ℕ → Bool → Answer = λ m n k l b2. first_no ((2, b2) ∷ (rooms s m n k l ++ ((9, b9) ∷ []))) in
    let M = length (rows_of s.table ch) in
    let N = length (columns_of s.table ch) in
    let K = length (model.runs_of s.table ch) in
    let L = length (lost_of s.table ch) in
    let b2 = named_in s.table ch in
    let k = length rs in
    sym (ap (λ z. F z N K L b2) h.rows ∙ ap (λ z. F m z K L b2) h.columns ∙ ap (λ z. F m n (length z) L b2) h.runs
    ∙ ap (λ z. F m n k z b2) h.lost ∙ ap (λ z. F m n k l z) h.named)

-- where question 9 is answered yes
pub verdict_is :
    {A : Type 0} (s : Sheet A) (ch : Change A) (m n : ℕ) (rs : List (ℕ × ℕ)) (l : ℕ) → Counts s.table ch m n rs l
    → first_no (rooms s m n (length rs) l) ≡ verdict s ch
verdict_is s ch m n rs l h =
    ap (λ b. first_no (rooms s m n (length rs) l ++ ((9, b) ∷ []))) (sym h.columned)
    ∙ verdict_of s ch m n rs l (record { named = h.named; rows = h.rows; columns = h.columns; runs = h.runs; lost = h.lost })

-- what a change comes to, by its verdict
pub stepped : {A : Type 0} (s : Sheet A) (ch : Change A) (a : Answer) → a ≡ verdict s ch → unless a s (after s ch) ≡ step s (change ch)
stepped s ch a e = ap (λ v. unless v s (after s ch)) e
