-- The remaining calls alone lead to the same sheet.
use Rattle.std.proofs.Common.{◌≡◌, ℕ, zero, suc, Bool, true, false, List, [], ◌∷◌, ◌++◌, reverse, length, drop, replicate, sym, refl, ap, ◌∙◌, subst}
use mathlib.Core.List.{reverse-cons}
use Rattle.model.specs.Sheet.{Change, Table}
use Rattle.model.specs.Journal.{Sheet, Room, Answer, done, refused, Call, change, undo, settle, first_no, tests, verdict, named_in, unless, after, step, run, opened, Right}
use Rattle.model.specs.History.{entered, remaining, remains, final, TakesBack, Replay}
use Rattle.model.proofs.Undo.{right_changed, undo_after}

abbrev is_done : Answer → Type 0
is_done done = Unit {0}
is_done (refused n) = ⊥

pub not_done : (n : ℕ) → refused n ≡ done → ⊥
not_done n e = subst is_done (sym e) tt

-- what an accepted change was tested for
pub first_passed : (n : ℕ) (b : Bool) (qs : List (ℕ × Bool)) → first_no ((n, b) ∷ qs) ≡ done → b ≡ true
first_passed n true qs e = refl
first_passed n false qs e = absurd (not_done n e)

unless_done : {A : Type 0} (v : Answer) (s s' : Sheet A) → (unless v s s').1 ≡ done → v ≡ done
unless_done done s s' e = refl
unless_done (refused n) s s' e = absurd (not_done n e)

module _ {A : Type 0} (s : Sheet A) (ch : Change A) (ok : (step s (change ch)).1 ≡ done) where
  pub accepted : verdict s ch ≡ done
  accepted = unless_done (verdict s ch) s (after s ch) ok

  pub accepted_there : named_in s.table ch ≡ true
  accepted_there = first_passed 2 (named_in s.table ch) (drop 1 (tests s ch)) accepted

  pub accepted_after : (step s (change ch)).0 ≡ after s ch
  accepted_after = ap (λ v. (unless v s (after s ch)).0) accepted

module _ {A : Type 0} (t : Table A) (room : Room) where
  -- the sheet after these calls, the newest first
  abbrev pub reach : List (Call A) → Sheet A
  reach [] = opened t room
  reach (c ∷ past) = (step (reach past) c).0

  abbrev pub Lasts : Call A → Type 0
  Lasts (change ch) = Unit {0}
  Lasts undo = ⊥
  Lasts settle = Unit {0}

  abbrev pub Accepts : List (Call A) → Type 0
  Accepts [] = Unit {0}
  Accepts (c ∷ past) = Lasts c × ((step (reach past) c).1 ≡ done) × Accepts past

  module _ (right : Right t) where
    pub right_reach : (past : List (Call A)) → Accepts past → Right (reach past).table
    right_reach [] ok = right
    right_reach (change ch ∷ past) ok =
        let s = reach past in
        subst (λ (z : Sheet A). Right z.table) (sym (accepted_after s ch ok.1))
        (right_changed s.table ch (right_reach past ok.2) (accepted_there s ch ok.1))
    right_reach (undo ∷ past) ok = absurd ok.0
    right_reach (settle ∷ past) ok = right_reach past ok.2

    -- one more call
    abbrev Goes : Call A → List (Call A) → Sheet A × Answer → Type 0
    Goes c past z = (reach (entered c z.1 past) ≡ z.0) × Accepts (entered c z.1 past)

    goes : (c : Call A) (past : List (Call A)) → Accepts past → Goes c past (step (reach past) c)
    goes (change ch) past ok = go (verdict s ch) refl
      where
        s : Sheet A
        s = reach past

        go : (v : Answer) → verdict s ch ≡ v → Goes (change ch) past (unless v s (after s ch))
        go done e = (ap (λ v. (unless v s (after s ch)).0) e, (tt, ap (λ v. (unless v s (after s ch)).1) e, ok))
        go (refused n) e = (refl, ok)
    goes undo [] ok = (refl, tt)
    goes undo (change ch ∷ past) ok =
        let s = reach past in
        let there = accepted_there s ch ok.1 in
        let back = undo_after s ch (right_reach past ok.2) there in
        let e : step (reach (change ch ∷ past)) undo ≡ (s, done) =
        ap (λ z. step z undo) (accepted_after s ch ok.1) ∙ ap (λ z. (z, done)) back in
        subst (Goes undo (change ch ∷ past)) (sym e) (refl, ok.2)
    goes undo (undo ∷ past) ok = absurd ok.0
    goes undo (settle ∷ past) ok = (refl, ok)
    goes settle past ok = (refl, (tt, refl, ok))

    abbrev Comes : List (Call A) → List (Call A) → Sheet A → Type 0
    Comes past cs s = (reach (remaining s past cs) ≡ (run s cs).0) × Accepts (remaining s past cs)

    comes : (cs past : List (Call A)) → Accepts past → Comes past cs (reach past)
    comes [] past ok = (refl, ok)
    comes (c ∷ cs) past ok =
        let z = step (reach past) c in
        let g = goes c past ok in
        subst (Comes (entered c z.1 past) cs) g.0 (comes cs (entered c z.1 past) g.1)

    pub all_come : (cs : List (Call A)) → Comes [] cs (opened t room)
    all_come cs = comes cs [] tt

-- the calls in order

pub run_more :
    {A : Type 0} (s : Sheet A) (xs : List (Call A)) (c : Call A)
    → run s (xs ++ c ∷ []) ≡ ((step (run s xs).0 c).0, (run s xs).1 ++ (step (run s xs).0 c).1 ∷ [])
run_more s [] c = refl
run_more s (x ∷ xs) c = ap (λ z. (z.0, (step s x).1 ∷ z.1)) (run_more (step s x).0 xs c)

more_done : (n : ℕ) → replicate n done ++ done ∷ [] ≡ done ∷ replicate n done
more_done zero = refl
more_done (suc n) = ap (λ z. done ∷ z) (more_done n)

in_order :
    {A : Type 0} (t : Table A) (room : Room) (past : List (Call A)) → Accepts t room past
    → run (opened t room) (reverse past) ≡ (reach t room past, replicate (length past) done)
in_order t room [] ok = refl
in_order {A} t room (c ∷ past) ok =
    ap (run (opened t room)) (reverse-cons c past)
    ∙ run_more (opened t room) (reverse past) c
    ∙ ap (λ (z : Sheet A × List Answer). ((step z.0 c).0, z.1 ++ (step z.0 c).1 ∷ [])) (in_order t room past ok.2)
    ∙ ap (λ a. (reach t room (c ∷ past), replicate (length past) done ++ a ∷ [])) ok.1
    ∙ ap (λ z. (reach t room (c ∷ past), z)) (more_done (length past))

pub replay : (A : Type 0) → Replay A
replay A t room right calls =
    let past = remains t room calls in
    let w = all_come t room right calls in
    let o = in_order t room past w.1 in
    let same : final t room (reverse past) ≡ final t room calls = ap (λ z. z.0) o ∙ w.0 in
    record { same = same; accepted = ap (λ z. z.1) o; answers = λ more. ap (λ s. (run s more).1) same }

pub takes_back : (A : Type 0) → TakesBack A
takes_back A s right ch ok =
    let yes : (step s (change ch)).1 ≡ done = ap (λ v. (unless v s (after s ch)).1) ok in
    ap (λ z. step z undo) (accepted_after s ch yes)
    ∙ ap (λ z. (z, done)) (undo_after s ch right (accepted_there s ch yes))
