-- One more call, and what every reachable sheet keeps to.
use Rattle.std.proofs.Common.{◌≡◌, ℕ, ◌+◌, ◌*◌, Bool, true, false, cond, ◌&&◌, ltb, leb, List, [], ◌∷◌, ◌++◌, length, drop, sym, refl, ap, ◌∙◌, subst, arith, length-append}
use mathlib.Core.Logic.{∥∥₁_elim, ∥∥₁_map}
use native.Mathlib.Nat.{ℕ_set}
use native.Mathlib.Bridge.{le_prop}
use Rattle.std.proofs.lemmas.Bool.{and_parts, leb-true, ltb-true}
use Rattle.model.specs.Sheet.{Change, Table, rows_of, columns_of}
use Rattle.model.specs.Journal.{Sheet, Room, Entry, done, Call, change, undo, settle, first_no, tests, verdict, after, before, taken_back, step, opened, runs_of, lost_of, has_column, named_in}
use Rattle.model.specs.History.{remains}
use Rattle.model.specs.Reached.{Within, Reached, Reachable, Bounds, Newest}
use Rattle.model.proofs.Replays.{first_passed, accepted, accepted_after, reach, Accepts, all_come, run_more}
use Rattle.model.proofs.Undo.{right_changed, undo_after}

pub opened_reached : {A : Type 0} (t : Table A) (room : Room) → Within t room → Reachable (opened t room)
opened_reached t room h = ∣ record { table = t; room = room; within = h; calls = []; is = refl } ∣₁

-- one more call
pub step_reached : {A : Type 0} (s : Sheet A) (c : Call A) → Reachable s → Reachable (step s c).0
step_reached s c h = ∥∥₁_map h (λ w. record {
  table = w.table;
  room = w.room;
  within = w.within;
  calls = w.calls ++ c ∷ [];
  is = ap (λ z. z.0) (run_more (opened w.table w.room) w.calls c) ∙ ap (λ z. (step z c).0) w.is;
})

pub still_reached : {A : Type 0} (s s' : Sheet A) (c : Call A) → s' ≡ (step s c).0 → Reachable s → Reachable s'
still_reached s s' c e h = subst Reachable (sym e) (step_reached s c h)

-- the answers of an accepted change's tests
rest_passed : (n : ℕ) (b : Bool) (qs : List (ℕ × Bool)) → b ≡ true → first_no ((n, b) ∷ qs) ≡ done → first_no qs ≡ done
rest_passed n true qs e h = h
rest_passed n false qs e h = absurd (let z : false ≡ true = e in absurd (false_true z))
  where
    false_true : false ≡ true → ⊥
    false_true e = subst (λ (b : Bool). cond b ⊥ (Unit {0})) e tt

module _ {A : Type 0} (s : Sheet A) (ch : Change A) (ok : verdict s ch ≡ done) where
  t : Table A
  t = s.table

  -- tests 2 to 7, one after another
  pub bounds_after : Bounds s → Bounds (after s ch)
  bounds_after b =
      let m = length (rows_of s.table ch) in
      let n = length (columns_of s.table ch) in
      let q2 = named_in s.table ch in
      let q3 = leb m 4096 && leb n 4096 in
      let q4 = leb (m * n) s.room.for_cells in
      let q5 = ltb (length s.entries) s.room.for_entries in
      let q6 = leb (length s.runs + length (runs_of s.table ch)) s.room.for_runs in
      let q7 = leb (length s.saved + length (lost_of s.table ch)) s.room.for_saved in
      let r7 : List (ℕ × Bool) = (9, has_column s.table ch) ∷ [] in
      let r6 : List (ℕ × Bool) = (7, q7) ∷ r7 in
      let r5 : List (ℕ × Bool) = (6, q6) ∷ r6 in
      let r4 : List (ℕ × Bool) = (5, q5) ∷ r5 in
      let r3 : List (ℕ × Bool) = (4, q4) ∷ r4 in
      let r2 : List (ℕ × Bool) = (3, q3) ∷ r3 in
      let p2 = first_passed 2 q2 r2 ok in
      let o2 = rest_passed 2 q2 r2 p2 ok in
      let p3 = first_passed 3 q3 r3 o2 in
      let o3 = rest_passed 3 q3 r3 p3 o2 in
      let p4 = first_passed 4 q4 r4 o3 in
      let o4 = rest_passed 4 q4 r4 p4 o3 in
      let p5 = first_passed 5 q5 r5 o4 in
      let o5 = rest_passed 5 q5 r5 p5 o4 in
      let p6 = first_passed 6 q6 r6 o5 in
      let o6 = rest_passed 6 q6 r6 p6 o5 in
      let p7 = first_passed 7 q7 r7 o6 in
      let shape = and_parts (leb m 4096) (leb n 4096) p3 in
      record {
        within = record {
          right = right_changed s.table ch b.within.right p2;
          rows = leb-true m 4096 shape.0;
          columns = leb-true n 4096 shape.1;
          cells = leb-true (m * n) s.room.for_cells p4;
        };
        entries = ltb-true (length s.entries) s.room.for_entries p5;
        runs = let l = length-append s.runs (runs_of s.table ch) in let k = leb-true _ _ p6 in omega arith;
        saved = let l = length-append s.saved (lost_of s.table ch) in let k = leb-true _ _ p7 in omega arith;
      }

module _ {A : Type 0} (t : Table A) (room : Room) (h : Within t room) where
  bounds_reach : (past : List (Call A)) → Accepts t room past → Bounds (reach t room past)
  bounds_reach [] ok = record {
    within = h;
    entries = omega arith;
    runs = omega arith;
    saved = omega arith;
  }
  bounds_reach (change ch ∷ past) ok =
      let s = reach t room past in
      subst Bounds (sym (accepted_after s ch ok.1)) (bounds_after s ch (accepted s ch ok.1) (bounds_reach past ok.2))
  bounds_reach (undo ∷ past) ok = absurd ok.0
  bounds_reach (settle ∷ past) ok =
      let b = bounds_reach past ok.2 in
      record {
        within = b.within;
        entries = omega arith;
        runs = omega arith;
        saved = omega arith;
      }

  newest_reach : (past : List (Call A)) → Accepts t room past → (p : Entry) (ps : List Entry) → (reach t room past).entries ≡ p ∷ ps → Newest (reach t room past)
  newest_reach [] ok p ps e = absurd (let z : ◌≡◌ {A = ℕ} 0 1 = cc in omega arith)
  newest_reach (change ch ∷ past) ok p ps e =
      let s = reach t room past in
      record { former = s; bounds = bounds_reach past ok.2; last = ch; accepted = accepted s ch ok.1; is = accepted_after s ch ok.1 }
  newest_reach (undo ∷ past) ok p ps e = absurd ok.0
  newest_reach (settle ∷ past) ok p ps e = absurd (let z : ◌≡◌ {A = ℕ} 0 1 = cc in omega arith)

pub reached_bounds : {A : Type 0} (s : Sheet A) → Reached s → Bounds s
reached_bounds s w =
    let k = all_come w.table w.room w.within.right w.calls in
    subst Bounds (k.0 ∙ w.is) (bounds_reach w.table w.room w.within (remains w.table w.room w.calls) k.1)

pub reached_newest : {A : Type 0} (s : Sheet A) (p : Entry) (ps : List Entry) → s.entries ≡ p ∷ ps → Reached s → Newest s
reached_newest {A} s p ps e w =
    let k = all_come w.table w.room w.within.right w.calls in
    let past = remains w.table w.room w.calls in
    let f : reach w.table w.room past ≡ s = k.0 ∙ w.is in
    subst Newest f (newest_reach w.table w.room w.within past k.1 p ps (ap (λ (z : Sheet A). z.entries) f ∙ e))

-- what a sheet keeps to, whichever opening and calls lead to it
pub bounds : {A : Type 0} (s : Sheet A) → Reachable s → Bounds s
bounds s h = record {
  within = record {
    right = ∥∥₁_elim h (ℕ_set _ _) (λ w. (reached_bounds s w).within.right);
    rows = ∥∥₁_elim h le_prop (λ w. (reached_bounds s w).within.rows);
    columns = ∥∥₁_elim h le_prop (λ w. (reached_bounds s w).within.columns);
    cells = ∥∥₁_elim h le_prop (λ w. (reached_bounds s w).within.cells);
  };
  entries = ∥∥₁_elim h le_prop (λ w. (reached_bounds s w).entries);
  runs = ∥∥₁_elim h le_prop (λ w. (reached_bounds s w).runs);
  saved = ∥∥₁_elim h le_prop (λ w. (reached_bounds s w).saved);
}

-- a proposition that holds of whatever change came last
pub by_newest : {A : Type 0} (s : Sheet A) (p : Entry) (ps : List Entry) → s.entries ≡ p ∷ ps → Reachable s → {Q : Type 0} → IsProp Q → (Newest s → Q) → Q
by_newest s p ps e h one f = ∥∥₁_elim h one (λ w. f (reached_newest s p ps e w))

pub newest_named : {A : Type 0} (s : Sheet A) (w : Newest s) → named_in w.former.table w.last ≡ true
newest_named s w = first_passed 2 (named_in w.former.table w.last) (drop 1 (tests w.former w.last)) w.accepted

-- and an undo brings the sheet before it
pub newest_back : {A : Type 0} (s : Sheet A) (p : Entry) (ps : List Entry) → s.entries ≡ p ∷ ps → (w : Newest s) → before s p ps ≡ w.former
newest_back {A} s p ps e w =
    sym (ap (λ qs. (taken_back s qs).0) e)
    ∙ ap (λ z. (step z undo).0) w.is
    ∙ undo_after w.former w.last w.bounds.within.right (newest_named s w)
