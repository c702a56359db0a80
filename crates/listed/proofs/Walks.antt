-- The walk that finds the runs, against the model's runs.
use Rattle.std.proofs.Common.{◌≡◌, ℕ, zero, suc, ◌+◌, ◌-◌, ◌<◌, ◌≤◌, Bool, true, false, cond, eqb, List, [], ◌∷◌, ◌++◌, map, length, get_or, drop, sym, refl, ap, ◌∙◌, subst, ap₂, inl, inr, append_assoc, arith, length-append}
use mathlib.Core.Bool.{beq}
use mathlib.Core.List.{map-append}
use Rattle.std.specs.List.{range_with_len, sum_by, IsChunkByPrefix}
use Rattle.std.proofs.Math.Seq.{drop-append_seam}
use Rattle.std.proofs.lemmas.List.FromFn.{length-range_with_len}
use Rattle.std.proofs.lemmas.List.{get_or-drop, get_or_append_left, length-drop, drop-drop}
use Rattle.std.proofs.lemmas.List.Sums.{sum_by-cons}
use Rattle.std.proofs.lemmas.Bool.{both_ways, cases_Bool, cond-true, cond-false, eqb-true, eq-eqb, ne_eqb}
use Rattle.model.specs.Journal.{begun, runs_from, lines_of}
use Rattle.journal.specs.declared.parts.Run.{Run}
use Rattle.journal.specs.View.{run_of}
use Rattle.model.proofs.Listed.{runs_same}
use Rattle.listed.specs.Runs.{Rising, marked}

-- marks that are equal, and that are not
beq_same : (a b : Bool) → beq a b ≡ true → a ≡ b
beq_same true true e = refl
beq_same false false e = refl
beq_same true false e = absurd (both_ways false refl e)
beq_same false true e = absurd (both_ways false refl e)

beq_not : (a b : Bool) → beq a b ≡ false → a ≡ b → ⊥
beq_not true b e f = both_ways true (ap (beq true) f ∙ e) refl
beq_not false b e f = both_ways true (ap (beq false) f ∙ e) refl

-- runs that rise from b on rise from any line before
pub rising_from : (a b e : ℕ) (rs : List (ℕ × ℕ)) → a ≤ b → Rising b rs e → Rising a rs e
rising_from a b e [] h s = omega arith
rising_from a b e (r ∷ rs) h s = (omega (arith, s.0), s.1)

pub rising_ends : (a e : ℕ) (rs : List (ℕ × ℕ)) → Rising a rs e → a ≤ e
rising_ends a e [] s = s
rising_ends a e (r ∷ rs) s = let h = rising_ends (r.0 + r.1) e rs s.1 in omega (arith, s.0)

begun_rising : (a e : ℕ) (rs : List (ℕ × ℕ)) → Rising (a + 1) rs e → Rising a (begun a rs) e
begun_rising a e [] s = (omega arith, s)
begun_rising a e (r ∷ rs) s = go (eqb r.0 (suc a)) refl
  where
    go : (b : Bool) → eqb r.0 (suc a) ≡ b → Rising a (cond b ((a, suc r.1) ∷ rs) ((a, 1) ∷ r ∷ rs)) e
    go true f =
        let g = eqb-true r.0 (suc a) f in
        let h : r.0 + r.1 ≡ a + suc r.1 = omega arith in
        (omega arith, subst (λ k. Rising k rs e) h s.1)
    go false f = (omega arith, s)

-- clear lines begin no run
pub runs_past : (p : ℕ → Bool) (k a n : ℕ) → ((j : ℕ) → a ≤ j → j < a + k → p j ≡ false) → runs_from p a (k + n) ≡ runs_from p (a + k) n
runs_past p zero a n clear = ap₂ (runs_from p) (omega arith) (omega arith)
runs_past p (suc k) a n clear =
    ap (runs_from p a) (let e : suc k + n ≡ suc (k + n) = omega arith in e)
    ∙ cond-false (p a) (begun a (runs_from p (a + 1) (k + n))) (runs_from p (a + 1) (k + n)) (clear a (omega arith) (omega arith))
    ∙ runs_past p k (a + 1) n (λ j g h. clear j (omega arith) (omega arith))
    ∙ ap (λ z. runs_from p z n) (omega arith)

pub runs_rising : (p : ℕ → Bool) (n a : ℕ) → Rising a (runs_from p a n) (a + n)
runs_rising p zero a = omega arith
runs_rising p (suc n) a =
    let e : a + 1 + n ≡ a + suc n = omega arith in
    go (p a) (subst (λ k. Rising (a + 1) (runs_from p (a + 1) n) k) e (runs_rising p n (a + 1)))
  where
    go : (b : Bool) → Rising (a + 1) (runs_from p (a + 1) n) (a + suc n) → Rising a (cond b (begun a (runs_from p (a + 1) n)) (runs_from p (a + 1) n)) (a + suc n)
    go true s = begun_rising a (a + suc n) (runs_from p (a + 1) n) s
    go false s = rising_from a (a + 1) (a + suc n) (runs_from p (a + 1) n) (omega arith) s

-- a line alone, where no run begins right behind it
begun_apart : (a e : ℕ) (rs : List (ℕ × ℕ)) → Rising (a + 2) rs e → begun a rs ≡ (a, 1) ∷ rs
begun_apart a e [] s = refl
begun_apart a e (r ∷ rs) s =
    cond-false (eqb r.0 (suc a)) ((a, suc r.1) ∷ rs) ((a, 1) ∷ r ∷ rs) (ne_eqb r.0 (suc a) (λ f. let h = s.0 in omega arith))

-- marked lines, with a clear one or none behind, are one run
pub runs_one : (p : ℕ → Bool) (k a n : ℕ) → ((j : ℕ) → a ≤ j → j < a + suc k → p j ≡ true) → (0 < n → p (a + suc k) ≡ false)
    → runs_from p a (suc k + n) ≡ (a, suc k) ∷ runs_from p (a + suc k) n
runs_one p zero a zero full clear =
    cond-true (p a) (begun a []) [] (full a (omega arith) (omega arith))
runs_one p zero a (suc n) full clear =
    let rest = runs_from p (a + 1) (suc n) in
    let past : rest ≡ runs_from p (a + 2) n =
    cond-false (p (a + 1)) (begun (a + 1) (runs_from p (a + 1 + 1) n)) (runs_from p (a + 1 + 1) n) (clear (omega arith))
    ∙ ap (λ z. runs_from p z n) (omega arith) in
    ap (runs_from p a) (let e : suc 0 + suc n ≡ suc (suc n) = omega arith in e)
    ∙ cond-true (p a) (begun a rest) rest (full a (omega arith) (omega arith))
    ∙ begun_apart a (a + 2 + n) rest (subst (λ zs. Rising (a + 2) zs (a + 2 + n)) (sym past) (runs_rising p n (a + 2)))
runs_one p (suc k) a n full clear =
    let rest = runs_from p (a + 1 + suc k) n in
    ap (runs_from p a) (let e : suc (suc k) + n ≡ suc (suc k + n) = omega arith in e)
    ∙ cond-true (p a) (begun a (runs_from p (a + 1) (suc k + n))) (runs_from p (a + 1) (suc k + n)) (full a (omega arith) (omega arith))
    ∙ ap (begun a) (runs_one p k (a + 1) n (λ j g h. full j (omega arith) (omega arith)) (λ h. ap p (omega arith) ∙ clear h))
    ∙ cond-true (eqb (a + 1) (suc a)) ((a, suc (suc k)) ∷ rest) ((a, 1) ∷ (a + 1, suc k) ∷ rest) (eq-eqb (a + 1) (suc a) (omega arith))
    ∙ ap (λ z. (a, suc (suc k)) ∷ runs_from p z n) (omega arith)

-- the runs' lengths, summed
pub lines_summed : (rs : List Run) → length (lines_of (map run_of rs)) ≡ sum_by (λ (r : Run). r.length) rs
lines_summed [] = refl
lines_summed (r ∷ rs) =
    length-append (range_with_len r.offset r.length) (lines_of (map run_of rs))
    ∙ ap₂ ◌+◌ (length-range_with_len r.offset r.length) (lines_summed rs)
    ∙ sym (sum_by-cons (λ (r : Run). r.length) r rs)

-- a part that leads the marks from a line on
pub record Part (marks : List Bool) (at : ℕ) (part more : List Bool) : Type 0 where
  pub inside : at ≤ length marks
  pub cut : drop at marks ≡ part ++ more
  pub some : 0 < length part

module _ {marks : List Bool} {at : ℕ} {part more : List Bool} (s : Part marks at part more) where
  pub part_inside : at + length part ≤ length marks
  part_inside = omega (arith, s.inside, sym (length-drop at marks) ∙ ap length s.cut ∙ length-append part more)

  pub part_rest : drop (at + length part) marks ≡ more
  part_rest = sym (drop-drop (length part) at marks) ∙ ap (drop (length part)) s.cut ∙ drop-append_seam part more

  pub part_first : marked marks at ≡ get_or part 0 false
  part_first =
      ap (marked marks) (let e : at ≡ at + 0 = omega arith in e)
      ∙ sym (get_or-drop at marks 0 false) ∙ ap (λ ms. get_or ms 0 false) s.cut ∙ get_or_append_left part more false 0 s.some

  -- and is the longest of marks that are alike
  module _ (longest : IsChunkByPrefix beq (drop at marks) (length part)) (what : Bool) (begins : get_or part 0 false ≡ what) where
    alike_by : (k : ℕ) → k < length part → get_or (drop at marks) k false ≡ what
    alike_by zero h = get_or-drop at marks 0 false ∙ ap (marked marks) (omega arith) ∙ part_first ∙ begins
    alike_by (suc k) h =
        ap (λ z. get_or (drop at marks) z false) (let e : suc k ≡ k + 1 = omega arith in e)
        ∙ sym (beq_same (get_or (drop at marks) k false) (get_or (drop at marks) (k + 1) false) (longest.0 k false (omega arith)))
        ∙ alike_by k (omega arith)

    alike : (k : ℕ) → at ≤ k → k < at + length part → marked marks k ≡ what
    alike k a b =
        ap (marked marks) (let e : k ≡ at + (k - at) = omega arith in e)
        ∙ sym (get_or-drop at marks (k - at) false) ∙ alike_by (k - at) (omega arith)

    -- right behind it the other mark stands
    pub part_ends : at + length part < length marks → marked marks (at + length part) ≡ what → ⊥
    part_ends h e =
        let n = length part in
        beq_not (get_or (drop at marks) (n - 1) false) (get_or (drop at marks) n false) (longest.1 (omega (arith, length-drop at marks)) false)
        (alike_by (n - 1) (omega (arith, s.some)) ∙ sym e ∙ sym (get_or-drop at marks n false))

  module _ (longest : IsChunkByPrefix beq (drop at marks) (length part)) where
    -- a clear part is passed over
    pub part_clear : get_or part 0 false ≡ false
        → runs_from (marked marks) at (length marks - at) ≡ runs_from (marked marks) (at + length part) (length marks - (at + length part))
    part_clear e =
        let m : ℕ = length marks - (at + length part) in
        ap (runs_from (marked marks) at) (let f : length marks - at ≡ length part + m = omega (arith, part_inside) in f)
        ∙ runs_past (marked marks) (length part) at m (alike longest false e)

    -- a marked part is a run
    pub part_run : get_or part 0 false ≡ true
        → runs_from (marked marks) at (length marks - at) ≡ (at, length part) ∷ runs_from (marked marks) (at + length part) (length marks - (at + length part))
    part_run e =
        let p = marked marks in
        let k : ℕ = length part - 1 in
        let m : ℕ = length marks - (at + length part) in
        let n : length part ≡ suc k = omega (arith, s.some) in
        ap (runs_from p at) (let f : length marks - at ≡ suc k + m = omega (arith, part_inside) in f)
        ∙ runs_one p k at m (λ j a b. alike longest true e j a (omega arith)) (λ h. elim (cases_Bool (p (at + suc k))) [
          | inr f ↦ f
          | inl f ↦ absurd (part_ends longest true e (omega arith) (ap (λ (z : ℕ). p (at + z)) n ∙ f))
        ])
        ∙ ap (λ z. (at, z) ∷ runs_from p (at + z) m) (sym n)

-- the run is written down
pub run_written : (was is : List Run) (at n : ℕ) (rest all found : List (ℕ × ℕ)) → is ≡ was ++ record { offset = at; length = n } ∷ []
    → found ≡ (at, n) ∷ rest → map run_of was ++ found ≡ all → map run_of is ++ rest ≡ all
run_written was is at n rest all found e f g =
    let r : Run = record { offset = at; length = n } in
    ap (λ zs. map run_of zs ++ rest) e
    ∙ ap (λ zs. zs ++ rest) (map-append run_of was (r ∷ []))
    ∙ append_assoc (map run_of was) ((at, n) ∷ []) rest
    ∙ ap (λ zs. map run_of was ++ zs) (sym f)
    ∙ g

-- what is marked is what the list names
pub found_as : (p q : ℕ → Bool) (m n : ℕ) → m ≡ n → ((k : ℕ) → k < m → p k ≡ q k) → runs_from p 0 m ≡ runs_from q 0 n
found_as p q m n e same = runs_same p q m 0 (λ k a b. same k (omega arith)) ∙ ap (runs_from q 0) e
