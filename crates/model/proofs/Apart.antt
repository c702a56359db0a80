-- No line comes twice.
use Rattle.std.proofs.Common.{◌≡◌, ℕ, zero, suc, ◌+◌, ◌-◌, ◌<◌, ◌≤◌, Bool, true, false, cond, not, eqb, ltb, ◌≢◌, List, [], ◌∷◌, map, length, get_or, filter, sym, refl, ap, ◌∙◌, ap₂, arith}
use Rattle.std.specs.List.{range_with_len, AllByRecursion as All}
use Rattle.std.proofs.lemmas.List.{get_or-map, length-map}
use Rattle.std.proofs.lemmas.List.FromFn.{get_or-map-range_with_len, length-map-range_with_len}
use Rattle.std.proofs.ByRecursion.{All-get_or, all_kept_by}
use Rattle.std.proofs.lemmas.Bool.{eqb-true, ltb-false, le-ltb, cond_both, cond-false, eq-eqb, and_parts, and_from}
use Rattle.model.specs.Sheet.{Origin, old, new, number, Edit, keep, insert, remove, remove_at, swap, resize, within, listed, inserted, swapped, sized, others, origins}
use Rattle.model.specs.Journal.{place}
use Rattle.model.specs.Provenance.{same, at, line}
use Rattle.model.proofs.Grids.{all_counting, place_found}

abbrev pub Apart : {X : Type 0} → List X → Type 0
Apart {X} xs = (i j : ℕ) (d : X) → i < length xs → j < length xs → get_or xs i d ≡ get_or xs j d → i ≡ j

apart_mapped : (f : ℕ → Origin) (back : Origin → ℕ) → ((r : ℕ) → back (f r) ≡ r) → (n : ℕ) → Apart (map f (range_with_len 0 n))
apart_mapped f back h n i j d l m e =
    let il : i < n = (let z = length-map-range_with_len f 0 n in omega arith) in
    let jl : j < n = (let z = length-map-range_with_len f 0 n in omega arith) in
    let fi = get_or-map-range_with_len f 0 n i i d il (omega arith) in
    let fj = get_or-map-range_with_len f 0 n j j d jl (omega arith) in
    sym (h i) ∙ ap back (sym fi ∙ e ∙ fj) ∙ h j

apart_cons : {X : Type 0} (x : X) (xs : List X) → All (λ y. x ≢ y) xs → Apart xs → Apart (x ∷ xs)
apart_cons x xs h a zero zero d l m e = refl
apart_cons x xs h a zero (suc j) d l m e = absurd (All-get_or (λ y. x ≢ y) xs j d (omega arith) h e)
apart_cons x xs h a (suc i) zero d l m e = absurd (All-get_or (λ y. x ≢ y) xs i d (omega arith) h (sym e))
apart_cons x xs h a (suc i) (suc j) d l m e = ap suc (a i j d (omega arith) (omega arith) e)

apart_kept : (p : ℕ → Bool) (a n : ℕ) → Apart (filter p (range_with_len a n))
apart_kept p a zero = λ i j d l m e. absurd (omega arith)
apart_kept p a (suc n) = go (p a) (apart_kept p (a + 1) n)
  where
    go : (b : Bool) → Apart (filter p (range_with_len (a + 1) n)) → Apart (cond b (a ∷ filter p (range_with_len (a + 1) n)) (filter p (range_with_len (a + 1) n)))
    go true ih =
        apart_cons a (filter p (range_with_len (a + 1) n))
        (all_kept_by p (λ y. a ≢ y) (range_with_len (a + 1) n) (all_counting (λ y. a ≢ y) (a + 1) n (λ k l m. omega arith))) ih
    go false ih = ih

apart_others : (gone : ℕ → Bool) (m : ℕ) → Apart (others gone m)
apart_others gone m i j d l k e =
    let xs = filter (λ k. not (gone k)) (range_with_len 0 m) in
    let il : i < length xs = (let z = length-map xs old in omega arith) in
    let jl : j < length xs = (let z = length-map xs old in omega arith) in
    apart_kept (λ k. not (gone k)) 0 m i j 0 il jl
    (ap number (sym (get_or-map old xs i 0 d il) ∙ e ∙ get_or-map old xs j 0 d jl))

from_inserted : ℕ → ℕ → Origin → ℕ
from_inserted i n (old k) = cond (ltb k i) k (k + n)
from_inserted i n (new j) = i + j

back_inserted : (i n r : ℕ) → from_inserted i n (inserted i n r) ≡ r
unfolding from_inserted
back_inserted i n r =
    cond_both (ltb r i) (old r) (cond (ltb r (i + n)) (new (r - i)) (old (r - n))) (λ o. from_inserted i n o ≡ r)
    (λ e. ap (λ b. cond b r (r + n)) e)
    (λ e. let f = ltb-false r i e in
    cond_both (ltb r (i + n)) (new (r - i)) (old (r - n)) (λ o. from_inserted i n o ≡ r)
    (λ e'. omega arith)
    (λ e'. let g = ltb-false r (i + n) e' in
    cond-false (ltb (r - n) i) (r - n) (r - n + n) (le-ltb (r - n) i (omega arith)) ∙ omega arith))

from_sized : ℕ → Origin → ℕ
from_sized m (old k) = k
from_sized m (new j) = m + j

back_sized : (m r : ℕ) → from_sized m (sized m r) ≡ r
unfolding from_sized
back_sized m r =
    cond_both (ltb r m) (old r) (new (r - m)) (λ o. from_sized m o ≡ r) (λ e. refl)
    (λ e. let f = ltb-false r m e in omega arith)

back_swapped : (i j r : ℕ) → swapped i j (swapped i j r) ≡ r
back_swapped i j r =
    cond_both (eqb r i) j (cond (eqb r j) i r) (λ x. swapped i j x ≡ r)
    (λ e. let ri = eqb-true r i e in
    cond_both (eqb j i) j (cond (eqb j j) i j) (λ y. y ≡ r) (λ f. eqb-true j i f ∙ sym ri)
    (λ f. ap (λ b. cond b i j) (eq-eqb j j refl) ∙ sym ri))
    (λ e. cond_both (eqb r j) i r (λ x. swapped i j x ≡ r)
    (λ f. ap (λ b. cond b j (cond (eqb i j) i i)) (eq-eqb i i refl) ∙ sym (eqb-true r j f))
    (λ f. ap₂ (λ b c. cond b j (cond c i r)) e f))

pub apart_origins : (e : Edit) (m : ℕ) → Apart (origins e m)
apart_origins keep m = apart_mapped old number (λ r. refl) m
apart_origins (insert i n) m = apart_mapped (inserted i n) (from_inserted i n) (back_inserted i n) (m + n)
apart_origins (remove i n) m = apart_others (within i n) m
apart_origins (remove_at ks) m = apart_others (listed ks) m
apart_origins (swap i j) m = apart_mapped (λ r. old (swapped i j r)) (λ o. swapped i j (number o)) (back_swapped i j) m
apart_origins (resize n) m = apart_mapped (sized m) (from_sized m) (back_sized m) n

-- where a line stands in a descents without doubles

place_le : {X : Type 0} (p : X → Bool) (xs : List X) (r : ℕ) (d : X) → r < length xs → p (get_or xs r d) ≡ true → place p xs ≤ r
place_le p [] r d l h = absurd (omega arith)
place_le p (x ∷ xs) zero d l h = let e : place p (x ∷ xs) ≡ 0 = ap (λ b. cond b 0 (suc (place p xs))) h in omega arith
place_le p (x ∷ xs) (suc r) d l h = go (p x) (place_le p xs r d (omega arith) h)
  where
    go : (b : Bool) → place p xs ≤ r → cond b 0 (suc (place p xs)) ≤ suc r
    go true ih = omega arith
    go false ih = omega arith

same_self : (a : ℕ × ℕ) → same a a ≡ true
same_self a = and_from (eqb a.0 a.0) (eqb a.1 a.1) (eq-eqb a.0 a.0 refl) (eq-eqb a.1 a.1 refl)

same_equal : (a b : ℕ × ℕ) → same a b ≡ true → a ≡ b
same_equal a b h =
    let e = and_parts (eqb a.0 b.0) (eqb a.1 b.1) h in
    λ i. (eqb-true a.0 b.0 e.0 i, eqb-true a.1 b.1 e.1 i)

pub at_line : (lines : List (ℕ × ℕ)) → Apart lines → (r : ℕ) → r < length lines → at (line lines r) lines ≡ r
at_line lines apart r l =
    let a = line lines r in
    let p = place (same a) lines in
    let b = place_le (same a) lines r (0, 0) l (same_self a) in
    let q : p < length lines = omega arith in
    apart p r (0, 0) q l (sym (same_equal a (get_or lines p (0, 0)) (place_found (same a) lines (0, 0) q)))
