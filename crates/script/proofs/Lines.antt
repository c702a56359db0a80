-- The first line of a text, and what is left behind it.
use Rattle.std.proofs.Common.{◌≡◌, ℕ, suc, ◌<◌, ◌≤◌, true, false, cond, eqb, List, [], ◌∷◌, length, Some, None, Option, unwrap_or, sym, refl, ap, ◌∙◌, arith, Bor}
use Rattle.std.specs.Option.{option_map}
use Rattle.script.specs.Words.{front, behind, parts, parts_of, full, lines_of}
use Rattle.script.proofs.Listing.{parts_at}

pub or_empty : (o : Option (Bor (List ℕ))) (d r : Bor (List ℕ)) → r ≡ unwrap_or o d → d.now ≡ [] → r.now ≡ unwrap_or (option_map (λ x. x.now) o) []
or_empty None d r e f = ap (λ x. x.now) e ∙ f
or_empty (Some x) d r e f = ap (λ x. x.now) e

behind_within : (c : ℕ) (bs : List ℕ) → length (unwrap_or (behind c bs) []) ≤ length bs
behind_within c [] = omega arith
behind_within c (b ∷ bs) =
    let h = behind_within c bs in
    elim (eqb b c) as (λ t. length (unwrap_or (cond t (Some bs) (behind c bs)) []) ≤ suc (length bs)) [ true ↦ omega arith | false ↦ omega arith ]

pub behind_shorter : (c : ℕ) (bs : List ℕ) → 0 < length bs → length (unwrap_or (behind c bs) []) < length bs
behind_shorter c [] h = absurd (omega arith)
behind_shorter c (b ∷ bs) h =
    let k = behind_within c bs in
    elim (eqb b c) as (λ t. length (unwrap_or (cond t (Some bs) (behind c bs)) []) < suc (length bs)) [ true ↦ omega arith | false ↦ omega arith ]

full_more : (w x : List ℕ) (xs : List (List ℕ)) → full (w ∷ x ∷ xs) ≡ w ∷ full (x ∷ xs)
full_more [] x xs = refl
full_more (b ∷ w) x xs = refl

full_some : (w r : List ℕ) → full (w ∷ parts 10 r) ≡ w ∷ lines_of r
full_some w r = ap (λ l. full (w ∷ l)) (parts_at 10 r) ∙ full_more w (front 10 r) (parts_of 10 (behind 10 r)) ∙ ap (λ l. w ∷ full l) (sym (parts_at 10 r))

full_first : (b : ℕ) (w : List ℕ) (o : Option (List ℕ)) → full ((b ∷ w) ∷ parts_of 10 o) ≡ (b ∷ w) ∷ lines_of (unwrap_or o [])
full_first b w None = refl
full_first b w (Some r) = full_some (b ∷ w) r

pub lines_cut : (bs : List ℕ) → 0 < length bs → lines_of bs ≡ front 10 bs ∷ lines_of (unwrap_or (behind 10 bs) [])
lines_cut [] h = absurd (omega arith)
lines_cut (b ∷ bs) h =
    ap full (parts_at 10 (b ∷ bs))
    ∙ elim (eqb b 10) as (λ t. full (cond t [] (b ∷ front 10 bs) ∷ parts_of 10 (cond t (Some bs) (behind 10 bs))) ≡ cond t [] (b ∷ front 10 bs) ∷ lines_of (unwrap_or (cond t (Some bs) (behind 10 bs)) []))
    [ true ↦ full_some [] bs | false ↦ full_first b (front 10 bs) (behind 10 bs) ]
