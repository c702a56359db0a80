-- What a search for a byte finds.
use Rattle.std.proofs.Common.{◌≡◌, ℕ, suc, ◌+◌, ◌-◌, true, false, cond, not, eqb, ltb, List, [], ◌∷◌, length, take, drop, Some, None, Option, refl, sym, ap, ◌∙◌, arith}
use Rattle.std.specs.List.{position, position_or_len}
use Rattle.std.proofs.lemmas.List.{take_rest}
use Rattle.std.proofs.lemmas.Bool.Decides.{nat_tests}
use Rattle.std.proofs.lemmas.Grind.{common_steps}
use Rattle.script.specs.Words.{front, behind}

take_past : (b n : ℕ) (bs : List ℕ) → take (1 + n) (b ∷ bs) ≡ b ∷ take n bs
take_past b n bs = ap (λ k. take k (b ∷ bs)) (let e : 1 + n ≡ suc n = omega arith in e)

drop_past : (b n : ℕ) (bs : List ℕ) → drop (1 + n + 1) (b ∷ bs) ≡ drop (n + 1) bs
drop_past b n bs = ap (λ k. drop k (b ∷ bs)) (let e : 1 + n + 1 ≡ suc (n + 1) = omega arith in e)

module _ (c : ℕ) where
  front_is : (bs : List ℕ) → front c bs ≡ take (position_or_len (λ b. eqb b c) bs) bs
  front_is [] = refl
  front_is (b ∷ bs) =
      elim (eqb b c) as (λ t. cond t [] (b ∷ front c bs) ≡ take (cond (not t) (1 + position_or_len (λ b. eqb b c) bs) 0) (b ∷ bs))
      [ true ↦ refl | false ↦ ap (λ l. b ∷ l) (front_is bs) ∙ sym (take_past b _ bs) ]

  behind_is : (bs : List ℕ) → behind c bs ≡ cond (ltb (position_or_len (λ b. eqb b c) bs) (length bs)) (Some (drop (position_or_len (λ b. eqb b c) bs + 1) bs)) None
  behind_is [] = refl
  behind_is (b ∷ bs) =
      let h = behind_is bs in
      elim (eqb b c) as (λ t. cond t (Some bs) (behind c bs) ≡ cond (ltb (cond (not t) (1 + position_or_len (λ b. eqb b c) bs) 0) (suc (length bs))) (Some (drop (cond (not t) (1 + position_or_len (λ b. eqb b c) bs) 0 + 1) (b ∷ bs))) None)
      [ true ↦ grind (arith, nat_tests) | false ↦ let d = drop_past b (position_or_len (λ b. eqb b c) bs) bs in grind (arith, nat_tests) ]

  pub found : (bs : List ℕ) (i : ℕ) → Some i ≡ position (λ b. eqb b c) bs → (take i bs ≡ front c bs) × (◌≡◌ {A = Option (List ℕ)} (Some (take (length bs - (i + 1)) (drop (i + 1) bs))) (behind c bs))
  found bs i e =
      let f = front_is bs in
      let b = behind_is bs in
      let r = take_rest bs (i + 1) in
      (grind (arith, nat_tests), grind (arith, nat_tests))

  pub missing : (bs : List ℕ) → None ≡ position (λ b. eqb b c) bs → (bs ≡ front c bs) × (◌≡◌ {A = Option (List ℕ)} None (behind c bs))
  missing bs e =
      let f = front_is bs in
      let b = behind_is bs in
      (grind (arith, nat_tests, common_steps), grind (arith, nat_tests))
