-- What a turn of a loop that writes keeps.
use Rattle.std.proofs.Common.{◌≡◌, ℕ, zero, suc, ◌+◌, ◌-◌, ◌/◌, ◌%◌, ◌^◌, ◌<◌, ◌≤◌, List, [], ◌∷◌, ◌++◌, map, decimal, refl, sym, ap, ◌∙◌, append_assoc, append-nil, arith}
use Rattle.std.proofs.lemmas.Fmt.{decimal_digit, decimal_step}
use Rattle.std.specs.List.{range_with_len}
use Rattle.answers.specs.Answers.{field, spaced, row_text}

-- one more of the numbers that f gives, written behind a blank
pub spaced_more : (f : ℕ → ℕ) (c n x : ℕ) (old new all : List ℕ) → c < n → x ≡ f c → new ≡ old ++ field x → old ++ spaced (map f (range_with_len c (n - c))) ≡ all → new ++ spaced (map f (range_with_len (c + 1) (n - (c + 1)))) ≡ all
spaced_more f c n x old new all h e g k =
    let less : n - c ≡ suc (n - (c + 1)) = omega arith in
    ap (λ l. l ++ spaced (map f (range_with_len (c + 1) (n - (c + 1))))) (g ∙ ap (λ m. old ++ field m) e) ∙ append_assoc old (field (f c)) _ ∙ ap (λ m. old ++ spaced (map f (range_with_len c m))) (sym less) ∙ k

-- a number of one digit, and one of two, written digit by digit
pub put_one : (o p : List ℕ) (n : ℕ) → n < 10 → p ≡ o ++ (48 + n) ∷ [] → p ≡ o ++ decimal n
put_one o p n h e = e ∙ ap (λ l. o ++ l) (sym (decimal_digit n h))

pub put_two : (o p q : List ℕ) (n : ℕ) → 10 ≤ n → n < 100 → p ≡ o ++ (48 + n / 10) ∷ [] → q ≡ p ++ (48 + n % 10) ∷ [] → q ≡ o ++ decimal n
put_two o p q n h k a b =
    b ∙ ap (λ l. l ++ (48 + n % 10) ∷ []) (put_one o p (n / 10) (omega arith) a) ∙ append_assoc o (decimal (n / 10)) _ ∙ ap (λ l. o ++ l) (sym (decimal_step n h (omega arith)))

-- the first of n numbers that f gives
abbrev pub first : (ℕ → ℕ) → ℕ → List ℕ
first f zero = []
first f (suc n) = decimal (f 0)

pub begun : (f : ℕ → ℕ) (n x : ℕ) (o p : List ℕ) → 0 < n → x ≡ f 0 → p ≡ o ++ decimal x → p ≡ o ++ first f n
begun f zero x o p h e a = absurd (omega arith)
begun f (suc n) x o p h e a = a ∙ ap (λ m. o ++ decimal m) e

pub not_begun : (f : ℕ → ℕ) (n : ℕ) (o p : List ℕ) → n ≤ 0 → p ≡ o → p ≡ o ++ first f n
not_begun f zero o p h e = e ∙ sym (append-nil o)
not_begun f (suc n) o p h e = absurd (omega arith)

row_parts : (f : ℕ → ℕ) (n : ℕ) → first f n ++ (spaced (map f (range_with_len 1 (n - 1))) ++ 10 ∷ []) ≡ row_text (map f (range_with_len 0 n))
row_parts f zero = refl
row_parts f (suc n) = ap (λ m. decimal (f 0) ++ (spaced (map f (range_with_len 1 m)) ++ 10 ∷ [])) (let e : suc n - 1 ≡ n = omega arith in e)

-- the first number, the others up to the last and a line feed, written one after the other
pub row_is : (f : ℕ → ℕ) (n c : ℕ) (o p q r : List ℕ) → n ≤ c → p ≡ o ++ first f n → q ++ spaced (map f (range_with_len c (n - c))) ≡ p ++ spaced (map f (range_with_len 1 (n - 1))) → r ≡ q ++ 10 ∷ [] → r ≡ o ++ row_text (map f (range_with_len 0 n))
row_is f n c o p q r h a b e =
    let tail = spaced (map f (range_with_len 1 (n - 1))) in
    let rest : q ≡ p ++ tail = sym (append-nil q) ∙ ap (λ m. q ++ spaced (map f (range_with_len c m))) (let z : 0 ≡ n - c = omega arith in z) ∙ b in
    e ∙ ap (λ l. l ++ 10 ∷ []) (rest ∙ ap (λ l. l ++ tail) a ∙ append_assoc o (first f n) tail) ∙ append_assoc o (first f n ++ tail) (10 ∷ [])
    ∙ ap (λ l. o ++ l) (append_assoc (first f n) tail (10 ∷ []) ∙ row_parts f n)
