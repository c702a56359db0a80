-- The marks before a line is marked.
use Rattle.std.proofs.Common.{◌≡◌, ℕ, zero, suc, ◌<◌, ◌≤◌, Bool, true, false, not, ◌&&◌, List, [], ◌∷◌, length, get_or, take, refl, ◌∙◌, arith, length-take}
use Rattle.std.proofs.lemmas.Bool.{both_ways}
use Rattle.std.proofs.lemmas.List.{get_or-take}

-- a table of marks as it is made
abbrev pub all_clear : List Bool → Bool
all_clear [] = true
all_clear (m ∷ ms) = not m && all_clear ms

clear_at : (ms : List Bool) (k : ℕ) → all_clear ms ≡ true → get_or ms k false ≡ false
clear_at [] k h = refl
clear_at (true ∷ ms) k h = absurd (both_ways false refl h)
clear_at (false ∷ ms) zero h = refl
clear_at (false ∷ ms) (suc k) h = clear_at ms k h

pub table_clear : (ms : List Bool) (n : ℕ) → all_clear ms ≡ true → (k : ℕ) → k < length (take n ms) → get_or (take n ms) k false ≡ false
table_clear ms n h k l = get_or-take n ms k false (omega (arith, length-take n ms)) ∙ clear_at ms k h

pub table_long : (ms : List Bool) (n m : ℕ) → length ms ≡ m → n ≤ m → length (take n ms) ≡ n
table_long ms n m e h = length-take n ms ∙ omega arith
