-- Places of a table that lies column by column: the cell of row r and column c, of R rows, is at r + c * R.
-- Each fact here goes into the list of an `omega`, which takes a product of two variables as an unknown.
use Rattle.std.proofs.Common.{◌≡◌, ℕ, ◌+◌, ◌-◌, ◌*◌, ◌<◌, ◌≤◌, sym, ap, ◌∙◌, mul-le-mul_right, add-mul, mul-le-mul_left, one-mul, arith}

-- where the next column begins
pub next_column : (c R : ℕ) → (c + 1) * R ≡ c * R + R
next_column c R = add-mul c 1 R ∙ ap (λ (n : ℕ). c * R + n) (one-mul R)

-- the same for e, which is c + 1
pub column_after : (c e R : ℕ) → e ≡ c + 1 → e * R ≡ c * R + R
column_after c e R h = ap (λ (n : ℕ). n * R) h ∙ next_column c R

pub columns_same : (c e R : ℕ) → c ≡ e → c * R ≡ e * R
columns_same c e R h = ap (λ (n : ℕ). n * R) h

-- columns in order begin in order
pub columns_le : (c e R : ℕ) → c ≤ e → c * R ≤ e * R
columns_le c e R h = mul-le-mul_right R h

-- and a whole column lies between two that differ
pub columns_lt : (c e R : ℕ) → c < e → c * R + R ≤ e * R
columns_lt c e R h = let a : c + 1 ≤ e = omega arith in omega (arith, columns_le (c + 1) e R a, next_column c R)

-- a column begins later where columns are longer
pub columns_wider : (c R S : ℕ) → R ≤ S → c * R ≤ c * S
columns_wider c R S h = mul-le-mul_left c h

-- where a block of columns lies behind another
pub columns_sum : (c e R : ℕ) → (c + e) * R ≡ c * R + e * R
columns_sum c e R = add-mul c e R

-- the columns up to c and those from c to e
pub columns_split : (c e R : ℕ) → c ≤ e → c * R + (e - c) * R ≡ e * R
columns_split c e R h = sym (add-mul c (e - c) R) ∙ columns_same (c + (e - c)) e R (omega arith)

-- a place is below the table's end
pub place_below : (r c R C : ℕ) → r < R → c < C → r + c * R < C * R
place_below r c R C hr hc = omega (arith, columns_lt c C R hc)
