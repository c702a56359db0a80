-- The layout with steps: what it means, what its check asks, and that it keeps the law.
use Rattle.std.specs.Prelude.{◌≡◌, ℕ, ◌+◌, ◌-◌, ◌*◌, ◌<◌, ◌≤◌, cond, ◌⊎◌, List, [], ◌∷◌, ◌==◌}
use Rattle.std.proofs.Common.{◌∙◌, inl, inr, arith}
use Rattle.std.proofs.Math.Logic.{∥∥₁_elim}
use Rattle.std.proofs.Math.Nat.{ℕ_set}
use Rattle.std.proofs.lemmas.Nat.{mul-le}
use Rattle.std.proofs.lemmas.Bool.{cond-false, ne_eqb}
use Rattle.layout.specs.declared.refusal.Refusal.{Refusal}
use Rattle.layout.specs.Checks.{Rule, ◌else◌, few_lines}
use Rattle.layout.specs.Dense.{same_parts}
use Rattle.layout.specs.Lawful.{Grid, Lawful, Distinct}

-- from a first place on, a step for each row and one for each column
abbrev pub strided_place : (first row_step column_step : ℕ) → ℕ → ℕ → ℕ
strided_place first row_step column_step r c = first + r * row_step + c * column_step

-- one more than the last cell's place, and 0 if there is no cell
abbrev pub strided_span : (first row_step column_step rows columns : ℕ) → ℕ
strided_span first row_step column_step rows columns =
    cond (rows == 0) 0 (cond (columns == 0) 0 (strided_place first row_step column_step (rows - 1) (columns - 1) + 1))

abbrev pub strided : (first row_step column_step rows columns : ℕ) → Grid
strided first row_step column_step rows columns =
    record {
      rows = rows;
      columns = columns;
      span = strided_span first row_step column_step rows columns;
      place = strided_place first row_step column_step;
    }

-- a line of n cells, a step apart, ends before the next line begins, which is one long step on
abbrev pub Ends : (step long_step n : ℕ) → Type 0
Ends step long_step n = (1 ≤ step) × ((n - 1) * step + 1 ≤ long_step)

-- there is no cell, or each column ends before the next begins, or each row does
abbrev pub Apart : (row_step column_step rows columns : ℕ) → Type 0
Apart row_step column_step rows columns =
    (rows ≡ 0) ⊎ ((columns ≡ 0) ⊎ (Ends row_step column_step rows ⊎ Ends column_step row_step columns))

abbrev pub strided_rules : (first row_step column_step rows columns : ℕ) → List Rule
strided_rules first row_step column_step rows columns =
    few_lines rows columns
    ∷ ((strided_span first row_step column_step rows columns ≤ 65536) else Refusal.TooManyCells)
    ∷ (Apart row_step column_step rows columns else Refusal.CellsMeet)
    ∷ []

-- no cell lies behind the last one
pub strided_last : (first a b rows columns r c : ℕ) → r < rows → c < columns → strided_place first a b r c + 1 ≤ strided_span first a b rows columns
strided_last first a b rows columns r c p q =
    let x : r * a ≤ (rows - 1) * a = mul-le r a (rows - 1) a (omega arith) (omega arith) in
    let y : c * b ≤ (columns - 1) * b = mul-le c b (columns - 1) b (omega arith) (omega arith) in
    let last = strided_place first a b (rows - 1) (columns - 1) + 1 in
    let s : strided_span first a b rows columns ≡ last =
    cond-false (rows == 0) 0 (cond (columns == 0) 0 last) (ne_eqb rows 0 (λ e. omega arith))
    ∙ cond-false (columns == 0) 0 last (ne_eqb columns 0 (λ e. omega arith)) in
    omega arith

-- cells of lines that end before the next begin: at one place only if they are one cell
pub steps_apart : (a b n r c i j : ℕ) → Ends a b n → r < n → i < n → r * a + c * b ≡ i * a + j * b → (r ≡ i) × (c ≡ j)
steps_apart a b n r c i j ends h k e =
    let x : r * a ≤ (n - 1) * a = mul-le r a (n - 1) a (omega arith) (omega arith) in
    let y : i * a ≤ (n - 1) * a = mul-le i a (n - 1) a (omega arith) (omega arith) in
    let s = same_parts c b (r * a) j (i * a) (omega arith) (omega arith) (omega arith) in
    ((same_parts r a 0 i 0 (omega arith) (omega arith) (omega (arith, s.1))).0, s.0)

pub strided_distinct : (first a b rows columns : ℕ) → Apart a b rows columns → Distinct (strided first a b rows columns)
strided_distinct first a b rows columns (inl z) r c i j p q p' q' e = absurd (omega arith)
strided_distinct first a b rows columns (inr (inl z)) r c i j p q p' q' e = absurd (omega arith)
strided_distinct first a b rows columns (inr (inr (inl h))) r c i j p q p' q' e = steps_apart a b rows r c i j h p p' (omega arith)
strided_distinct first a b rows columns (inr (inr (inr h))) r c i j p q p' q' e =
    let s = steps_apart b a columns c r j i h q q' (omega arith) in (s.1, s.0)

pub strided_lawful : (first a b rows columns : ℕ) → rows ≤ 4096 → columns ≤ 4096 → strided_span first a b rows columns ≤ 65536 → ∥ Apart a b rows columns ∥₁
    → Lawful (strided first a b rows columns)
strided_lawful first a b rows columns h k l apart =
    record {
      few_rows = h;
      few_columns = k;
      short_span = l;
      within = λ r c p q. omega (arith, strided_last first a b rows columns r c p q);
      distinct = λ r c i j p q p' q' e. (
        ∥∥₁_elim apart (ℕ_set r i) (λ x. (strided_distinct first a b rows columns x r c i j p q p' q' e).0),
        ∥∥₁_elim apart (ℕ_set c j) (λ x. (strided_distinct first a b rows columns x r c i j p q p' q' e).1),
      );
    }
