-- What a check asks, and which refusal comes.
use Rattle.std.specs.Prelude.{◌≡◌, ℕ, ◌*◌, ◌≤◌, ◌⊎◌, List, [], ◌∷◌, Ok, Err, Result}
use Rattle.layout.specs.declared.refusal.Refusal.{Refusal}
use Rattle.layout.specs.Lawful.{Grid}

-- one thing that a check asks, and the refusal if it does not hold
pub record Rule : Type 1 where
  pub refusal : Refusal
  pub holds : Type 0

infixl 20 ◌else◌
abbrev pub ◌else◌ : Type 0 → Refusal → Rule
holds else refusal = record { refusal = refusal; holds = holds }

-- all the rules hold
abbrev pub Passes : List Rule → Type 0
Passes [] = Unit {0}
Passes (rule ∷ rules) = rule.holds × Passes rules

-- e is the refusal of the first rule that does not hold
abbrev pub Refuses : List Rule → Refusal → Type 0
Refuses [] e = ⊥
Refuses (rule ∷ rules) e = ((rule.holds → ⊥) × (e ≡ rule.refusal)) ⊎ (rule.holds × Refuses rules e)

abbrev pub Checked : {T : Type 0} → List Rule → Result T Refusal → Type 0
Checked rules (Ok done) = Passes rules
Checked rules (Err e) = Refuses rules e

-- a shape has few lines
abbrev pub few_lines : (rows columns : ℕ) → Rule
few_lines rows columns = ((rows ≤ 4096) × (columns ≤ 4096)) else Refusal.TooManyLines

-- a buffer of so many places reaches the grid's span
abbrev pub Reaches : Grid → ℕ → Type 0
Reaches grid places = grid.span ≤ places

abbrev pub reaches : Grid → ℕ → Rule
reaches grid places = Reaches grid places else Refusal.BufferTooShort

abbrev pub dense_rules : (rows columns : ℕ) → List Rule
dense_rules rows columns =
    few_lines rows columns
    ∷ ((rows * columns ≤ 65536) else Refusal.TooManyCells)
    ∷ []
