-- Triangles of a table: filled with a value, or with the cells across the diagonal.
use Rattle.std.specs.Prelude.{◌≡◌, ℕ, ◌+◌, ◌<◌, ◌≤◌, List, [], ◌∷◌}
use Rattle.layout.specs.declared.refusal.Refusal.{Refusal}
use Rattle.layout.specs.Checks.{Rule, ◌else◌, reaches}
use Rattle.layout.specs.Lawful.{Grid}
use Rattle.layout.specs.Written.{Written, cell_of}

-- what filling asks, of a buffer of so many places
abbrev pub fill_rules : Grid → (buffer : ℕ) → List Rule
fill_rules grid buffer = reaches grid buffer ∷ []

-- what copying across the diagonal asks besides
abbrev pub square_rules : Grid → (buffer : ℕ) → List Rule
square_rules grid buffer = reaches grid buffer ∷ ((grid.rows ≡ grid.columns) else Refusal.NotSquare) ∷ []

-- the cells at least s rows below the diagonal hold v
abbrev pub LowerFilled : {T : Type 0} → Grid → (was is : List T) → T → (s : ℕ) → Type 0
LowerFilled grid was is v s = Written grid was is (λ r c. c + s ≤ r) (λ r c d. v)

-- the same on the other side, here and below in words of its own: the cells at least s columns right of the diagonal
-- hold v
abbrev pub UpperFilled : {T : Type 0} → Grid → (was is : List T) → T → (s : ℕ) → Type 0
UpperFilled grid was is v s = Written grid was is (λ r c. r + s ≤ c) (λ r c d. v)

-- the cells below the diagonal hold what stood across it
abbrev pub LowerCopied : {T : Type 0} → Grid → (was is : List T) → Type 0
LowerCopied grid was is = Written grid was is (λ r c. c < r) (λ r c d. cell_of grid was c r d)

-- the cells right of the diagonal hold what stood across it
abbrev pub UpperCopied : {T : Type 0} → Grid → (was is : List T) → Type 0
UpperCopied grid was is = Written grid was is (λ r c. r < c) (λ r c d. cell_of grid was c r d)
