-- Two lines change places.
use Rattle.std.specs.Prelude.{◌≡◌, ℕ, ◌<◌, cond, ◌⊎◌, List, [], ◌∷◌, ◌==◌}
use Rattle.layout.specs.declared.refusal.Refusal.{Refusal}
use Rattle.layout.specs.Checks.{Rule, ◌else◌, reaches}
use Rattle.layout.specs.Lawful.{Grid}
use Rattle.layout.specs.Written.{Written, cell_of}

-- what swapping rows i and j asks, of a buffer of so many places
abbrev pub swap_rules : Grid → (i j buffer : ℕ) → List Rule
swap_rules grid i j buffer =
    (((i < grid.rows) × (j < grid.rows)) else Refusal.NoSuchLine) ∷ reaches grid buffer ∷ []

-- the other one of i and j
abbrev pub other : (i j k : ℕ) → ℕ
other i j k = cond (k == i) j i

-- the cells of rows i and j hold what the other row held
abbrev pub RowsSwapped : {T : Type 0} → Grid → (was is : List T) → (i j : ℕ) → Type 0
RowsSwapped grid was is i j =
    Written grid was is (λ r c. (r ≡ i) ⊎ (r ≡ j)) (λ r c d. cell_of grid was (other i j r) c d)

-- the same of columns, in words of its own: a reader need not turn the table in mind. The cells of columns i and j hold what the other column held
abbrev pub ColumnsSwapped : {T : Type 0} → Grid → (was is : List T) → (i j : ℕ) → Type 0
ColumnsSwapped grid was is i j =
    Written grid was is (λ r c. (c ≡ i) ⊎ (c ≡ j)) (λ r c d. cell_of grid was r (other i j c) d)
