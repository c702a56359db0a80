-- Marked lines and the runs that they form.
use Rattle.std.specs.Prelude.{ℕ, ◌+◌, ◌≤◌, Bool, false, List, [], ◌∷◌, slice_index_or}

-- runs that rise from a on, up to e: of slices that callers hand in, so no type says it
abbrev pub Rising : ℕ → List (ℕ × ℕ) → ℕ → Type 0
Rising a [] e = a ≤ e
Rising a (r ∷ rs) e = (a ≤ r.0) × Rising (r.0 + r.1) rs e

abbrev pub marked : List Bool → ℕ → Bool
marked marks k = slice_index_or marks k false
