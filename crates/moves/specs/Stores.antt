-- What a store holds.
use Rattle.std.specs.Prelude.{◌≡◌, ℕ, ◌+◌, ◌-◌, ◌≤◌, List, [], ◌++◌, length, take, slice_index_or}
use Rattle.moves.specs.declared.store.Store.{Store}

abbrev pub items : {X : Type 0} → Store X → List X
items s = take s.used s.places.now

-- how many items there are places for
abbrev pub room : {X : Type 0} → Store X → ℕ
room s = length s.places.now

-- what stands in the places, in use or not
abbrev pub stands : {X : Type 0} → Store X → List X
stands s = s.places.now

-- there are places for k items more
abbrev pub HasRoom : {X : Type 0} → Store X → ℕ → Type 0
HasRoom s k = length (items s) + k ≤ room s

-- s holds nothing, and in its places these stand
pub record Emptied {X : Type 0} (s : Store X) (xs : List X) : Type 0 where
  pub none : items s ≡ []
  pub stand : stands s ≡ xs

-- t is s without its last n items, in places where nothing is altered
pub record Shortened {X : Type 0} (s t : Store X) (n : ℕ) : Type 0 where
  pub left : items t ≡ take (length (items s) - n) (items s)
  pub stand : stands t ≡ stands s

-- t has the places of s, and in those behind its items what stands in s
pub record Kept {X : Type 0} (s t : Store X) : Type 0 where
  pub room : room t ≡ room s
  pub behind : (k : ℕ) (d : X) → length (items t) ≤ k → slice_index_or (stands t) k d ≡ slice_index_or (stands s) k d

-- t is s with xs behind its items
pub record Grown {X : Type 0} (s t : Store X) (xs : List X) : Type 0 where
  pub more : items t ≡ items s ++ xs
  pub kept : Kept s t
