-- A text cut at a byte.
use Rattle.std.specs.Prelude.{ℕ, cond, List, [], ◌∷◌, Some, None, Option, ◌==◌}
use Rattle.std.specs.Borrow.{Bor}
use Rattle.std.specs.List.{slice_split}
use Rattle.std.specs.Option.{option_map}

-- what stands before the first c
abbrev pub front : ℕ → List ℕ → List ℕ
front c [] = []
front c (b ∷ bs) = cond (b == c) [] (b ∷ front c bs)

-- what stands behind the first c, if there is one
abbrev pub behind : ℕ → List ℕ → Option (List ℕ)
behind c [] = None
behind c (b ∷ bs) = cond (b == c) (Some bs) (behind c bs)

-- the parts between each c and the next: one more than there are c
abbrev pub parts : ℕ → List ℕ → List (List ℕ)
parts c bs = slice_split (λ b. b == c) bs

-- the parts of what stands behind a c
abbrev pub parts_of : ℕ → Option (List ℕ) → List (List ℕ)
parts_of c None = []
parts_of c (Some bs) = parts c bs

-- the words of what stands behind a blank
abbrev pub further : Option (List ℕ) → List (List ℕ)
further o = parts_of 32 o

-- the words that a borrowed text has, if there is one
abbrev pub words_of : Option (Bor (List ℕ)) → List (List ℕ)
words_of o = further (option_map (λ x. x.now) o)

-- all but an empty last one
abbrev pub full : List (List ℕ) → List (List ℕ)
full [] = []
full ([] ∷ []) = []
full ((b ∷ bs) ∷ []) = (b ∷ bs) ∷ []
full (x ∷ y ∷ ys) = x ∷ full (y ∷ ys)

-- the lines of a text: each ends in a line feed, and a last one that is not empty may lack it
abbrev pub lines_of : List ℕ → List (List ℕ)
lines_of bs = full (parts 10 bs)
