-- Which command a word names.
use Rattle.std.specs.Prelude.{ℕ, cond, List, [], ◌∷◌, Some, None, Option, ◌==◌}
use Rattle.layout.specs.declared.side.Side.{Side}
use Rattle.layout.specs.declared.side.Side.TheVariants.{Rows, Columns}
use Rattle.script.specs.declared.command.Verb.{Verb}
use Rattle.script.specs.declared.command.Verb.TheVariants.{Insert, Remove, RemoveAt, Swap, New, Resize, Undo, Settle, Print}

-- r and c
abbrev pub side_of : ℕ → Option Side
side_of b = cond (b == 114) (Some Rows) (cond (b == 99) (Some Columns) None)

-- i, r, a and s, before a side
abbrev pub sided : ℕ → Side → Option Verb
sided b s = cond (b == 105) (Some (Insert s)) (cond (b == 114) (Some (Remove s)) (cond (b == 97) (Some (RemoveAt s)) (cond (b == 115) (Some (Swap s)) None)))

-- n, z, u, k and p
abbrev pub alone : ℕ → Option Verb
alone b = cond (b == 110) (Some New) (cond (b == 122) (Some Resize) (cond (b == 117) (Some Undo) (cond (b == 107) (Some Settle) (cond (b == 112) (Some Print) None))))

abbrev pub on_side : ℕ → Option Side → Option Verb
on_side b None = None
on_side b (Some s) = sided b s

abbrev pub verb_named : List ℕ → Option Verb
verb_named [] = None
verb_named (a ∷ []) = alone a
verb_named (a ∷ b ∷ []) = on_side a (side_of b)
verb_named (a ∷ b ∷ c ∷ rest) = None
