-- What a token of a line says.
use Rattle.std.specs.Prelude.{ℕ, cond, List, [], ◌∷◌, None, Option, ◌==◌}
use Rattle.script.specs.declared.token.Token.{Token}
use Rattle.script.specs.declared.token.Token.TheVariants.{Command, Number, Remark}
use Rattle.script.specs.Numerals.{numeral}
use Rattle.script.specs.Words.{front, behind}

-- a token by its bytes, and not by where they lie
pub data Part : Type 0 where
  command : List ℕ → Part
  number : List ℕ → Part
  remark : List ℕ → Part

abbrev pub part_of : Token → Part
part_of (Command w) = command w.now
part_of (Number w) = number w.now
part_of (Remark w) = remark w.now

abbrev pub part_value : Part → Option ℕ
part_value (command w) = None
part_value (number w) = numeral w
part_value (remark w) = None

-- a line that begins with # is a remark; else its first word is a command
abbrev pub first_part : List ℕ → Part
first_part [] = command []
first_part (b ∷ bs) = cond (b == 35) (remark bs) (command (front 32 (b ∷ bs)))

abbrev pub after_first : List ℕ → Option (List ℕ)
after_first [] = None
after_first (b ∷ bs) = cond (b == 35) None (behind 32 (b ∷ bs))
