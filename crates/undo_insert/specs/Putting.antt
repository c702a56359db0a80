-- Lines put in, as an entry notes them.
use Rattle.std.specs.Prelude.{◌≡◌, ℕ, ◌⊎◌}
use Rattle.layout.specs.declared.side.Side.{Side}
use Rattle.journal.specs.declared.parts.Note.{Note}
use Rattle.journal.specs.declared.parts.Note.TheVariants.{Insertion, Gap}

-- n lines of the side came in before line i, by an insertion or a filled gap
abbrev pub Puts : Note → Side → ℕ → ℕ → Type 0
Puts note side i n = (note ≡ Insertion side i n) ⊎ (note ≡ Gap side i n)
