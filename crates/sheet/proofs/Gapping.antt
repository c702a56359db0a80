-- A gap opened and filled by its user.
use Rattle.std.proofs.Common.{◌≡◌, ℕ, List, Result, subst}
use Rattle.layout.specs.declared.refusal.Refusal.{Refusal}
use Rattle.model.specs.Sheet.{fill_lines}
use Rattle.model.specs.Journal.{change}
use Rattle.layout.specs.declared.side.Side.{Side}
use Rattle.journal.specs.declared.parts.Parts.{Parts}
use Rattle.journal.specs.View.{side_of}
use Rattle.journal.specs.Answering.{Answers}
use Rattle.gaps.specs.Gaps.{Gap, Fills}

-- from what opening and filling say each, with the gapped sheet's side, place and count
pub gap_filled :
    {A : Type 0} (p q q' : Parts A) (side s : Side) (i n at count : ℕ) (r : Result Unit Refusal) (vs : List A) (v : A)
    → Gap p q side i n r → (s ≡ side) × (at ≡ i) × (count ≡ n) → Fills q q' s at count r vs v
    → Answers p q' (change (fill_lines (side_of side) i n vs v)) r
gap_filled p q q' side s i n at count r vs v gap place fills =
    subst (λ z. Fills q q' z i n r vs v) place.0
    (subst (λ z. Fills q q' s z n r vs v) place.1 (subst (λ z. Fills q q' s at z r vs v) place.2 fills))
    p gap
