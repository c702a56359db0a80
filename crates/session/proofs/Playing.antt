-- Where lines are obeyed no more: for want of room, or of lines.
use Rattle.std.proofs.Common.{◌≡◌, ℕ, ◌≤◌, leb, List, [], ◌∷◌, length, sym, refl, ap, ◌∙◌, arith}
use Rattle.std.proofs.lemmas.Bool.{cond-true, le-leb}
use Rattle.script.specs.Words.{lines_of}
use Rattle.session.specs.Transcript.{State, played}

module _ (s : State) (number : ℕ) (lines : List (List ℕ)) (out : List ℕ) where
  pub played_full : 65536 ≤ length out → ◌≡◌ {A = State × (List ℕ × List (List ℕ))} (s, (out, lines)) (played s number lines out)
  played_full h = go lines
    where
      go : (lines : List (List ℕ)) → ◌≡◌ {A = State × (List ℕ × List (List ℕ))} (s, (out, lines)) (played s number lines out)
      go [] = refl
      go (line ∷ rest) = sym (cond-true (leb 65536 (length out)) (s, (out, line ∷ rest)) _ (le-leb 65536 (length out) h))

  pub played_out : lines ≡ [] → ◌≡◌ {A = State × (List ℕ × List (List ℕ))} (s, (out, lines)) (played s number lines out)
  played_out e = ap (λ zs. (s, (out, zs))) e ∙ ap (λ zs. played s number zs out) (sym e)

pub no_lines : (xs : List ℕ) → length xs ≡ 0 → lines_of xs ≡ []
no_lines [] e = refl
no_lines (x ∷ xs) e = absurd (omega arith)
