use Rattle.std.proofs.Common.{◌≡◌, [], ◌∷◌, length, unwrap_or, sym, refl, ap, ◌∙◌, arith}
use Rattle.script.specs.Words.{behind, lines_of}
use Rattle.script.proofs.Lines.{or_empty, behind_shorter, lines_cut}
use Rattle.script.proofs.words.next_line.Goals as goal
use Rattle.script.proofs.words.next_line.Goals.{After-unwrap_or}

left : (c : After-unwrap_or) → c.unwrap_or.result.now ≡ unwrap_or (behind 10 c.args.text.now) []
left c = or_empty c.cut.result.1 _ _ c.unwrap_or.ensures refl ∙ ap (λ o. unwrap_or o []) c.cut.ensures.back

pub returns : goal.returns
returns c =
    let e = left (goal.at.returns c).After-unwrap_or in
    record {
      line = c.cut.ensures.front;
      rest = e;
      lines = λ h. lines_cut c.args.text.now h ∙ (λ j. sym c.cut.ensures.front j ∷ lines_of (sym e j));
      shorter = λ h. omega (arith, behind_shorter 10 c.args.text.now h, ap length e);
    }
