use Rattle.std.proofs.Common.{◌≡◌, eqb, rules, tests, sym, ◌∙◌}
use Rattle.std.specs.List.{position}
use Rattle.std.proofs.lemmas.Iterator.{YieldsList-from_slice}
use Rattle.std.proofs.lemmas.Iterator.Search.{position_from_yields_List}
use Rattle.script.proofs.Cuts.{found, missing}
use Rattle.script.proofs.words.cut.Goals as goal

pub returns-in-Some : goal.returns-in-Some
returns-in-Some c =
    let at : c.position.result ≡ position (λ b. eqb b c.args.at) c.args.text.now =
    position_from_yields_List (λ b. eqb b c.args.at) _ _ _ c.position.ensures.ran (YieldsList-from_slice c.args.text.now cc) (λ x b q k. search (rules, tests)) in
    let p = found c.args.at c.args.text.now c.in-Some.i (sym c.in-Some.is ∙ at) in
    record { front = p.0; back = p.1 }

pub returns-in-None : goal.returns-in-None
returns-in-None c =
    let at : c.position.result ≡ position (λ b. eqb b c.args.at) c.args.text.now =
    position_from_yields_List (λ b. eqb b c.args.at) _ _ _ c.position.ensures.ran (YieldsList-from_slice c.args.text.now cc) (λ x b q k. search (rules, tests)) in
    let p = missing c.args.at c.args.text.now (sym c.in-None.is ∙ at) in
    record { front = p.0; back = p.1 }
