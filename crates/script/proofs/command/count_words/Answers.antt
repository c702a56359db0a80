use Rattle.std.proofs.Common.{◌≡◌, ◌+◌, eqb, count_by, length, rules, sym, ap, ◌∙◌}
use Rattle.std.proofs.lemmas.List.Splits.{length-slice_split}
use Rattle.script.specs.Words.{words_of}
use Rattle.script.proofs.command.count_words.Goals as goal

pub returns : goal.returns
returns c =
    let n : c.count.result ≡ count_by (λ b. eqb b 32) c.in-Some.text.now = search rules in
    ap (λ k. k + 1) n ∙ sym (length-slice_split (λ b. eqb b 32) c.in-Some.text.now) ∙ ap (λ o. length (words_of o)) (sym c.in-Some.is)
