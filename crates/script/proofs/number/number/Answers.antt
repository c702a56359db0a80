use Rattle.std.proofs.Common.{sym, ◌∙◌, subst}
use Rattle.std.specs.Str.Parse.{ParsesUnsigned}
use Rattle.script.proofs.Reading.{none_long, none_else, same_text, no_text, parsed}
use Rattle.script.proofs.number.number.Goals as goal
use Rattle.script.proofs.number.number.Goals.{then-word-gt-DIGITS-via-then-word-gt-DIGITS, then-word-gt-DIGITS-via-else-word-gt-DIGITS+then-not-is_digits}

pub returns-then-word-gt-DIGITS : goal.returns-then-word-gt-DIGITS
returns-then-word-gt-DIGITS c =
    elim c.then-word-gt-DIGITS.branch [
      | then-word-gt-DIGITS-via-then-word-gt-DIGITS w ↦ none_long c.args.word.now w.if-word-gt-DIGITS.true
      | then-word-gt-DIGITS-via-else-word-gt-DIGITS+then-not-is_digits w ↦ none_else c.args.word.now (sym w.is_digits.ensures ∙ w.if-not-is_digits.true)
    ]

pub returns-in_err-ok : goal.returns-in_err-ok
returns-in_err-ok c =
    absurd (no_text c.args.word.now _ c.from_utf8.result c.from_utf8.ensures.cases (sym c.ok.ensures.value ∙ c.in_err-ok.was) (sym c.is_digits.ensures ∙ c.if-not-is_digits.false))

pub returns : goal.returns
returns c =
    let same = same_text c.args.word.now _ c.from_utf8.result c.in_ok-ok.field-0 c.from_utf8.ensures.cases (sym c.ok.ensures.value ∙ c.in_ok-ok.was) in
    c.ok-2.ensures.value ∙ parsed c.args.word.now c.parse.result c.if-word-gt-DIGITS.false (sym c.is_digits.ensures ∙ c.if-not-is_digits.false) (subst (λ t. ParsesUnsigned 32 10 t c.parse.result) same c.parse.ensures.value.0)
