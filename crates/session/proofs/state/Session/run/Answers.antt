use Rattle.std.proofs.Common.{◌≡◌, ◌+◌, ◌≤◌, length, vec_items, refl, ap, inr, ◌∙◌, rules, arith}
use native.Mathlib.Bridge.{le_prop}
use Rattle.session.specs.declared.state.Lines.{Lines}
use Rattle.script.specs.Words.{lines_of}
use Rattle.session.specs.Meaning.{state_of}
use Rattle.session.proofs.Playing.{no_lines, played_full, played_out}
use Rattle.session.proofs.state.Session.run.Goals as goal

-- lines taken apart and put together are the same
taken_apart : (l : Lines) (few : l.number + length l.rest.now ≤ 65537) → record { rest = l.rest; number = l.number; few = few } ≡ l
taken_apart l few = ap (λ (f : l.number + length l.rest.now ≤ 65537). record { rest = l.rest; number = l.number; few = f }) (le_prop few l.few)

pub loop-left-init : goal.loop-left-init
loop-left-init c = record { numbered = refl; played = refl; text = refl; goes = inr (refl, refl); full = λ h. (taken_apart c.args.lines.now _, refl, refl) }

pub returns-after-loop-left-clause-played : goal.returns-after-loop-left-clause-played
returns-after-loop-left-clause-played c =
    let l = c.loop-left in
    played_full (state_of l.self) l.left.number (lines_of l.left.rest.now) (vec_items l.out) (omega arith) ∙ l.invariant.played

pub returns-in-loop-left-clause-played : goal.returns-in-loop-left-clause-played
returns-in-loop-left-clause-played c =
    let l = c.loop-left in
    let same : c.next.new.self ≡ l.left = search rules in
    let none : length l.left.rest.now ≡ 0 = search rules in
    rw same (played_out (state_of l.self) l.left.number (lines_of l.left.rest.now) (vec_items l.out) (no_lines l.left.rest.now none) ∙ l.invariant.played)
