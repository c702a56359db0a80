use Rattle.std.proofs.Common.{◌≡◌, ◌+◌, ◌<◌, ◌≤◌, ◌⊎◌, ◌++◌, length, vec_items, vec_len}
use Rattle.script.specs.Words.{lines_of}
use Rattle.session.specs.Transcript.{played, transcript}
use Rattle.session.specs.Meaning.{state_of}
use Rattle.session.proofs.state.Session.run.Given as goal

abbrev pub invariant-loop-left : goal.invariant-loop-left
invariant-loop-left l = record {
  numbered : l.left.number + length (lines_of l.left.rest.now) ≡ l.initial.lines.number + length (lines_of l.initial.lines.rest.now);
  played :
      played (state_of l.self) l.left.number (lines_of l.left.rest.now) (vec_items l.out)
      ≡ played (state_of l.initial.self) l.initial.lines.number (lines_of l.initial.lines.rest.now) (vec_items l.initial.out);
  text : vec_items l.out ++ transcript (state_of l.self) l.left.number (lines_of l.left.rest.now) ≡ vec_items l.initial.out ++ transcript (state_of l.initial.self) l.initial.lines.number (lines_of l.initial.lines.rest.now);
  goes : (length l.left.rest.now < length l.initial.lines.rest.now) ⊎ ((vec_len l.out ≡ vec_len l.initial.out) × (length l.left.rest.now ≡ length l.initial.lines.rest.now));
  full : 65536 ≤ vec_len l.initial.out → (l.left ≡ l.initial.lines) × (state_of l.self ≡ state_of l.initial.self) × (vec_items l.out ≡ vec_items l.initial.out);
}

abbrev pub decreases-loop-left : goal.decreases-loop-left
decreases-loop-left l = length l.left.rest.now
