use Rattle.std.proofs.Common.{◌≡◌, length, vec_len}
use Rattle.batch_sheet.proofs.obey.Given as goal

abbrev pub invariant-loop-lines : goal.invariant-loop-lines
invariant-loop-lines l = vec_len l.out ≡ 0

abbrev pub decreases-loop-lines : goal.decreases-loop-lines
decreases-loop-lines l = length l.lines.rest.now
