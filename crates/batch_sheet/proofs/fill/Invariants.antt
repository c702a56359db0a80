use Rattle.std.proofs.Common.{◌-◌, ◌≤◌, length}
use Rattle.batch_sheet.proofs.fill.Given as goal

abbrev pub invariant-loop-n : goal.invariant-loop-n
invariant-loop-n g l = l.n ≤ length l.initial.page

abbrev pub decreases-loop-n : goal.decreases-loop-n
decreases-loop-n g l = length l.initial.page - l.n
