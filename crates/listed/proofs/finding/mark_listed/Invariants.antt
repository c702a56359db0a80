use Rattle.std.proofs.Common.{◌≡◌, ℕ, ◌<◌, false, ◌||◌, length, get_or, drop}
use Rattle.model.specs.Sheet.{listed}
use Rattle.listed.proofs.finding.mark_listed.Given as goal

-- the marks, with what the rest of the list names, are what the whole list names
abbrev pub invariant-loop-x : goal.invariant-loop-x
invariant-loop-x l = (k : ℕ) → k < length l.marks → (get_or l.marks k false || listed (drop l.x-index l.list) k) ≡ listed l.list k
