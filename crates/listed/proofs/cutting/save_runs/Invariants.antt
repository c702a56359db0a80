use Rattle.std.proofs.Common.{◌≡◌, ◌-◌, ◌*◌, ◌++◌, map}
use Rattle.moves.specs.Stores.{Kept, items}
use Rattle.journal.specs.View.{run_of}
use Rattle.listed.specs.Cuts.{taken_of}
use Rattle.listed.proofs.cutting.save_runs.Given as goal

-- what is saved, with what the groups ahead have, is all
abbrev pub invariant-loop-g : goal.invariant-loop-g
invariant-loop-g g l = record {
  saved :
      items l.saved ++ taken_of l.lines.width (l.lines.count * l.lines.width) l.g (l.lines.groups - l.g) l.cells (map run_of l.runs)
      ≡ items l.initial.saved ++ taken_of l.lines.width (l.lines.count * l.lines.width) 0 l.lines.groups l.cells (map run_of l.runs);
  kept : Kept l.initial.saved l.saved;
}
