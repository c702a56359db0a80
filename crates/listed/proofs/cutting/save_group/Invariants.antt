use Rattle.std.proofs.Common.{◌≡◌, ℕ, ◌++◌, map, drop}
use Rattle.moves.specs.Stores.{Kept, items}
use Rattle.journal.specs.View.{run_of}
use Rattle.listed.specs.Runs.{Rising}
use Rattle.listed.specs.Cuts.{taken}
use Rattle.listed.proofs.cutting.save_group.Given as goal

-- what is saved, with what the runs ahead have, is all
abbrev pub invariant-loop-run : goal.invariant-loop-run
invariant-loop-run g l = record {
  rising : (a : ℕ) × Rising a (map run_of (drop l.run-index l.runs)) l.lines.count;
  saved : items l.saved ++ taken l.lines.width l.cells (map run_of (drop l.run-index l.runs)) ≡ items l.initial.saved ++ taken l.lines.width l.cells (map run_of l.runs);
  kept : Kept l.initial.saved l.saved;
}
