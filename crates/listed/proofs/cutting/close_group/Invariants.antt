use Rattle.std.proofs.Common.{◌≡◌, ◌+◌, ◌*◌, ◌≤◌, ◌++◌, map, take, drop}
use Rattle.journal.specs.View.{run_of}
use Rattle.listed.specs.Runs.{Rising}
use Rattle.listed.specs.Cuts.{taken, between}
use Rattle.listed.proofs.cutting.close_group.Given as goal

-- what is moved, with what lies between the runs ahead, is all; behind it nothing has altered
abbrev pub invariant-loop-run : goal.invariant-loop-run
invariant-loop-run g l = record {
  rising : Rising l.at (map run_of (drop l.run-index l.runs)) l.lines.count;
  back : l.to ≤ l.from + l.at * l.lines.width;
  moved :
      take l.to l.cells ++ taken l.lines.width (drop l.from l.initial.cells) (between l.at (map run_of (drop l.run-index l.runs)) l.lines.count)
      ≡ take l.top l.initial.cells ++ taken l.lines.width (drop l.from l.initial.cells) (between 0 (map run_of l.runs) l.lines.count);
  rest : drop l.to l.cells ≡ drop l.to l.initial.cells;
}
