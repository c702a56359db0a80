use Rattle.std.proofs.Common.{◌≡◌, ◌+◌, ◌-◌, ◌*◌, ◌≤◌, ◌++◌, map, length, take, drop}
use Rattle.journal.specs.View.{run_of}
use Rattle.listed.specs.Cuts.{taken_of, between}
use Rattle.listed.proofs.cutting.close_runs.Given as goal

-- what is moved, with what the groups ahead keep, is all; behind it nothing has altered
abbrev pub invariant-loop-g : goal.invariant-loop-g
invariant-loop-g g l = record {
  back : l.to ≤ l.g * (l.lines.count * l.lines.width);
  long :
      l.to + length (taken_of l.lines.width (l.lines.count * l.lines.width) l.g (l.lines.groups - l.g) l.initial.cells (between 0 (map run_of l.runs) l.lines.count))
      ≡ length (taken_of l.lines.width (l.lines.count * l.lines.width) 0 l.lines.groups l.initial.cells (between 0 (map run_of l.runs) l.lines.count));
  moved :
      take l.to l.cells ++ taken_of l.lines.width (l.lines.count * l.lines.width) l.g (l.lines.groups - l.g) l.initial.cells (between 0 (map run_of l.runs) l.lines.count)
      ≡ taken_of l.lines.width (l.lines.count * l.lines.width) 0 l.lines.groups l.initial.cells (between 0 (map run_of l.runs) l.lines.count);
  rest : drop l.to l.cells ≡ drop l.to l.initial.cells;
}
