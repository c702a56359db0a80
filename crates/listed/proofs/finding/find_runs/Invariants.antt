use Rattle.std.proofs.Common.{◌≡◌, ◌+◌, ◌-◌, ◌*◌, ◌<◌, ◌≤◌, true, ◌++◌, map, length, drop}
use Rattle.std.specs.Slice.Iter.{chunk_by_rest}
use Rattle.moves.specs.Stores.{Kept, items}
use Rattle.model.specs.Journal.{runs_from}
use Rattle.journal.specs.View.{run_of}
use Rattle.listed.specs.Runs.{marked}
use Rattle.listed.proofs.finding.find_runs.Given as goal

-- the parts up to `at` are done, and their runs written; between two runs a line is clear, so two runs take three lines
abbrev pub invariant-loop-alike : goal.invariant-loop-alike
invariant-loop-alike l = record {
  within : l.at ≤ length l.marks;
  rest : drop l.at l.marks ≡ chunk_by_rest l.alike-iterator;
  few : 2 * length (items l.runs) ≤ l.at + 1 + 2 * length (items l.initial.runs);
  apart : l.at < length l.marks → marked l.marks l.at ≡ true → 2 * length (items l.runs) ≤ l.at + 2 * length (items l.initial.runs);
  found :
      map run_of (items l.runs) ++ runs_from (marked l.marks) l.at (length l.marks - l.at)
      ≡ map run_of (items l.initial.runs) ++ runs_from (marked l.marks) 0 (length l.marks);
  kept : Kept l.initial.runs l.runs;
}
