use Rattle.std.proofs.Common.{map, ap, ◌∙◌, arith}
use Rattle.journal.specs.View.{run_of}
use Rattle.journal.proofs.Entries.{run_more}
use Rattle.journal.proofs.entering.note_run.Goals as goal

pub returns-then-n-gt0-clause-noted : goal.returns-then-n-gt0-clause-noted
returns-then-n-gt0-clause-noted c = ap (map run_of) c.push.ensures.more ∙ run_more _ c.args.i c.args.n (omega arith)
