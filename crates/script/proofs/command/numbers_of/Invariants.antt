use Rattle.std.proofs.Common.{length}
use Rattle.script.specs.Words.{words_of}
use Rattle.script.proofs.Listing.{Read}
use Rattle.script.proofs.command.numbers_of.Given as goal

abbrev pub invariant-loop-k : goal.invariant-loop-k
invariant-loop-k l = Read (words_of l.words) l.at (length l.yielded)
