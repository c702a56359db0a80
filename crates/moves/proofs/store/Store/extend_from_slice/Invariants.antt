use Rattle.std.proofs.Common.{take}
use Rattle.moves.specs.Stores.{Grown}
use Rattle.moves.proofs.store.Store.extend_from_slice.Given as goal

abbrev pub invariant-loop-item : goal.invariant-loop-item
invariant-loop-item g l = Grown l.initial.self l.self (take l.item-index l.list)
