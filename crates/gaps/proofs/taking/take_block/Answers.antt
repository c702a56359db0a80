use Rattle.std.proofs.Common.{refl}
use Rattle.gaps.proofs.Blocks.{taken_by}
use Rattle.gaps.proofs.taking.take_block.Goals as goal

pub returns : goal.returns
returns g c = taken_by c.args.cells.now c.copy_block.new.cells c.fill_range.new.cells _ _ _ _ _ _ _ c.min-count.ensures refl refl c.copy_block.ensures c.fill_range.ensures
