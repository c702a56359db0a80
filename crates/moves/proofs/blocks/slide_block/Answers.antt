use Rattle.moves.proofs.Slides.{slid_through}
use Rattle.moves.proofs.blocks.slide_block.Goals as goal

pub returns : goal.returns
returns g c = slid_through {X = g.row.T.Denot} c.args.cells.now _ c.copy_block.new.cells c.copy_block-2.new.cells c.args.from c.args.to c.args.len c.copy_block.ensures c.copy_block-2.ensures
