use Rattle.moves.proofs.Sides.{block_inside}
use Rattle.moves.proofs.vec_storage.Table.remove_lines.Goals as goal

pub compress_rows-requires : goal.compress_rows-requires
compress_rows-requires g c =
    let a = c.args in
    (block_inside a.side a.self.now.rows a.self.now.columns a.i a.n _ _ c.block-b.ensures c.requires a.self.now.fits).0
