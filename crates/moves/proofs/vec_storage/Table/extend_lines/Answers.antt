use Rattle.moves.proofs.Sides.{block_opens}
use Rattle.moves.proofs.vec_storage.Table.extend_lines.Goals as goal

pub extend_rows-requires : goal.extend_rows-requires
extend_rows-requires g c =
    let a = c.args in
    (block_opens a.side a.self.now.rows a.self.now.columns a.i a.n _ _ c.block-b.ensures c.requires.there c.requires.fits).0
