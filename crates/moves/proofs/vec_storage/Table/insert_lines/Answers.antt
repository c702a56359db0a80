use Rattle.moves.proofs.Sides.{block_opens}
use Rattle.moves.proofs.vec_storage.Table.insert_lines.Goals as goal

pub insert_rows-requires : goal.insert_rows-requires
insert_rows-requires g c =
    let a = c.args in
    (block_opens a.side a.self.now.rows a.self.now.columns a.i a.n _ _ c.block-b.ensures c.requires.there c.requires.fits).0
