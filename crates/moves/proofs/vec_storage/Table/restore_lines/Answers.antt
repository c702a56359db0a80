use Rattle.std.proofs.Common.{arith}
use Rattle.moves.proofs.Sides.{block_opens}
use Rattle.moves.proofs.vec_storage.Table.restore_lines.Goals as goal

pub restore_rows-requires : goal.restore_rows-requires
restore_rows-requires g c =
    let a = c.args in
    let p = block_opens a.side a.self.now.rows a.self.now.columns a.i a.n _ _ c.block-b.ensures c.requires.there c.requires.fits in
    (p.0, omega (arith, p.1, c.requires.saved))
