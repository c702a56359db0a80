use Rattle.std.proofs.Common.{arith}
use Rattle.moves.proofs.Sides.{block_inside}
use Rattle.moves.proofs.vec_storage.Table.save_lines.Goals as goal

pub save_rows-requires : goal.save_rows-requires
save_rows-requires g c =
    let a = c.args in
    let p = block_inside a.side a.self.now.rows a.self.now.columns a.i a.n _ _ c.block-b.ensures c.requires.there a.self.now.fits in
    (p.0, omega (arith, p.1))
