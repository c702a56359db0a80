use Rattle.std.proofs.Common.{◌-◌, arith}
use Rattle.moves.proofs.Rows.{extended_by}
use Rattle.moves.proofs.edition.extend_rows.Goals as goal

pub returns : goal.returns
returns g c =
    let b = c.args.b in
    extended_by b.rows b.columns (b.columns - 1) b.first b.count (omega arith) c.args.cells.now c.slide.new.cells c.open_columns.new.cells c.requires.0 _ _ _ (omega arith) (omega arith) (omega arith) c.slide.ensures c.open_columns.ensures
