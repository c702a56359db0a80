use Rattle.std.proofs.Common.{arith}
use Rattle.resizing.proofs.Corners.{grown}
use Rattle.resizing.proofs.shapes.resize_rows.Goals as goal

pub returns-else-m-rows : goal.returns-else-m-rows
returns-else-m-rows g c = grown _ _ _ _ _ _ (omega arith) c.insert_rows.ensures
