use Rattle.model.proofs.cells_hold.Goals as goal
use Rattle.model.proofs.Descents.{cells}

pub returns : goal.returns
returns g c = cells _
