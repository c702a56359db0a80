use Rattle.model.proofs.Telling.{removing}
use Rattle.model.proofs.sentences.removing_lines.Goals as goal

pub returns : goal.returns
returns g c = removing
