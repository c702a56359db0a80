use Rattle.model.proofs.Telling.{removing_listed}
use Rattle.model.proofs.sentences.removing_listed_lines.Goals as goal

pub returns : goal.returns
returns g c = removing_listed
