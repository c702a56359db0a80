use Rattle.model.proofs.Telling.{inserting}
use Rattle.model.proofs.sentences.inserting_lines.Goals as goal

pub returns : goal.returns
returns g c = inserting
