use Rattle.model.proofs.Telling.{resizing}
use Rattle.model.proofs.sentences.resizing_tables.Goals as goal

pub returns : goal.returns
returns g c = resizing
