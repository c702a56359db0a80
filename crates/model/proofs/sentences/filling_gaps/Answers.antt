use Rattle.model.proofs.Telling.{gapping}
use Rattle.model.proofs.sentences.filling_gaps.Goals as goal

pub returns : goal.returns
returns g c = gapping
