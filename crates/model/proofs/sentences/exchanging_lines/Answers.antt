use Rattle.model.proofs.Telling.{exchanging}
use Rattle.model.proofs.sentences.exchanging_lines.Goals as goal

pub returns : goal.returns
returns g c = exchanging
