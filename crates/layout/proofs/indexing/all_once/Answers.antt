use Rattle.std.proofs.Common.{refl}
use Rattle.layout.proofs.Marks.{marked_none}
use Rattle.layout.proofs.indexing.all_once.Goals as goal

pub loop-row-init : goal.loop-row-init
loop-row-init c = marked_none c.args.list.now 4096 refl
