use Rattle.std.proofs.Common.{refl, arith}
use Rattle.moves.specs.Stores.{items}
use Rattle.moves.proofs.Places.{next_column}
use Rattle.moves.proofs.Saves.{gap_room, kept_on, saving_more}
use Rattle.moves.proofs.edition.save_rows.Goals as goal

pub loop-c-preserved : goal.loop-c-preserved
loop-c-preserved g c =
    let b = c.args.b in
    let k = c.loop-c.c in
    let s = saving_more c.args.cells.now (items c.args.saved.now) (items c.loop-c.saved) (items c.extend_from_slice.new.self) b.rows b.first b.count k _ _ refl (omega arith)
    (omega (arith, gap_room b.rows b.columns b.first b.count c.requires.0.0 k (omega arith))) c.loop-c.invariant.0 c.extend_from_slice.ensures.more in (
      s,
      kept_on c.args.saved.now c.loop-c.saved c.extend_from_slice.new.self c.loop-c.invariant.1 (omega (arith, s.long, c.loop-c.invariant.0.long, next_column k b.count)) c.extend_from_slice.ensures.kept,
    )
