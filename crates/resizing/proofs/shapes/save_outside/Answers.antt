use Rattle.std.proofs.Common.{◌-◌, ◌*◌, sym, ap₂, mul_comm, arith}
use Rattle.moves.proofs.Places.{columns_wider}
use Rattle.moves.proofs.Saves.{kept_on}
use Rattle.model.proofs.Resized.{outside}
use Rattle.resizing.proofs.Corners.{outside_saved}
use Rattle.resizing.proofs.shapes.save_outside.Goals as goal

pub save_rows-requires : goal.save_rows-requires
save_rows-requires g c =
    let t = c.args.table.now in
    let a = c.min-upper.result in
    let b = c.min-left.result in
    let e = ap₂ ◌*◌ c.min-upper.ensures c.min-left.ensures in
    ((omega arith, omega (arith, columns_wider t.rows b t.columns (omega arith), t.fits)), omega (arith, e, outside t.rows t.columns a b (omega arith) (omega arith)))

pub save_lines-requires-clause-fits : goal.save_lines-requires-clause-fits
save_lines-requires-clause-fits g c =
    let t = c.args.table.now in
    let a = c.min-upper.result in
    let b = c.min-left.result in
    let e = ap₂ ◌*◌ c.min-upper.ensures c.min-left.ensures in
    omega (arith, e, c.save_rows.ensures.saved.long, c.save_rows.ensures.kept.room, mul_comm b (t.rows - a), outside t.rows t.columns a b (omega arith) (omega arith))

pub returns-clause-saved : goal.returns-clause-saved
returns-clause-saved g c =
    let t = c.args.table.now in
    rw (sym c.min-upper.ensures, sym c.min-left.ensures)
    (outside_saved t.rows t.columns c.min-upper.result c.min-left.result (omega arith) (omega arith) _ _ _ _ c.save_rows.ensures.saved c.save_lines.ensures.saved)

pub returns-clause-kept : goal.returns-clause-kept
returns-clause-kept g c = kept_on c.args.saved.now c.save_rows.new.saved c.save_lines.new.saved c.save_rows.ensures.kept (omega (arith, c.save_lines.ensures.saved.long)) c.save_lines.ensures.kept
