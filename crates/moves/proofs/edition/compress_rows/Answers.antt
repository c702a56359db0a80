use Rattle.std.proofs.Common.{◌≡◌, ◌+◌, ◌-◌, ◌*◌, sym, refl, subst, arith}
use Rattle.moves.proofs.Places.{next_column}
use Rattle.moves.proofs.Rows.{Compressing, compressing_more, compress_room, compress_back, compressed_all}
use Rattle.moves.proofs.edition.compress_rows.Goals as goal

pub slide-requires : goal.slide-requires
slide-requires g c =
    let b = c.args.b in
    let a = compress_room b.rows b.columns b.first b.count c.requires.0 c.loop-c.c (omega arith) in
    let e = compress_back b.rows b.columns b.first b.count c.requires.0 c.loop-c.c in
    (omega (arith, c.loop-c.invariant.long), omega (arith, c.loop-c.invariant.long))

pub loop-c-preserved : goal.loop-c-preserved
loop-c-preserved g c =
    let b = c.args.b in
    let left = b.rows - b.count in
    let e : b.first + (c.loop-c.c + 1) * left ≡ b.first + c.loop-c.c * left + left = omega (arith, next_column c.loop-c.c left) in
    subst (λ w. Compressing c.args.cells.now c.slide.new.cells b.rows left b.first b.count w) (sym e)
    (compressing_more c.args.cells.now c.loop-c.cells c.slide.new.cells _ _ _ _ (omega arith) (omega arith) c.loop-c.c _ _ _ refl refl (omega arith) c.loop-c.invariant c.slide.ensures)

pub returns : goal.returns
returns g c =
    let b = c.args.b in
    let left = b.rows - b.count in
    let last = b.columns - 1 in
    let at = subst (λ z. Compressing c.args.cells.now c.loop-c.cells b.rows left b.first b.count (b.first + z * left)) (let e : c.loop-c.c ≡ last = omega arith in e) c.loop-c.invariant in
    let s = compressing_more c.args.cells.now c.loop-c.cells c.slide-2.new.cells b.rows left b.first b.count (omega arith) (omega arith) last _ _ (left - b.first) refl refl (omega arith) at c.slide-2.ensures in
    compressed_all b.rows b.columns b.first b.count c.requires.0 c.args.cells.now _ last _ (omega arith) (omega arith) s
