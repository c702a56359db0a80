use Rattle.std.proofs.Common.{◌+◌, ◌-◌, ◌*◌, ◌≡◌, min, ap, arith, ℕ}
use Rattle.std.proofs.Math.Nat.{min-le_right}
use Rattle.moves.proofs.Slides.{part_ends, slid_on, slid_from_on}
use Rattle.moves.proofs.blocks.slide_within.Goals as goal
use Rattle.moves.proofs.blocks.slide_within.Goals.{then-to-from-2, else-to-from-2}

pub loop-k-preserved : goal.loop-k-preserved
loop-k-preserved g c =
    let k = c.loop-k.k in
    let len = c.args.len in
    let parts = c.div_ceil-parts.result in
    let xs = c.args.cells.now in
    let ys = c.loop-k.cells in
    let zs = c.slide_block-in-loop-k.new.cells in
    elim c.if-to-from-2.branch [
      | then-to-from-2 w ↦
          let p = part_ends k len (4096 * c.if-to-from-2.part) c.min.result (omega arith) (omega arith) c.min.ensures in (
            λ h. slid_on xs ys zs c.args.from c.args.to _ c.min.result _ _ _ (omega (arith, p)) (omega (arith, p)) (omega (arith, p)) (omega arith) (c.loop-k.invariant.0 h) c.slide_block-in-loop-k.ensures,
            λ h. absurd (omega arith),
          )
      | else-to-from-2 w ↦
          let j : ℕ = parts - (k + 1) in
          let p = part_ends j len (4096 * c.if-to-from-2.part) c.min.result (omega arith) (omega arith) c.min.ensures in
          let e : min (4096 * (parts - k)) len ≡ min (4096 * (j + 1)) len = ap (λ z. min (4096 * z) len) (let z : parts - k ≡ j + 1 = omega arith in z) in (
            λ h. absurd (omega arith),
            λ h. slid_from_on xs ys zs c.args.from c.args.to _ _ c.min.result len _ _ (omega (arith, p, e)) (omega (arith, min-le_right (4096 * (parts - k)) len)) (omega (arith, p)) (omega (arith, p)) h (c.loop-k.invariant.1 h) c.slide_block-in-loop-k.ensures,
          )
    ]
