use Rattle.std.proofs.Common.{rules, ◌++◌, true, map, length, drop, sym, ap, ◌∙◌, arith, length-append}
use mathlib.Core.Bool.{beq}
use Rattle.std.specs.List.{IsChunkByPrefix}
use Rattle.std.proofs.lemmas.Fn.{always_returns_same}
use Rattle.moves.specs.Stores.{items}
use Rattle.moves.proofs.Saves.{grown_long, kept_on}
use Rattle.journal.specs.View.{run_of}
use Rattle.listed.proofs.Walks.{Part, part_clear, part_ends, part_first, part_inside, part_rest, part_run, run_written}
use Rattle.listed.proofs.finding.find_runs.Goals.{then-alike, else-alike}
use Rattle.listed.proofs.finding.find_runs.Goals as goal

pub push-requires : goal.push-requires
push-requires c =
    let i = c.loop-alike.invariant in
    let t = (rw c.in-Some.is at c.next.ensures.steps) in
    let s : Part _ _ _ _ = record { inside = i.within; cut = i.rest ∙ t.0; some = t.1 } in
    let inside = part_inside s in
    let few = i.apart (omega arith) (part_first s ∙ c.if-alike.true) in
    omega arith

pub overflow_add-at : goal.overflow_add-at
overflow_add-at c =
    let i = c.loop-alike.invariant in
    let t = (rw c.in-Some.is at c.next.ensures.steps) in
    let inside = part_inside (record { inside = i.within; cut = i.rest ∙ t.0; some = t.1 }) in
    omega arith

pub loop-alike-preserved : goal.loop-alike-preserved
loop-alike-preserved c =
    let i = c.loop-alike.invariant in
    let part = c.in-Some.alike.now in
    let t = (rw c.in-Some.is at c.next.ensures.steps) in
    let s : Part _ _ _ _ = record { inside = i.within; cut = i.rest ∙ t.0; some = t.1 } in
    let longest : IsChunkByPrefix beq (drop c.loop-alike.at c.args.marks.now) (length part) =
    rw i.rest (t.2 beq (always_returns_same _ _ _ (λ a r f d. search rules))).1 in
    elim c.if-alike.branch [
      | then-alike w ↦
          let more = w.push.ensures.more in
          let many = ap (λ runs. length (items runs)) w.runs-is ∙ ap length more ∙ length-append (items c.loop-alike.runs) _ in
          let inside = part_inside s in
          let few = i.apart (omega arith) (part_first s ∙ w.if-alike.true) in record {
            within = inside;
            rest = part_rest s;
            few = omega arith;
            apart = λ h e. absurd (part_ends s longest true w.if-alike.true h e);
            found = rw w.runs-is (run_written _ _ _ (length part) _ _ _ more (part_run s longest w.if-alike.true) i.found);
            kept = rw w.runs-is (kept_on _ _ _ i.kept (grown_long _ _ _ w.push.ensures) w.push.ensures.kept);
          }
      | else-alike w ↦
          let many = ap (λ runs. length (items runs)) w.runs-is in record {
            within = part_inside s;
            rest = part_rest s;
            few = omega arith;
            apart = λ h e. omega arith;
            found = rw w.runs-is (ap (λ zs. map run_of (items c.loop-alike.runs) ++ zs) (sym (part_clear s longest w.if-alike.false)) ∙ i.found);
            kept = rw w.runs-is i.kept;
          }
    ]
