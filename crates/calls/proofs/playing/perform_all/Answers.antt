use Rattle.std.proofs.Common.{◌≡◌, take, drop, length, refl, ap, subst, ◌∙◌, arith}
use Rattle.std.proofs.Math.Seq.{take-length}
use Rattle.std.proofs.lemmas.List.{length-take}
use Rattle.journal.specs.View.{view}
use Rattle.calls.specs.Calls.{Ran}
use Rattle.calls.proofs.Runs.{turn_more}
use Rattle.calls.proofs.playing.perform_all.Goals as goal

pub loop-k-init : goal.loop-k-init
loop-k-init g c = record { ran = refl; left = refl; held = c.requires }

pub perform-requires : goal.perform-requires
perform-requires g c = c.loop-k.invariant.held

pub loop-k-preserved : goal.loop-k-preserved
loop-k-preserved g c =
    let a = c.args in
    let items = take c.min-count.result a.calls.now in
    turn_more (view a.p.now) c.loop-k.p c.perform.new.p items a.answers.now c.loop-k.answers c.loop-k.k c.call-item.result c.perform.result
    c.loop-k-test.true
    (omega (arith, c.loop-k-test.true, c.loop-k.auto.answers, c.min-count.ensures, length-take c.min-count.result a.calls.now))
    c.call-item.is
    c.loop-k.invariant
    c.perform.ensures

pub returns-clause-ran : goal.returns-clause-ran
returns-clause-ran g c =
    let a = c.args in
    let n = c.min-count.result in
    let items = take n a.calls.now in
    let long = length-take n a.calls.now in
    let end : c.loop-k.k ≡ n = omega (arith, c.loop-k-test.false, c.loop-k.auto.k-end, c.min-count.ensures, long) in
    let all : take n items ≡ items = ap (λ m. take m items) (let e : n ≡ length items = omega (arith, c.min-count.ensures, long) in e) ∙ take-length items in
    subst (λ z. Ran (view a.p.now) z c.loop-k.p (take n c.loop-k.answers)) all
    (subst (λ m. Ran (view a.p.now) (take m items) c.loop-k.p (take m c.loop-k.answers)) end c.loop-k.invariant.ran)

pub returns-clause-left : goal.returns-clause-left
returns-clause-left g c =
    let a = c.args in
    subst (λ n. drop n c.loop-k.answers ≡ drop n a.answers.now)
    (omega (arith, c.loop-k-test.false, c.loop-k.auto.k-end, c.min-count.ensures, length-take c.min-count.result a.calls.now))
    c.loop-k.invariant.left

pub returns-clause-held : goal.returns-clause-held
returns-clause-held g c = c.loop-k.invariant.held
