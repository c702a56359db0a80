use Rattle.std.proofs.Common.{length, sym, ◌∙◌, rules, tests, length-append}
use Rattle.std.proofs.lemmas.Iterator.Splits.{YieldsList-from_slice_split}
use Rattle.std.proofs.lemmas.Iterator.Consumers.{YieldsList-from_enumerate}
use Rattle.script.specs.Words.{words_of}
use Rattle.script.proofs.Listing.{Next, next_word, no_word, read_room, read_more, read_bad, read_all}
use Rattle.script.proofs.command.numbers_of.Goals as goal
use Rattle.script.proofs.command.numbers_of.Goals.{In-Some-2, in-Some+in-None, in_default}

next : (c : In-Some-2) → Next (words_of c.args.words) c.in-Some-2.word.now c.in-Some-2.k (length c.loop-k.yielded)
next c =
    next_word c.in-Some.is (YieldsList-from_enumerate (YieldsList-from_slice_split _ _ c.in-Some.text.now (cc) (cc) (cc) (λ x b q k. search (rules, tests))) (cc)) _ c.loop-k.yielded_by c.next.ensures.steps c.in-Some-2.is

pub returns-in_err-at : goal.returns-in_err-at
returns-in_err-at c =
    let bad = read_bad _ _ _ _ _ (next (goal.at.returns-in_err-at c).In-Some-2) c.requires c.loop-k.invariant (sym c.in_err-at.ensures.ok_part ∙ c.value.ensures) in
    let e = c.in_err-at.ensures.value in
    search rules

pub bounds-at-k : goal.bounds-at-k
bounds-at-k c = read_room _ _ _ _ _ (next (goal.at.bounds-at-k c).In-Some-2) c.requires c.loop-k.invariant

pub loop-k-preserved : goal.loop-k-preserved
loop-k-preserved c = read_more _ _ _ _ _ (next (goal.at.loop-k-preserved c).In-Some-2) c.requires c.loop-k.invariant _ _ (sym c.in_ok-at.ensures.ok_part ∙ c.value.ensures) (length-append c.loop-k.yielded _)

pub returns : goal.returns
returns c =
    elim c.match-words.branch [
      | in-Some+in-None w ↦
          let all = no_word w.in-Some.is (YieldsList-from_enumerate (YieldsList-from_slice_split _ _ w.in-Some.text.now (cc) (cc) (cc) (λ x b q k. search (rules, tests))) (cc)) _ w.loop-k.yielded_by w.next.ensures.steps w.in-None.is in
          let read = read_all _ _ _ all w.loop-k.invariant in
          search rules
      | in_default w ↦ search rules
    ]
