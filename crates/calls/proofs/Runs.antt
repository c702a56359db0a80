-- Calls one after another: one call more.
use Rattle.std.proofs.Common.{◌≡◌, ℕ, ◌+◌, ◌<◌, List, [], ◌∷◌, ◌++◌, map, take, drop, length, slice_index_or, slice_set, Result, sym, ap, subst, ◌∙◌, arith}
use Rattle.std.proofs.lemmas.List.{map-append, take_more, take_more_set, drop-set-lt, drop-drop}
use Rattle.layout.specs.declared.refusal.Refusal.{Refusal}
use Rattle.model.specs.Journal.{Sheet, run, step}
use Rattle.model.proofs.Replays.{run_more}
use Rattle.journal.specs.declared.parts.Parts.{Parts}
use Rattle.journal.specs.View.{answered, view}
use Rattle.journal.specs.Answering.{Answers, Held}
use Rattle.calls.specs.declared.call.Call.{Call}
use Rattle.calls.specs.Calls.{Ran, call_of}

pub one_more :
    {A : Type 0} (s : Sheet A) (p q : Parts A) (calls : List (Call A)) (call : Call A) (answers : List (Result Unit Refusal)) (r : Result Unit Refusal)
    → Ran s calls p answers → Answers p q (call_of call) r
    → Ran s (calls ++ call ∷ []) q (answers ++ r ∷ [])
one_more s p q calls call answers r ran a =
    ap (λ z. (view q, z)) (map-append answered answers (r ∷ []))
    ∙ (λ j. (a.state j, map answered answers ++ a.which j ∷ []))
    ∙ ap (λ z. ((step z.0 (call_of call)).0, z.1 ++ (step z.0 (call_of call)).1 ∷ [])) ran
    ∙ sym (run_more s (map call_of calls) (call_of call))
    ∙ ap (run s) (sym (map-append call_of calls (call ∷ [])))

-- before call k
pub record Turn {A : Type 0} (s : Sheet A) (calls : List (Call A)) (was answers : List (Result Unit Refusal)) (p : Parts A) (k : ℕ) : Type 0 where
  pub ran : Ran s (take k calls) p (take k answers)
  pub left : drop k answers ≡ drop k was
  pub held : Held p

pub turn_more :
    {A : Type 0} (s : Sheet A) (p q : Parts A) (calls : List (Call A)) (was answers : List (Result Unit Refusal)) (k : ℕ) (call : Call A) (r : Result Unit Refusal)
    → k < length calls → k < length answers → call ≡ slice_index_or calls k call
    → Turn s calls was answers p k → Answers p q (call_of call) r
    → Turn s calls was (slice_set answers k r) q (k + 1)
turn_more s p q calls was answers k call r there place is so a =
    record {
      ran = subst (λ z. Ran s z q (take (k + 1) (slice_set answers k r))) (ap (λ z. take k calls ++ z ∷ []) is ∙ sym (take_more calls k call there))
          (subst (λ z. Ran s (take k calls ++ call ∷ []) q z) (sym (take_more_set answers k r place)) (one_more s p q (take k calls) call (take k answers) r so.ran a));
      left = drop-set-lt (k + 1) answers k r (omega arith) ∙ sym (drop-drop 1 k answers) ∙ ap (drop 1) so.left ∙ drop-drop 1 k was;
      held = a.held;
    }
