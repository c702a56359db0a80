-- A run and an entry more.
use Rattle.std.proofs.Common.{◌≡◌, ℕ, ◌<◌, nat_lt, List, [], ◌∷◌, ◌++◌, map, reverse, sym, ap, ◌∙◌}
use mathlib.Core.List.{map-append}
use Rattle.std.proofs.lemmas.List.{reverse-append}
use Rattle.std.proofs.lemmas.Bool.{cond-true, lt-ltb}
use Rattle.journal.specs.declared.parts.Run.{Run}
use Rattle.journal.specs.declared.parts.Entry.{Entry}
use Rattle.journal.specs.View.{entry_of, run_of}
use Rattle.model.specs.Journal.{one_run}

pub one_run_lem : (i n : ℕ) → 0 < n → one_run i n ≡ (i, n) ∷ []
one_run_lem i n h = cond-true (nat_lt 0 n) ((i, n) ∷ []) [] (lt-ltb 0 n h)

pub run_more : (xs : List Run) (i n : ℕ) → 0 < n → map run_of (xs ++ record { offset = i; length = n } ∷ []) ≡ map run_of xs ++ one_run i n
run_more xs i n h = map-append run_of xs _ ∙ ap (λ z. map run_of xs ++ z) (sym (one_run_lem i n h))

pub entry_more : (xs : List Entry) (x : Entry) → map entry_of (reverse (xs ++ x ∷ [])) ≡ entry_of x ∷ map entry_of (reverse xs)
entry_more xs x = ap (map entry_of) (reverse-append xs (x ∷ []))
