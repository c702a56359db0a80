use Rattle.std.proofs.Common.{◌≡◌, ◌+◌, ◌-◌, ◌*◌, ◌++◌, map, get_or, vec_items}
use Rattle.std.specs.List.{range_with_len}
use Rattle.answers.specs.Answers.{spaced}
use Rattle.answers.proofs.answer.put_row.Given as goal

abbrev pub invariant-loop-column : goal.invariant-loop-column
invariant-loop-column l =
    vec_items l.out ++ spaced (map (λ c. get_or l.cells (l.row + c * l.rows) 0) (range_with_len l.column (l.columns - l.column)))
    ≡ vec_items l.initial.out ++ spaced (map (λ c. get_or l.cells (l.row + c * l.rows) 0) (range_with_len 1 (l.columns - 1)))
