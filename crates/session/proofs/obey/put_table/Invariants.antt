use Rattle.std.proofs.Common.{◌≡◌, ℕ, ◌++◌, vec_items}
use Rattle.model.specs.Sheet.{Table}
use Rattle.session.specs.Transcript.{printed}
use Rattle.session.proofs.Printing.{printed_from}
use Rattle.session.proofs.obey.put_table.Given as goal

abbrev pub invariant-loop-r : goal.invariant-loop-r
invariant-loop-r l =
    let t : Table ℕ = record { rows = l.rows; columns = l.columns; cells = l.cells } in
    vec_items l.out ++ printed_from t l.r ≡ vec_items l.initial.out ++ printed t
