use Rattle.std.proofs.Common.{◌≡◌, ◌++◌, map, length, refl, ap, ◌∙◌}
use Rattle.moves.specs.Stores.{items}
use Rattle.model.specs.Sheet.{listed}
use Rattle.journal.specs.View.{run_of}
use Rattle.listed.specs.Runs.{marked}
use Rattle.listed.proofs.Walks.{found_as}
use Rattle.listed.proofs.Marks.{table_clear, table_long}
use Rattle.listed.proofs.finding.find_listed.Goals as goal

pub mark_listed-requires : goal.mark_listed-requires
mark_listed-requires c = table_clear _ c.args.count refl

pub returns-clause-found : goal.returns-clause-found
returns-clause-found c =
    let marks = c.mark_listed.new.marks in
    let long : length marks ≡ c.args.count = c.mark_listed.auto.marks ∙ table_long _ c.args.count 4096 refl c.requires.1 in
    c.find_runs.ensures.found ∙ ap (λ zs. map run_of (items c.args.runs.now) ++ zs) (found_as (marked marks) (listed c.args.list.now) (length marks) c.args.count long c.mark_listed.ensures)
