use Rattle.std.proofs.Common.{length, refl}
use Rattle.std.proofs.lemmas.Result.{MatchResult-weaker}
use Rattle.edition.proofs.Selecting.{rows_packed, rows_selected}
use Rattle.edition.proofs.select_rows.Goals as goal

pub select_lines-requires : goal.select_lines-requires
select_lines-requires g c =
    record { all = refl; packed = rows_packed (length c.args.list.now) (g.L.Layout.grid c.args.layout.now).columns }

pub returns-clause-after : goal.returns-clause-after
returns-clause-after g c =
    MatchResult-weaker c.select_lines.result c.select_lines.ensures.after
    (λ _ s. rows_selected (g.L.Layout.grid c.args.layout.now) c.args.list.now c.args.source.now _ _ s) (λ _ same. same)
