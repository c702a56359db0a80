use Rattle.std.proofs.Common.{ℕ, length, sym, refl, subst}
use Rattle.std.proofs.lemmas.Result.{MatchResult-weaker}
use Rattle.edition.specs.Selections.{Packed, Selected, spread}
use Rattle.edition.specs.Turned.{turn}
use Rattle.edition.proofs.Selecting.{column_lines, columns_packed, columns_selected}
use Rattle.edition.proofs.select_columns.Goals as goal

pub select_lines-requires : goal.select_lines-requires
select_lines-requires g c =
    let count = length c.args.list.now in
    let rows = (g.L.Layout.grid c.args.layout.now).rows in
    record {
      all = refl;
      packed = subst (λ (z : ℕ). Packed (spread (column_lines count z) rows)) (sym c.shape-rows.ensures.0) (columns_packed count rows);
    }

pub returns-clause-after : goal.returns-clause-after
returns-clause-after g c =
    let grid = g.L.Layout.grid c.args.layout.now in
    let list = c.args.list.now in
    MatchResult-weaker c.select_lines.result c.select_lines.ensures.after
    (λ _ s. columns_selected grid list c.args.source.now _ _
    (subst (λ (z : ℕ). Selected (turn grid) list (column_lines (length list) z) c.args.source.now c.args.target.now c.select_lines.new.target) c.shape-rows.ensures.0 s))
    (λ _ same. same)
