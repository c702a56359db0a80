use Rattle.std.proofs.Common.{ap, ◌∙◌, arith, sum_by}
use Rattle.journal.specs.declared.parts.Run.{Run}
use Rattle.listings.proofs.Working.{found_own, lines_few, own_few}
use Rattle.listings.proofs.find_own.Goals as goal

pub count_lines-requires : goal.count_lines-requires
count_lines-requires g c =
    let a = c.args in
    let e = found_own a.list.now _ _ _ _ _ c.requires.0 c.count-count.ensures c.find_listed.ensures.found c.as_slice.ensures in
    omega (arith, own_few a.list.now _ c.as_slice.result.now e, lines_few a.table.now a.side)

pub returns-clause-gone : goal.returns-clause-gone
returns-clause-gone g c =
    let a = c.args in
    let e = found_own a.list.now _ _ _ _ _ c.requires.0 c.count-count.ensures c.find_listed.ensures.found c.as_slice.ensures in
    let few = own_few a.list.now _ c.as_slice.result.now e in
    (c.count_lines.ensures ∙ ap (sum_by (λ (r : Run). r.length)) c.as_slice.ensures, omega (arith, few, c.count_lines.ensures))
