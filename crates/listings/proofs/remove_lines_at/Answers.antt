use Rattle.std.proofs.Common.{◌≡◌, ◌-◌, ◌<◌, ap, rules, arith}
use Rattle.std.proofs.lemmas.Result.{err_from_is_err_and}
use Rattle.layout.specs.declared.side.Side.TheVariants.{Rows}
use Rattle.listings.proofs.Working.{carried_out, found_lines, no_column, own_runs, stopped}
use Rattle.listings.proofs.remove_lines_at.Goals as goal
use Rattle.listings.proofs.remove_lines_at.Goals.{else-eq-via-then-eq+else-p-eq0, else-eq-via-else-eq}

pub overflow_sub-left : goal.overflow_sub-left
overflow_sub-left g c = omega (arith, c.find_own-gone.ensures.gone.1, c.count.ensures)

pub returns-in_err-ask_with : goal.returns-in_err-ask_with
returns-in_err-ask_with g c =
    let a = c.args in
    let own = c.as_slice-own.result.now in
    let h = found_lines a.list.now _ _ own _ c.as_slice-own.ensures c.find_own-gone.ensures.found c.find_own-gone.ensures.gone.0 in
    let q = err_from_is_err_and c.from_residual.result c.from_residual.ensures.1 in
    rw (q.1, q.2) (stopped a.p.now a.side a.list.now own h.0 c.find_own-gone.result h.1 _ _ (ap (λ z. z - c.find_own-gone.result) c.count.ensures) c.cells_in-lost.ensures c.requires
    _ c.in_err-ask_with.ensures.which)

pub returns-then-p-eq0 : goal.returns-then-p-eq0
returns-then-p-eq0 g c =
    let a = c.args in
    let own = c.as_slice-own.result.now in
    let h = found_lines a.list.now _ _ own _ c.as_slice-own.ensures c.find_own-gone.ensures.found c.find_own-gone.ensures.gone.0 in
    no_column a.p.now a.side a.list.now own h.0 c.find_own-gone.result h.1 _ _ (ap (λ z. z - c.find_own-gone.result) c.count.ensures) c.cells_in-lost.ensures c.requires
    c.in_ok-ask_with.ensures.which (search rules) c.if-p-eq0.true

pub cut_lines-requires-clause-own : goal.cut_lines-requires-clause-own
cut_lines-requires-clause-own g c =
    let a = c.args in
    let own = c.as_slice-own.result.now in
    let h = found_lines a.list.now _ _ own _ c.as_slice-own.ensures c.find_own-gone.ensures.found c.find_own-gone.ensures.gone.0 in
    own_runs a.p.now a.side a.list.now own h.0 c.find_own-gone.result h.1

pub returns : goal.returns
returns g c =
    let a = c.args in
    let own = c.as_slice-own.result.now in
    let h = found_lines a.list.now _ _ own _ c.as_slice-own.ensures c.find_own-gone.ensures.found c.find_own-gone.ensures.gone.0 in
    let there : a.side ≡ Rows → 0 < a.p.now.table.columns =
    elim c.else-eq.branch [
      | else-eq-via-then-eq+else-p-eq0 w ↦ λ r. omega arith
      | else-eq-via-else-eq w ↦ let other : a.side ≡ Rows → ⊥ = search rules in λ r. absurd (other r)
    ] in
    carried_out a.p.now a.side a.list.now own h.0 c.find_own-gone.result h.1 _ _ (ap (λ z. z - c.find_own-gone.result) c.count.ensures) c.cells_in-lost.ensures c.requires
    c.cut_lines.new.p c.in_ok-ask_with.ensures.which there c.cut_lines.ensures
