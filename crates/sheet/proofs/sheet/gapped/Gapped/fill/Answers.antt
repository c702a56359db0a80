use Rattle.std.proofs.Common.{◌≡◌, false, true, is_err, sym, subst, rules}
use Rattle.journal.specs.declared.parts.Parts.{Parts}
use Rattle.gaps.specs.Gaps.{Fills}
use Rattle.gaps.proofs.Joining.{fills, fills_none, filled_held}
use Rattle.sheet.proofs.sheet.gapped.Gapped.fill.Given as given
use Rattle.sheet.proofs.sheet.gapped.Gapped.fill.Goals.{Joined-is_ok, then-is_ok, else-is_ok}
use Rattle.sheet.proofs.sheet.gapped.Gapped.fill.Goals as goal

-- filled or not
filled :
    (g : given.Over) (c : Joined-is_ok g)
    → Fills c.args.self.parts c.if-is_ok.parts c.args.self.side c.args.self.at c.args.self.count c.args.self.answer c.args.list.now c.args.v
filled g c =
    let s = c.args.self in
    let list = c.args.list.now in
    let v = c.args.v in
    elim c.if-is_ok.branch [
      | then-is_ok w ↦
          let ok : false ≡ is_err s.answer = search rules in
          subst (λ (z : Parts g.row.T.Denot). Fills s.parts z s.side s.at s.count s.answer list v) (sym w.parts-is)
          (fills s.parts w.fill_gap.new.p s.side s.at s.count s.answer list v ok w.fill_gap.ensures)
      | else-is_ok w ↦
          let no : true ≡ is_err s.answer = search rules in
          subst (λ (z : Parts g.row.T.Denot). Fills s.parts z s.side s.at s.count s.answer list v) (sym w.parts-is)
          (fills_none s.parts s.side s.at s.count s.answer list v no)
    ]

pub invariant_of-result : goal.invariant_of-result
invariant_of-result g c =
    let s = c.args.self in
    record { reachable = filled_held s.parts _ _ _ _ s.left c.if-is_ok.parts _ _ (filled g c) }

pub returns : goal.returns
returns g c = filled g (goal.at.returns g c).Joined-is_ok
