use Rattle.sheet.proofs.sheet.Sheet.open_gap.Goals as goal

pub invariant_of-result : goal.invariant_of-result
invariant_of-result g c = record { left = ∣ record { former = c.args.self.parts; gap = c.open_gap-answer.ensures } ∣₁ }
