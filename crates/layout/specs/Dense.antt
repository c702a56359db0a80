-- The dense layout keeps the law.
use Rattle.std.specs.Prelude.{◌≡◌, ℕ, ◌+◌, ◌*◌, ◌/◌, ◌<◌, ◌≤◌}
use Rattle.std.proofs.Common.{sym, ap, ◌∙◌, arith}
use Rattle.std.proofs.lemmas.Nat.{div-mul-add, mul-add-lt}
use Rattle.layout.specs.Lawful.{Lawful, dense}

-- the two parts of a * w + b
pub same_parts : (a w b c d : ℕ) → b < w → d < w → a * w + b ≡ c * w + d → (a ≡ c) × (b ≡ d)
same_parts a w b c d p q e =
    let s : a ≡ c = sym (div-mul-add a w b p) ∙ ap (λ n. n / w) e ∙ div-mul-add c w d q in
    let m : a * w ≡ c * w = ap (λ n. n * w) s in
    (s, omega arith)

pub dense_lawful : (rows columns : ℕ) → rows ≤ 4096 → columns ≤ 4096 → rows * columns ≤ 65536 → Lawful (dense rows columns)
dense_lawful rows columns h k l =
    record {
      few_rows = h;
      few_columns = k;
      short_span = l;
      within = λ r c p q. omega (arith, mul-add-lt c rows r columns q p);
      distinct = λ r c i j p q p' q' e. let s = same_parts c rows r j i p p' (omega arith) in (s.1, s.0);
    }
