-- A sheet of one value, opened.
use Rattle.std.proofs.Common.{◌≡◌, ℕ, ◌*◌, ◌≤◌, true, leb, [], drop, replicate, Ok, sym, refl, ap, ◌∙◌, subst, ap₂, arith}
use lib.ListN.{length-replicate}
use Rattle.std.proofs.lemmas.List.{take-replicate}
use Rattle.std.proofs.lemmas.Bool.{and_from, le-leb}
use Rattle.layout.specs.Checks.{Passes, dense_rules}
use Rattle.layout.specs.Dense.{dense_lawful}
use Rattle.layout.specs.Lawful.{dense}
use Rattle.model.specs.Journal.{Room, done, first_no, opened}
use Rattle.journal.proofs.Asking.{passes}
use Rattle.sheet.specs.Opening.{opening_rules, table_in}
use Rattle.sheet.proofs.Openings.{cloned_cells}
use Rattle.session.specs.declared.state.Session.{Session}
use Rattle.session.specs.Transcript.{new_tests, plain}
use Rattle.session.specs.Meaning.{NewAnswers, state_of}

module _ (rows columns v : ℕ) (few : Passes (dense_rules rows columns)) where
  pub plain_table : rows * columns ≤ 4096 → table_in (dense rows columns) (replicate 4096 v) ≡ plain rows columns v
  plain_table h =
      let xs = replicate 4096 v in
      let long = length-replicate 4096 v in
      ap (λ cells. record { rows = rows; columns = columns; cells = cells })
      (sym (cloned_cells (dense rows columns) (dense_lawful rows columns few.0.0 few.0.1 few.1.0) xs (omega arith) xs xs (omega arith)
      (record { long = refl; cells = λ r c d a b. refl; rest = λ k d a. refl }))
      ∙ take-replicate (rows * columns) 4096 v h)

  -- once all questions are answered yes
  module _ (r : Room) (asked : Passes (opening_rules (dense rows columns) 4096 r)) where
    pub new_passes : done ≡ first_no (new_tests r rows columns)
    new_passes =
        let s = asked.0 in
        passes 3 _ (drop 1 (new_tests r rows columns)) done (and_from (leb rows 4096) (leb columns 4096) (le-leb rows 4096 few.0.0) (le-leb columns 4096 few.0.1))
        (passes 4 _ (drop 2 (new_tests r rows columns)) done (le-leb (rows * columns) 65536 few.1.0)
        (passes 1 _ (drop 3 (new_tests r rows columns)) done
        (and_from (leb r.for_cells 65536) _ (le-leb r.for_cells 65536 s.0) (and_from (leb r.for_entries 4096) _ (le-leb r.for_entries 4096 s.1) (and_from (leb r.for_runs 32768) _ (le-leb r.for_runs 32768 s.2) (le-leb r.for_saved 65536 s.3))))
        (passes 4 _ (drop 4 (new_tests r rows columns)) done (le-leb (rows * columns) r.for_cells asked.1.1.0)
        (passes 10 _ [] done (le-leb (rows * columns) 4096 asked.1.1.1.0) refl))))

-- the sheet that n opens
pub new_opened :
    (s t : Session) (rows columns v dr dc : ℕ) → Passes (dense_rules rows columns) → dr ≡ rows → dc ≡ columns → t.opened ≡ true
    → Passes (opening_rules (dense dr dc) 4096 (state_of s).sheet.room)
    → (state_of t).sheet ≡ opened (table_in (dense dr dc) (replicate 4096 v)) (state_of s).sheet.room
    → NewAnswers s t rows columns v (Ok tt)
new_opened s t rows columns v dr dc few er ec op asked is =
    let room = (state_of s).sheet.room in
    let passed : Passes (opening_rules (dense rows columns) 4096 room) =
    subst (λ z. Passes (opening_rules (dense rows z) 4096 room)) ec (subst (λ z. Passes (opening_rules (dense z dc) 4096 room)) er asked) in
    let small : rows * columns ≤ 4096 = passed.1.1.1.0 in
    let table : table_in (dense dr dc) (replicate 4096 v) ≡ plain rows columns v =
    ap₂ (λ x y. table_in (dense x y) (replicate 4096 v)) er ec ∙ plain_table rows columns v few small in
    record {
      which = new_passes rows columns v few room passed;
      state = ap₂ (λ b z. record { is_open = b; sheet = z }) op (is ∙ ap (λ z. opened z room) table);
    }
