-- A table copied through a layout is the table that the layout has.
use Rattle.std.proofs.Common.{◌≡◌, ℕ, ◌+◌, ◌*◌, ◌<◌, ◌≤◌, List, [], map, reverse, length, take, drop, Ok, Err, Result, sym, refl, ap, ◌∙◌, subst, ap₂, arith, length-drop, length-take, MatchResult}
use Rattle.std.specs.List.{range_with_len, AllByRecursion as All}
use Rattle.std.proofs.lemmas.Nat.{mul-add-lt}
use Rattle.std.proofs.lemmas.List.FromFn.{length-range_with_len, get_or-range_with_len}
use Rattle.layout.specs.declared.refusal.Refusal.{Refusal}
use Rattle.layout.specs.Lawful.{Grid, Lawful}
use Rattle.layout.specs.Cells.{Cloned}
use Rattle.layout.specs.Checks.{Checked, Passes}
use Rattle.model.specs.Sheet.{cell_at}
use Rattle.model.specs.Journal.{Right, Room, opened}
use Rattle.model.specs.Reached.{Reachable}
use Rattle.model.proofs.Grids.{Single, Singles, length_grid, grid_at, all_counting}
use Rattle.model.proofs.Joins.{table_cells, same_cell}
use Rattle.model.proofs.Reaching.{opened_reached}
use Rattle.journal.specs.declared.parts.Run.{Run}
use Rattle.journal.specs.declared.parts.Entry.{Entry}
use Rattle.journal.specs.declared.parts.Parts.{Parts}
use Rattle.journal.specs.View.{entry_of, room_of, run_of, view}
use Rattle.journal.specs.Entering.{Holds}
use Rattle.journal.proofs.Answering.{same_room, same_sheet}
use Rattle.sheet.specs.Opening.{no_table, opening_rules, room, room_in, table_in}

module _ {A : Type 0} (grid : Grid) (law : Lawful grid) (xs : List A) (reached : grid.span ≤ length xs) where
  read : ℕ × ℕ → List A
  read q = take 1 (drop (grid.place q.0 q.1) xs)

  in_source : (r c : ℕ) → r < grid.rows → c < grid.columns → grid.place r c < length xs
  in_source r c h k = let w = law.within r c h k in omega arith

  single : (r c : ℕ) → r < grid.rows → c < grid.columns → Single (take 1 (drop (grid.place r c) xs))
  single r c h k =
      let w = in_source r c h k in
      let f = length-drop (grid.place r c) xs in
      length-take 1 (drop (grid.place r c) xs) ∙ omega arith

  singles : Singles (λ (q : ℕ × ℕ). take 1 (drop (grid.place q.0 q.1) xs)) (range_with_len 0 grid.rows) (range_with_len 0 grid.columns)
  singles =
      all_counting (λ l. All (λ k. Single (take 1 (drop (grid.place k l) xs))) (range_with_len 0 grid.rows)) 0 grid.columns (λ l a b.
      all_counting (λ k. Single (take 1 (drop (grid.place k l) xs))) 0 grid.rows (λ k c d. single k l (omega arith) (omega arith)))

  pub table_right : Right (table_in grid xs)
  table_right =
      length_grid (λ (q : ℕ × ℕ). take 1 (drop (grid.place q.0 q.1) xs)) (range_with_len 0 grid.rows) (range_with_len 0 grid.columns) singles
      ∙ ap₂ ◌*◌ (length-range_with_len 0 grid.rows) (length-range_with_len 0 grid.columns)

  table_at : (r c : ℕ) → r < grid.rows → c < grid.columns → cell_at (table_in grid xs) r c ≡ take 1 (drop (grid.place r c) xs)
  table_at r c h k =
      let lr = length-range_with_len 0 grid.rows in
      let lc = length-range_with_len 0 grid.columns in
      ap (λ z. take 1 (drop (r + c * z) (table_in grid xs).cells)) (sym lr)
      ∙ grid_at (λ (q : ℕ × ℕ). take 1 (drop (grid.place q.0 q.1) xs)) (range_with_len 0 grid.rows) (range_with_len 0 grid.columns) r c 0 0 singles (omega arith) (omega arith)
      ∙ ap₂ (λ x y. take 1 (drop (grid.place x y) xs)) (get_or-range_with_len 0 grid.rows r 0 h ∙ omega arith) (get_or-range_with_len 0 grid.columns c 0 k ∙ omega arith)

  pub cloned_cells : (was is : List A) → grid.rows * grid.columns ≤ length was → Cloned grid xs was is grid.columns
      → take (grid.rows * grid.columns) is ≡ (table_in grid xs).cells
  cloned_cells was is room h =
      let long : length is ≡ length was = h.long in
      table_cells (table_in grid xs) is table_right (omega arith) (λ r c a b.
      let below = mul-add-lt c grid.rows r grid.columns b a in
      same_cell is xs (r + c * grid.rows) (grid.place r c) (omega arith) (in_source r c a b) (λ d. h.cells r c d a b)
      ∙ sym (table_at r c a b))

  pub opened_reachable : (room : Room) → grid.rows * grid.columns ≤ room.for_cells → Reachable (opened (table_in grid xs) room)
  opened_reachable room fits = opened_reached (table_in grid xs) room (record { right = table_right; rows = law.few_rows; columns = law.few_columns; cells = fits })

-- what stands in the buffers once they are filled
pub filled_reachable :
    {A : Type 0} (grid : Grid) (law : Lawful grid) (source : List A) (q : Parts A) (r : Room) → Passes (opening_rules grid (length source) r)
    → view q ≡ opened (table_in grid source) r → Reachable (view q)
filled_reachable grid law source q r rules is = subst Reachable (sym is) (opened_reachable grid law source rules.1.1.1.0 r rules.1.1.0)

-- and where that was asked first
pub refilled_reachable :
    {A : Type 0} (grid : Grid) → Lawful grid → (source : List A) (p q : Parts A) (r : Result Unit Refusal) → Reachable (view p)
    → Checked (opening_rules grid (length source) (room_of p)) r
    → MatchResult r (λ _. view q ≡ opened (table_in grid source) (room_of p)) (λ _. q ≡ p) → Reachable (view q)
refilled_reachable grid law source p q (Ok u) reachable rules w = filled_reachable grid law source q (room_of p) rules w
refilled_reachable {A} grid law source p q (Err e) reachable rules same = subst (λ (z : Parts A). Reachable (view z)) (sym same) reachable

-- parts that hold nothing yet
module _ {A : Type 0} (p : Parts A) (cells : List A) (es : List Entry) (rs : List Run) (ks : List A) (h : Holds p cells es rs ks) where
  pub holds_room : room_of p ≡ room_in cells es rs ks
  holds_room = same_room _ _ _ _ _ _ _ _ (ap length h.cells) (ap length h.entries.stand) (ap length h.runs.stand) (ap length h.saved.stand)

  holds_opened : cells ≡ [] → view p ≡ opened no_table (room_in cells es rs ks)
  holds_opened e =
      same_sheet (view p) (opened no_table (room_in cells es rs ks)) h.rows h.columns (ap₂ take (ap₂ ◌*◌ h.rows h.columns) (h.cells ∙ e))
      (ap (λ zs. map entry_of (reverse zs)) h.entries.none) (ap (map run_of) h.runs.none) h.saved.none holds_room

pub empty_opened : {A : Type 0} (p : Parts A) → Holds p [] [] [] [] → view p ≡ opened no_table (room 0 0 0 0)
empty_opened p h = holds_opened p [] [] [] [] h refl

pub empty_reachable : {A : Type 0} (p : Parts A) → Holds p [] [] [] [] → Reachable (view p)
empty_reachable {A} p h =
    subst Reachable (sym (empty_opened p h)) (opened_reached {A = A} no_table (room 0 0 0 0) (record { right = refl; rows = omega arith; columns = omega arith; cells = omega arith }))
