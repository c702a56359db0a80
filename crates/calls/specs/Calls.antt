-- The calls of the code as those of the model.
use Rattle.std.specs.Prelude.{◌≡◌, List, map, Result}
use Rattle.layout.specs.declared.refusal.Refusal.{Refusal}
use Rattle.journal.specs.declared.parts.Parts.{Parts}
use Rattle.journal.specs.View.{answered, side_of, view}
use Rattle.model.specs.Sheet.{insert_lines, remove_lines, remove_listed, swap_lines, fill_lines, resize_to}
use Rattle.model.specs.Journal as model
use Rattle.model.specs.Journal.{Sheet, change, run}
use Rattle.calls.specs.declared.call.Call.{Call}
use Rattle.calls.specs.declared.call.Call.TheVariants.{InsertLines, RemoveLines, RemoveLinesAt, SwapLines, FillLines, ResizeMut, Undo, Settle}

abbrev pub call_of : {A : Type 0} → Call A → model.Call A
call_of (InsertLines s i n v) = change (insert_lines (side_of s) i n v)
call_of (RemoveLines s i n) = change (remove_lines (side_of s) i n)
call_of (RemoveLinesAt s ks) = change (remove_listed (side_of s) ks.now)
call_of (SwapLines s i j) = change (swap_lines (side_of s) i j)
call_of (FillLines s i n vs v) = change (fill_lines (side_of s) i n vs.now v)
call_of (ResizeMut m n v) = change (resize_to m n v)
call_of Undo = model.undo
call_of Settle = model.settle

-- from this sheet the calls, one after another, lead to these parts and are answered so
abbrev pub Ran : {A : Type 0} → Sheet A → List (Call A) → Parts A → List (Result Unit Refusal) → Type 0
Ran s calls p answers = (view p, map answered answers) ≡ run s (map call_of calls)
