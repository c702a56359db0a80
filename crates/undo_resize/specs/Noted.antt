-- Which entries are of a resize.
use Rattle.std.specs.Prelude.{◌≡◌, Bool, true, false}
use Rattle.journal.specs.declared.parts.Entry.{Entry}
use Rattle.journal.specs.View.{note_of}
use Rattle.model.specs.Journal.{Note, insertion, removal, listed_removal, exchange, gap, resizing}

abbrev pub is_resizing : Note → Bool
is_resizing (insertion s i n) = false
is_resizing (removal s i n) = false
is_resizing (listed_removal s) = false
is_resizing (exchange s i j) = false
is_resizing (gap s i n) = false
is_resizing (resizing m n) = true

-- the entry is of a resize, to whatever shape
abbrev pub OfResize : Entry → Type 0
OfResize entry = is_resizing (note_of entry.note) ≡ true
