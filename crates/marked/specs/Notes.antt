-- The weighing note of a number, and the number of a note.
use Rattle.std.specs.Prelude.{ℕ, ◌+◌, ◌%◌, cond, ◌&&◌, ◌==◌, bit_xor}
use Rattle.sheet.specs.declared.cell.WeighingNote.{WeighingNote}

abbrev pub note_of : ℕ → WeighingNote
note_of n = record { ticket = n; kilograms = bit_xor n 1000; quality = n % 26 + 97 }

-- 999 for a note whose parts do not belong together
abbrev pub note_mark : WeighingNote → ℕ
note_mark note =
    cond ((note.kilograms == bit_xor note.ticket 1000) && (note.quality == note.ticket % 26 + 97)) note.ticket 999
