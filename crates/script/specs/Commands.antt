-- What a line asks for.
use Rattle.std.specs.Prelude.{ℕ, ◌+◌, ◌-◌, Bool, true, false, cond, ◌&&◌, List, [], ◌∷◌, ◌++◌, length, replicate, Some, None, Ok, Err, Option, Result, nat_le, nat_lt, slice_index}
use Rattle.layout.specs.declared.refusal.Refusal.{Refusal}
use Rattle.layout.specs.declared.refusal.Refusal.TheVariants.{NoCommand, BadNumber}
use Rattle.script.specs.declared.command.Verb.{Verb}
use Rattle.script.specs.declared.command.Verb.TheVariants.{Insert, Remove, RemoveAt, Swap, New, Resize, Undo, Settle, Print}
use Rattle.script.specs.declared.command.Command.{Command}
use Rattle.script.specs.declared.command.Command.TheVariants as to
use Rattle.script.specs.declared.command.Numbers.{Numbers}
use Rattle.script.specs.declared.command.Fault.{Fault}
use Rattle.script.specs.Numerals.{numeral}
use Rattle.script.specs.Tokens.{Part, command, number, remark, first_part, after_first}
use Rattle.script.specs.Verbs.{verb_named}
use Rattle.script.specs.Words.{further}

abbrev pub fault : Refusal → ℕ → Fault
fault r w = record { refusal = r; word = w }

-- the fewest and the most numbers that a command takes
abbrev pub fewest : Verb → ℕ
fewest (Insert s) = 2
fewest (Remove s) = 2
fewest (RemoveAt s) = 0
fewest (Swap s) = 2
fewest New = 2
fewest Resize = 2
fewest Undo = 0
fewest Settle = 0
fewest Print = 0

abbrev pub most : Verb → ℕ
most (Insert s) = 3
most (Remove s) = 2
most (RemoveAt s) = 16
most (Swap s) = 2
most New = 3
most Resize = 3
most Undo = 0
most Settle = 0
most Print = 0

abbrev pub takes : Verb → ℕ → Bool
takes v k = nat_le (fewest v) k && nat_le k (most v)

-- ns before zeros
abbrev pub packed : List ℕ → Numbers
packed ns = record { at = ns ++ replicate (16 - length ns) 0; count = length ns }

-- the numbers that the words write, after ns; the first word that writes none is refused, by its place in the line
abbrev pub read_on : List ℕ → List (List ℕ) → Result Numbers Fault
read_on ns [] = Ok (packed ns)
read_on ns (w ∷ ws) = elim (numeral w) [ None ↦ Err (fault BadNumber (length ns + 2)) | Some n ↦ read_on (ns ++ n ∷ []) ws ]

-- what is left out is 0
abbrev pub command_for : Verb → Numbers → Command
command_for (Insert s) n = to.Insert s (slice_index n.at 0) (slice_index n.at 1) (slice_index n.at 2)
command_for (Remove s) n = to.Remove s (slice_index n.at 0) (slice_index n.at 1)
command_for (RemoveAt s) n = to.RemoveAt s n
command_for (Swap s) n = to.Swap s (slice_index n.at 0) (slice_index n.at 1)
command_for New n = to.New (slice_index n.at 0) (slice_index n.at 1) (slice_index n.at 2)
command_for Resize n = to.Resize (slice_index n.at 0) (slice_index n.at 1) (slice_index n.at 2)
command_for Undo n = to.Undo
command_for Settle n = to.Settle
command_for Print n = to.Print

abbrev pub with_numbers : Verb → Result Numbers Fault → Result Command Fault
with_numbers v (Err e) = Err e
with_numbers v (Ok n) = Ok (command_for v n)

-- a verb and its further words: first their count, then each from the left
abbrev pub command_read : Verb → List (List ℕ) → Result Command Fault
command_read v ws = cond (takes v (length ws)) (with_numbers v (read_on [] ws)) (Err (fault BadNumber 1))

abbrev pub with_verb : Option Verb → List (List ℕ) → Result Command Fault
with_verb None ws = Err (fault NoCommand 1)
with_verb (Some v) ws = command_read v ws

-- a line of so many bytes, by its first token, which is never a number, and its further words
abbrev pub by_part : ℕ → Part → List (List ℕ) → Result Command Fault
by_part long (remark bs) ws = Ok to.Remark
by_part long (number w) ws = Err (fault NoCommand 1)
by_part long (command w) ws = cond (nat_lt 80 long) (Err (fault NoCommand 1)) (with_verb (verb_named w) ws)

abbrev pub decided : List ℕ → Result Command Fault
decided line = by_part (length line) (first_part line) (further (after_first line))
