-- A number word.
use Rattle.std.specs.Prelude.{ℕ, Bool, cond, ◌&&◌, List, length, Some, None, Option, nat_le}
use Rattle.std.specs.Str.Parse.{digits_value}
use Rattle.std.specs.Str.{all_ascii_digits}

-- 1 to 10 decimal digits, of a value that fits 32 bits
abbrev pub is_numeral : List ℕ → Bool
is_numeral w = nat_le 1 (length w) && (nat_le (length w) 10 && (all_ascii_digits w && nat_le (digits_value 10 w) 4294967295))

abbrev pub numeral : List ℕ → Option ℕ
numeral w = cond (is_numeral w) (Some (digits_value 10 w)) None
