-- The bytes that are written of answers and rows.
use Rattle.std.specs.Prelude.{ℕ, ◌+◌, ◌*◌, cond, ◌&&◌, List, map, slice_index, [], ◌∷◌, ◌++◌, Ok, Err, Result, codes, decimal, nat_le}
use Rattle.std.specs.List.{range_with_len}
use Rattle.layout.specs.declared.refusal.Refusal.{Refusal}
use Rattle.layout.specs.Refusals.{number_of}
use Rattle.answers.specs.declared.answer.Done.{Done}
use Rattle.answers.specs.declared.answer.Refused.{Refused}

-- t for the questions 14 to 16, j for 5 to 8, else s
abbrev pub letter_for : ℕ → ℕ
letter_for n = cond (nat_le 14 n && nat_le n 16) 116 (cond (nat_le 5 n && nat_le n 8) 106 115)

abbrev pub letter_of : Refusal → ℕ
letter_of r = letter_for (number_of r)

-- a blank and a number
abbrev pub field : ℕ → List ℕ
field n = 32 ∷ decimal n

abbrev pub spaced : List ℕ → List ℕ
spaced [] = []
spaced (x ∷ xs) = field x ++ spaced xs

-- numbers parted by single blanks, and a line feed
abbrev pub row_text : List ℕ → List ℕ
row_text [] = 10 ∷ []
row_text (x ∷ xs) = decimal x ++ (spaced xs ++ 10 ∷ [])

-- the cells of a row of a table that lies column by column; 0 beyond the list
abbrev pub row_cells : (cells : List ℕ) (rows columns row : ℕ) → List ℕ
row_cells cells rows columns row = map (λ c. slice_index cells (row + c * rows)) (range_with_len 0 columns)

-- what is said of a shape, and of the no to question k at a line and a word
abbrev pub shape_words : ℕ → ℕ → List ℕ
shape_words rows columns = codes "ok" ++ (field rows ++ field columns)

abbrev pub no_words : ℕ → ℕ → ℕ → List ℕ
no_words line word k = codes "no" ++ (field line ++ (field word ++ (32 ∷ letter_for k ∷ field k)))

-- the same with a line feed
abbrev pub done_text : ℕ → ℕ → List ℕ
done_text rows columns = shape_words rows columns ++ 10 ∷ []

abbrev pub no_text : ℕ → ℕ → ℕ → List ℕ
no_text line word k = no_words line word k ++ 10 ∷ []

abbrev pub refused_text : ℕ → ℕ → Refusal → List ℕ
refused_text line word r = no_text line word (number_of r)

abbrev pub answer_text : Result Done Refused → List ℕ
answer_text (Ok d) = done_text d.rows d.columns
answer_text (Err r) = refused_text r.line r.word r.refusal
