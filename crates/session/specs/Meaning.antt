-- A session read as the state that its definition speaks of, and what taking a line does.
use Rattle.std.specs.Prelude.{◌≡◌, ℕ, ◌+◌, ◌<◌, List, [], ◌∷◌, length, Option, Result, MatchOption}
use Rattle.std.specs.Borrow.{Bor}
use Rattle.layout.specs.declared.refusal.Refusal.{Refusal}
use Rattle.journal.specs.View.{answered, view}
use Rattle.model.specs.Journal.{first_no}
use Rattle.std.specs.Option.{unwrap_or}
use Rattle.script.specs.Words.{front, behind, lines_of}
use Rattle.session.specs.declared.state.Lines.{Lines}
use Rattle.session.specs.declared.state.Session.{Session}
use Rattle.session.specs.Transcript.{State, new_tests, opening, plain}

abbrev pub state_of : Session → State
state_of s = record { is_open = s.opened; sheet = view s.sheet.now.parts }

-- n answers by its questions, and leaves the table of one value or the sheet that was there
pub record NewAnswers (s t : Session) (rows columns v : ℕ) (r : Result Unit Refusal) : Type 0 where
  pub which : answered r ≡ first_no (new_tests (state_of s).sheet.room rows columns)
  pub state : state_of t ≡ (opening (state_of s) (plain rows columns v) (answered r)).0

-- the first of the lines that were left, with its number
pub record Took (old : Lines) (number : ℕ) (line : List ℕ) (new : Lines) : Type 0 where
  pub numbered : number ≡ old.number
  pub next : new.number ≡ old.number + 1
  pub taken : line ≡ front 10 old.rest.now
  pub left : new.rest.now ≡ unwrap_or (behind 10 old.rest.now) []
  pub first : lines_of old.rest.now ≡ line ∷ lines_of new.rest.now
  pub shorter : length new.rest.now < length old.rest.now

-- a line is taken, or none is left
abbrev pub Takes : Lines → Option (ℕ × Bor (List ℕ)) → Lines → Type 0
Takes old r new = MatchOption r ((length old.rest.now ≡ 0) × (new ≡ old)) (λ item. Took old item.0 item.1.now new)
