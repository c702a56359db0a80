-- What is read of a number word.
use Rattle.std.proofs.Common.{◌≡◌, ℕ, ◌<◌, ◌≤◌, true, false, ◌&&◌, List, length, Some, None, Ok, Err, Result, MatchResult, Bor, unwrap_or, refl, ap, arith}
use Rattle.std.specs.Char.{is_ascii_digit}
use Rattle.std.specs.List.{list_all}
use Rattle.std.specs.Result.{result_ok}
use Rattle.std.specs.Str.{IsUtf8, all_ascii_digits}
use Rattle.std.specs.Str.Parse.{digits_value, ParsesUnsigned}
use Rattle.std.proofs.lemmas.Bool.Decides.{nat_tests}
use Rattle.std.proofs.lemmas.Fmt.{IsAscii-from_digits}
use Rattle.std.proofs.lemmas.List.Recursion.{same_from_clauses}
use Rattle.std.proofs.lemmas.Str.{IsUtf8-from_ascii}
use Rattle.std.proofs.lemmas.Str.Parse.{IsNumeralModel, numerals_by_value, tells_all_ascii_digits, parse_digits}
use Rattle.script.specs.Numerals.{numeral}

own : IsNumeralModel (λ ds. all_ascii_digits ds ≡ true) (digits_value 10)
own = numerals_by_value _ tells_all_ascii_digits

pub all_digits : (w : List ℕ) → list_all is_ascii_digit w ≡ all_ascii_digits w
all_digits = same_from_clauses (list_all is_ascii_digit) all_ascii_digits (λ c t. is_ascii_digit c && t) refl (λ _ _. refl) (λ _ _. refl)

module _ (w : List ℕ) where
  pub none_long : 10 < length w → None ≡ numeral w
  none_long h = grind (arith, nat_tests)

  pub none_else : all_ascii_digits w ≡ false → None ≡ numeral w
  none_else h = grind (arith, nat_tests)

  digits_text : all_ascii_digits w ≡ true → IsUtf8 w
  digits_text h = IsUtf8-from_ascii w (IsAscii-from_digits w (own.to w h))

  pub same_text : {E : Type 0} (P : E → Type 0) (r : Result (Bor (List ℕ)) E) (s : Bor (List ℕ)) → MatchResult r (λ t. (t.now ≡ w) × IsUtf8 w) P → result_ok r ≡ Some s → s.now ≡ w
  same_text P (Ok t) s h e = cc (h.0, ap (λ o. unwrap_or o s) e)
  same_text P (Err x) s h e = cc e

  pub no_text : {E : Type 0} (P : E → Type 0) (r : Result (Bor (List ℕ)) E) → MatchResult r (λ t. (t.now ≡ w) × IsUtf8 w) (λ e. ¬ (IsUtf8 w) × P e) → result_ok r ≡ None → all_ascii_digits w ≡ true → ⊥
  no_text P (Ok t) h e d = cc e
  no_text P (Err x) h e d = h.0 (digits_text d)

  pub parsed : {E : Type 0} (r : Result ℕ E) → length w ≤ 10 → all_ascii_digits w ≡ true → ParsesUnsigned 32 10 w r → result_ok r ≡ numeral w
  parsed {E} (Ok x) few h p = let q = parse_digits own {E = E} 32 w (Ok x) p h in grind (arith, nat_tests)
  parsed {E} (Err e) few h p = let q = parse_digits own {E = E} 32 w (Err e) p h in grind (arith, nat_tests)
