-- What reading the words of a line keeps.
use Rattle.std.proofs.Common.{◌≡◌, ℕ, suc, ◌+◌, ◌-◌, ◌<◌, ◌≤◌, true, false, cond, eqb, Bor, List, [], ◌∷◌, ◌++◌, length, take, drop, set, replicate, Some, None, Ok, Err, Option, Result, sym, refl, subst, ap, ◌∙◌, append_assoc, arith}
use Rattle.std.specs.Iterator.{Yields}
use Rattle.std.specs.List.{onto_first, enumerate_from}
use Rattle.std.proofs.lemmas.Iterator.{YieldsList}
use Rattle.std.proofs.lemmas.Iterator.Consumers.{YieldsList-turn, YieldsList-end}
use Rattle.std.proofs.lemmas.List.FromFn.{length-enumerate_from, get_or-enumerate_from}
use Rattle.std.proofs.lemmas.List.{length-take-le, length-set, take_more_set, set_at, drop_more, drop_all}
use Rattle.layout.specs.declared.refusal.Refusal.TheVariants.{BadNumber}
use Rattle.script.specs.declared.command.Numbers.{Numbers}
use Rattle.script.specs.declared.command.Fault.{Fault}
use Rattle.script.specs.Numerals.{numeral}
use Rattle.script.specs.Words.{front, behind, parts, parts_of, words_of}
use Rattle.script.specs.Commands.{read_on, fault}

-- the parts of a text are what stands before the first c and the parts behind it
pub parts_at : (c : ℕ) (bs : List ℕ) → parts c bs ≡ front c bs ∷ parts_of c (behind c bs)
parts_at c [] = refl
parts_at c (b ∷ bs) =
    elim (eqb b c) as (λ t. cond t ([] ∷ parts c bs) (onto_first b (parts c bs)) ≡ cond t [] (b ∷ front c bs) ∷ parts_of c (cond t (Some bs) (behind c bs)))
    [ true ↦ refl | false ↦ ap (onto_first b) (parts_at c bs) ]

-- at holds count numbers, before zeros
pub record Packed (at : List ℕ) (count : ℕ) : Type 0 where
  pub pad : at ≡ take count at ++ replicate (16 - count) 0
  pub long : length at ≡ 16
  pub few : count ≤ 16

-- the first count words are read, and their numbers lie in at
pub record Read (all : List (List ℕ)) (at : List ℕ) (count : ℕ) : Type 0 where
  pub same : read_on (take count at) (drop count all) ≡ read_on [] all
  pub packs : Packed at count

-- the word w at count is next, and k says its place
pub record Next (all : List (List ℕ)) (w : List ℕ) (k count : ℕ) : Type 0 where
  pub place : k ≡ count
  pub room : count < length all
  pub word : drop count all ≡ w ∷ drop (count + 1) all

module _ (at : List ℕ) (count : ℕ) (p : Packed at count) where
  taken : length (take count at) ≡ count
  taken = length-take-le count at (omega (arith, p.long, p.few))

  pub packed_more : (n : ℕ) → count < 16 → Packed (set at count n) (count + 1)
  packed_more n h =
      let less : 16 - count ≡ suc (16 - (count + 1)) = omega arith in
      let zeros : ◌≡◌ {A = List ℕ} (replicate (16 - count) 0) (0 ∷ replicate (16 - (count + 1)) 0) = ap (λ k. replicate k 0) less in
      record {
        pad = ap (λ l. set l count n) (p.pad ∙ ap (λ l. take count at ++ l) zeros) ∙ set_at (take count at) 0 _ n count taken ∙ sym (append_assoc (take count at) (n ∷ []) _) ∙ ap (λ l. l ++ replicate (16 - (count + 1)) 0) (sym (take_more_set at count n (omega (arith, p.long))));
        long = length-set at count n ∙ p.long;
        few = omega arith;
      }

module _ (all : List (List ℕ)) (w at : List ℕ) (k count : ℕ) (f : Next all w k count) (few : length all ≤ 16) (l : Read all at count) where
  words : read_on (take count at) (w ∷ drop (count + 1) all) ≡ read_on [] all
  words = ap (read_on (take count at)) (sym f.word) ∙ l.same

  pub read_room : k < 16
  read_room = omega (arith, f.place, f.room, few)

  pub read_more : (n more : ℕ) → Some n ≡ numeral w → more ≡ count + 1 → Read all (set at k n) more
  read_more n more e one =
      subst (λ i. Read all (set at i n) more) (sym f.place) (subst (Read all (set at count n)) (sym one) record {
        same =
            ap (λ ns. read_on ns (drop (count + 1) all)) (take_more_set at count n (omega (arith, l.packs.long, f.room, few)))
            ∙ ap (λ o. elim o as (λ _. Result Numbers Fault) [ None ↦ Err (fault BadNumber (length (take count at) + 2)) | Some m ↦ read_on (take count at ++ m ∷ []) (drop (count + 1) all) ]) e ∙ words;
        packs = packed_more at count l.packs n (omega (arith, f.room, few));
      })

  pub read_bad : None ≡ numeral w → ◌≡◌ {A = Result Numbers Fault} (Err (fault BadNumber (k + 2))) (read_on [] all)
  read_bad e =
      ap (λ i. Err (fault BadNumber (i + 2))) (f.place ∙ sym (taken at count l.packs))
      ∙ ap (λ o. elim o as (λ _. Result Numbers Fault) [ None ↦ Err (fault BadNumber (length (take count at) + 2)) | Some m ↦ read_on (take count at ++ m ∷ []) (drop (count + 1) all) ]) e ∙ words

-- all words are read
pub read_all : (all : List (List ℕ)) (at : List ℕ) (count : ℕ) → count ≡ length all → Read all at count → ◌≡◌ {A = Result Numbers Fault} (Ok record { at = at; count = length all }) (read_on [] all)
read_all all at count e l =
    ap (λ n. Ok record { at = at; count = n }) (sym e)
    ∙ ap (λ ns. Ok record { at = ns; count = count }) l.packs.pad
    ∙ ap (λ n. Ok record { at = take count at ++ replicate (16 - n) 0; count = n }) (sym (taken at count l.packs))
    ∙ ap (read_on (take count at)) (sym (drop_all count all (omega (arith, e)))) ∙ l.same

-- a loop over the words of o, each with its place, has yielded xs, and next yields r
module _ {o : Option (Bor (List ℕ))} {text : Bor (List ℕ)} (is : o ≡ Some text) {S : Type 0} {steps : S → Option (ℕ × Bor (List ℕ)) → S → Type 0} {s t u : S} {r : Option (ℕ × Bor (List ℕ))} (words : YieldsList steps (λ p. (p.0, p.1.now)) s (enumerate_from 0 (parts 32 text.now))) (xs : List (ℕ × Bor (List ℕ))) (so_far : Yields steps s xs t) (step : steps t r u) where
  same_words : words_of o ≡ parts 32 text.now
  same_words = ap (λ q. words_of q) is

  pub next_word : {k : ℕ} {x : Bor (List ℕ)} → r ≡ Some (k, x) → Next (words_of o) x.now k (length xs)
  next_word {k} {x} some =
      let turn = YieldsList-turn words xs t so_far r u (k, x) some step in
      let room : length xs < length (parts 32 text.now) = omega (arith, turn.0, length-enumerate_from 0 (parts 32 text.now)) in
      let at = turn.1 ∙ get_or-enumerate_from 0 (parts 32 text.now) (length xs) (k, x.now) room in
      subst (λ all. Next all x.now k (length xs)) (sym same_words) record {
        place = omega (arith, ap (λ p. p.0) at);
        room = room;
        word = drop_more (parts 32 text.now) (length xs) x.now room ∙ ap (λ w. w ∷ drop (length xs + 1) (parts 32 text.now)) (sym (ap (λ p. p.1) at));
      }

  pub no_word : r ≡ None → length xs ≡ length (words_of o)
  no_word none = (YieldsList-end words xs t so_far r u none step).1 ∙ length-enumerate_from 0 (parts 32 text.now) ∙ ap length (sym same_words)
