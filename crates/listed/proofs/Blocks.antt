-- Blocks copied and slid, as lists.
use Rattle.std.proofs.Common.{◌≡◌, ℕ, suc, ◌+◌, ◌-◌, ◌*◌, ◌<◌, ◌≤◌, List, [], ◌∷◌, ◌++◌, map, length, get_or, take, drop, sym, ap, ◌∙◌, subst, append_assoc, append-nil, add-mul, arith, length-append}
use Rattle.std.proofs.lemmas.List.{get_or-take, get_or-drop, length-drop, length-take-le, same_lists, drop-drop, drop_more, drop_all, take_all}
use Rattle.moves.specs.Slides.{Copied}
use Rattle.moves.proofs.Places.{columns_le, columns_split}
use Rattle.model.proofs.Joins.{put_behind}
use Rattle.journal.specs.declared.parts.Run.{Run}
use Rattle.journal.specs.View.{run_of}
use Rattle.listed.specs.Runs.{Rising}
use Rattle.listed.specs.Cuts.{Behind, between, taken, taken_of}
use Rattle.listed.proofs.Walks.{rising_ends}

-- all from place n on
pub open_end : {A : Type 0} (xs : List A) (n : ℕ) → take (length xs - n) (drop n xs) ≡ drop n xs
open_end xs n = take_all (length xs - n) (drop n xs) (omega (arith, length-drop n xs))

module _ {A : Type 0} where
  pub block_long : (xs : List A) (from len : ℕ) → from + len ≤ length xs → length (take len (drop from xs)) ≡ len
  block_long xs from len h = length-take-le len (drop from xs) (omega (arith, length-drop from xs))

  pub copied_behind : (src xs ys : List A) (from to len : ℕ) → from + len ≤ length src → to + len ≤ length xs → Copied src xs ys from to len
      → take (to + len) ys ≡ take to xs ++ take len (drop from src)
  copied_behind src xs ys from to len h l s =
      let long : length ys ≡ length xs = s.long in
      let e1 = block_long ys to len (omega arith) in
      let e2 = block_long src from len h in
      put_behind xs ys to len (take len (drop from src)) long l s.below
      (same_lists (take len (drop to ys)) (take len (drop from src)) (e1 ∙ sym e2) (λ k d b.
      get_or-take len (drop to ys) k d (omega arith) ∙ get_or-drop to ys k d ∙ s.put k d (omega arith)
      ∙ sym (get_or-drop from src k d) ∙ sym (get_or-take len (drop from src) k d (omega arith))))

  -- behind what was copied all stands
  pub copied_rest : (src xs ys : List A) (from to len : ℕ) → Copied src xs ys from to len → drop (to + len) ys ≡ drop (to + len) xs
  copied_rest src xs ys from to len s =
      let n = to + len in
      same_lists (drop n ys) (drop n xs) (length-drop n ys ∙ ap (λ z. z - n) s.long ∙ sym (length-drop n xs)) (λ k d b.
      get_or-drop n ys k d ∙ s.above (n + k) d (omega arith) ∙ sym (get_or-drop n xs k d))

  -- what is equal from n on is equal from k on
  pub drop_on : (xs ys : List A) (n k : ℕ) → n ≤ k → drop n xs ≡ drop n ys → drop k xs ≡ drop k ys
  drop_on xs ys n k h e =
      let f : k ≡ n + (k - n) = omega arith in
      ap (λ z. drop z xs) f ∙ sym (drop-drop (k - n) n xs) ∙ ap (drop (k - n)) e ∙ drop-drop (k - n) n ys ∙ ap (λ z. drop z ys) (sym f)

-- one run more

run_room : (a e w from long : ℕ) (r : ℕ × ℕ) (rs : List (ℕ × ℕ)) → Rising a (r ∷ rs) e → from + e * w ≤ long → from + r.0 * w + r.1 * w ≤ long
run_room a e w from long r rs s h = omega (arith, columns_le (r.0 + r.1) e w (rising_ends (r.0 + r.1) e rs s.1), add-mul r.0 r.1 w)

module _ {A : Type 0} (w : ℕ) (xs : List A) (from e : ℕ) (inside : from + e * w ≤ length xs) where
  pub run_inside : (a : ℕ) (r : ℕ × ℕ) (rs : List (ℕ × ℕ)) → Rising a (r ∷ rs) e → from + r.0 * w + r.1 * w ≤ length xs
  run_inside a r rs s = run_room a e w from (length xs) r rs s inside

abbrev pub nought : Run
nought = record { offset = 0; length = 0 }

-- the run at place j, as its first line and how many
abbrev pub run_at : List Run → ℕ → ℕ × ℕ
run_at rs j = run_of (get_or rs j nought)

-- the runs from place j on
abbrev pub ahead : List Run → ℕ → List (ℕ × ℕ)
ahead rs j = map run_of (drop j rs)

pub ahead_more : (rs : List Run) (j : ℕ) → j < length rs → ahead rs j ≡ run_at rs j ∷ ahead rs (j + 1)
ahead_more rs j h = ap (map run_of) (drop_more rs j nought h)

pub ahead_none : (rs : List Run) (j : ℕ) → length rs ≤ j → ahead rs j ≡ []
ahead_none rs j h = ap (map run_of) (drop_all j rs h)

-- a turn of the loop that saves the runs of a group
module _ {A : Type 0} (w : ℕ) (xs : List A) (e : ℕ) (inside : e * w ≤ length xs) (rs : List Run) (j : ℕ) (h : j < length rs)
    (rises : (a : ℕ) × Rising a (ahead rs j) e) where
  pub saving_inside : (run_at rs j).0 * w + (run_at rs j).1 * w ≤ length xs
  saving_inside =
      omega (arith, run_inside w xs 0 e (omega arith) rises.0 (run_at rs j) (ahead rs (j + 1)) (subst (λ zs. Rising rises.0 zs e) (ahead_more rs j h) rises.1))

  pub saving_fits : (is was more : List A) (room : ℕ) → is ++ taken w xs (ahead rs j) ≡ was ++ more → length was + length more ≤ room
      → length is + length (take ((run_at rs j).0 * w + (run_at rs j).1 * w - (run_at rs j).0 * w) (drop ((run_at rs j).0 * w) xs)) ≤ room
  saving_fits is was more room f l =
      let r = run_at rs j in
      let block = take (r.1 * w) (drop (r.0 * w) xs) in
      let rest = taken w xs (ahead rs (j + 1)) in
      let same = ap (λ k. length (take k (drop (r.0 * w) xs))) (let e : r.0 * w + r.1 * w - r.0 * w ≡ r.1 * w = omega arith in e) in
      let split = ap (λ zs. length (taken w xs zs)) (ahead_more rs j h) ∙ length-append block rest in
      omega (arith, ap length f, length-append is (taken w xs (ahead rs j)), length-append was more)

-- the lines from a up to b moved to the left
module _ {A : Type 0} (w : ℕ) (xs : List A) (from a b : ℕ) (ab : a ≤ b) (inside : from + b * w ≤ length xs) (to : ℕ) (back : to ≤ from + a * w) where
  pub stretch : (from + a * w + (b - a) * w ≤ length xs) × (to + (b - a) * w ≤ from + b * w)
  stretch = let e = columns_split a b w ab in (omega arith, omega arith)

  pub closing_more : (ys zs : List A) (rest all : List A) → length ys ≡ length xs → drop to ys ≡ drop to xs
      → Copied ys ys zs (from + a * w) to ((b - a) * w)
      → take to ys ++ (take ((b - a) * w) (drop (a * w) (drop from xs)) ++ rest) ≡ all
      → (take (to + (b - a) * w) zs ++ rest ≡ all) × (drop (to + (b - a) * w) zs ≡ drop (to + (b - a) * w) xs)
  closing_more ys zs rest all long same s h =
      let n : ℕ = from + a * w in
      let len : ℕ = (b - a) * w in
      let e = columns_split a b w ab in (
        ap (λ z. z ++ rest) (copied_behind ys ys zs n to len (omega arith) (omega arith) s)
            ∙ append_assoc (take to ys) (take len (drop n ys)) rest
            ∙ ap (λ z. take to ys ++ (take len z ++ rest)) (drop_on ys xs to n back same ∙ sym (drop-drop (a * w) from xs))
            ∙ h,
        copied_rest ys ys zs n to len s ∙ drop_on ys xs to (to + len) (omega arith) same,
      )

-- a turn of the loop that closes up the runs of a group
module _ {A : Type 0} (w : ℕ) (xs : List A) (from e : ℕ) (inside : from + e * w ≤ length xs) (rs : List Run) (j at to : ℕ) (h : j < length rs)
    (rises : Rising at (ahead rs j) e) (back : to ≤ from + at * w) where
  next_rising : Rising at (run_at rs j ∷ ahead rs (j + 1)) e
  next_rising = subst (λ zs. Rising at zs e) (ahead_more rs j h) rises

  start_inside : from + (run_at rs j).0 * w ≤ length xs
  start_inside = let i = run_inside w xs from e inside at (run_at rs j) (ahead rs (j + 1)) next_rising in omega arith

  pub closing_room : (at ≤ (run_at rs j).0) × (from + at * w + ((run_at rs j).0 - at) * w ≤ length xs) × ((run_at rs j).0 + (run_at rs j).1 ≤ e) × (to + ((run_at rs j).0 - at) * w ≤ length xs)
  closing_room =
      let s = stretch w xs from at (run_at rs j).0 next_rising.0 start_inside to back in
      let i = start_inside in
      (next_rising.0, s.0, rising_ends ((run_at rs j).0 + (run_at rs j).1) e (ahead rs (j + 1)) next_rising.1, omega arith)

  pub closing_next : (ys zs all : List A) → length ys ≡ length xs → drop to ys ≡ drop to xs
      → Copied ys ys zs (from + at * w) to (((run_at rs j).0 - at) * w)
      → take to ys ++ taken w (drop from xs) (between at (ahead rs j) e) ≡ all
      → Rising ((run_at rs j).0 + (run_at rs j).1) (ahead rs (j + 1)) e
      × (to + ((run_at rs j).0 - at) * w ≤ from + ((run_at rs j).0 + (run_at rs j).1) * w)
      × (take (to + ((run_at rs j).0 - at) * w) zs ++ taken w (drop from xs) (between ((run_at rs j).0 + (run_at rs j).1) (ahead rs (j + 1)) e) ≡ all)
      × (drop (to + ((run_at rs j).0 - at) * w) zs ≡ drop (to + ((run_at rs j).0 - at) * w) xs)
  closing_next ys zs all long same s k =
      let r = run_at rs j in
      let more = closing_more w xs from at r.0 next_rising.0 start_inside to back ys zs (taken w (drop from xs) (between (r.0 + r.1) (ahead rs (j + 1)) e)) all long same s
      (ap (λ zs. take to ys ++ taken w (drop from xs) (between at zs e)) (sym (ahead_more rs j h)) ∙ k) in
      let on = columns_le r.0 (r.0 + r.1) w (omega arith) in
      let reach = stretch w xs from at r.0 next_rising.0 start_inside to back in
      (next_rising.1, omega arith, more.0, more.1)

-- the last turn, behind the last run
pub closed : {A : Type 0} (w : ℕ) (xs : List A) (from e : ℕ) → from + e * w ≤ length xs → (rs : List Run) (j at to top : ℕ) → length rs ≤ j → at ≤ e → to ≤ from + at * w
    → top ≤ length xs → (ys zs more : List A) → length ys ≡ length xs → length zs ≡ length xs → drop to ys ≡ drop to xs
    → Copied ys ys zs (from + at * w) to ((e - at) * w)
    → take to ys ++ taken w (drop from xs) (between at (ahead rs j) e) ≡ take top xs ++ more
    → (to + (e - at) * w ≡ top + length more) × Behind xs zs top more
closed w xs from e inside rs j at to top h ae back tl ys zs more long long2 same s k =
    let end : ℕ = to + (e - at) * w in
    let turn = closing_more w xs from at e ae inside to back ys zs [] (take top xs ++ more) long same s
    (ap (λ zs. take to ys ++ taken w (drop from xs) (between at zs e)) (sym (ahead_none rs j h)) ∙ k) in
    let put : take end zs ≡ take top xs ++ more = sym (append-nil (take end zs)) ∙ turn.0 in
    let reach = stretch w xs from at e ae inside to back in
    let l1 = length-take-le end zs (omega arith) in
    let l2 = length-take-le top xs tl in
    let l3 = ap length put in
    let l4 = length-append (take top xs) more in
    let is : end ≡ top + length more = omega arith in
    (is, record { long = long2; put = ap (λ z. take z zs) (sym is) ∙ put; rest = subst (λ k. drop k zs ≡ drop k xs) is turn.1 })

-- one group more

module _ {A : Type 0} (w size g n : ℕ) (xs : List A) (rs : List (ℕ × ℕ)) (h : g < n) where
  pub group_more : taken_of w size g (n - g) xs rs ≡ taken w (drop (g * size) xs) rs ++ taken_of w size (g + 1) (n - (g + 1)) xs rs
  group_more = ap (λ k. taken_of w size g k xs rs) (let e : n - g ≡ suc (n - (g + 1)) = omega arith in e)

  pub group_long : length (taken_of w size g (n - g) xs rs) ≡ length (taken w (drop (g * size) xs) rs) + length (taken_of w size (g + 1) (n - (g + 1)) xs rs)
  group_long = ap length group_more ∙ length-append (taken w (drop (g * size) xs) rs) (taken_of w size (g + 1) (n - (g + 1)) xs rs)

  pub group_next : (was is : List A) (to end : ℕ) (more all : List A) → more ≡ taken w (drop (g * size) xs) rs → end ≡ to + length more → Behind was is to more
      → take to was ++ taken_of w size g (n - g) xs rs ≡ all → take end is ++ taken_of w size (g + 1) (n - (g + 1)) xs rs ≡ all
  group_next was is to end more all same e b k =
      let rest = taken_of w size (g + 1) (n - (g + 1)) xs rs in
      ap (λ z. take z is ++ rest) e ∙ ap (λ z. z ++ rest) b.put ∙ append_assoc (take to was) more rest
      ∙ ap (λ z. take to was ++ (z ++ rest)) same ∙ ap (λ z. take to was ++ z) (sym group_more) ∙ k

  pub group_saved : (was is all : List A) → is ≡ was ++ taken w (drop (g * size) xs) rs
      → was ++ taken_of w size g (n - g) xs rs ≡ all → is ++ taken_of w size (g + 1) (n - (g + 1)) xs rs ≡ all
  group_saved was is all e k =
      let rest = taken_of w size (g + 1) (n - (g + 1)) xs rs in
      ap (λ z. z ++ rest) e ∙ append_assoc was (taken w (drop (g * size) xs) rs) rest ∙ ap (λ z. was ++ z) (sym group_more) ∙ k

  pub group_fits : (is was more : List A) (room : ℕ) → is ++ taken_of w size g (n - g) xs rs ≡ was ++ more → length was + length more ≤ room
      → length is + length (taken w (drop (g * size) xs) rs) ≤ room
  group_fits is was more room f l =
      omega (arith, group_long, ap length f, length-append is (taken_of w size g (n - g) xs rs), length-append was more)

-- the same group, where nothing from it on has altered
pub group_same : {A : Type 0} (w n : ℕ) (xs ys : List A) (rs : List (ℕ × ℕ)) → drop n ys ≡ drop n xs → taken w (drop n ys) rs ≡ taken w (drop n xs) rs
group_same w n xs ys rs e = ap (λ z. taken w z rs) e

pub groups_rest : {A : Type 0} (xs ys zs more : List A) (to end : ℕ) → end ≡ to + length more → drop to ys ≡ drop to xs → Behind ys zs to more → drop end zs ≡ drop end xs
groups_rest xs ys zs more to end e same b =
    subst (λ k. drop k zs ≡ drop k xs) (sym e) (b.rest ∙ drop_on ys xs to (to + length more) (omega arith) same)
