-- Cells are told by those of some runs and those of what lies between them.
use Rattle.std.proofs.Common.{◌≡◌, ℕ, zero, suc, ◌+◌, ◌-◌, ◌*◌, ◌≤◌, List, [], ◌∷◌, ◌++◌, length, take, drop, sym, refl, ap, ◌∙◌, ap₂, append-nil, add-mul, suc-mul, zero-mul, arith, length-append}
use Rattle.std.proofs.Math.Seq.{take-append_seam, drop-append_seam}
use Rattle.std.proofs.lemmas.List.{drop-drop, length-drop, length-take-le}
use Rattle.moves.proofs.Places.{columns_le, columns_split, next_column}
use Rattle.model.proofs.Grids.{take_then}
use Rattle.listed.specs.Runs.{Rising}
use Rattle.listed.specs.Cuts.{between, taken, taken_of}
use Rattle.listed.proofs.Walks.{rising_ends, rising_from}

-- two lists joined alike, the first parts of one length, have equal parts
same_parts : {A : Type 0} (a b c d : List A) → length a ≡ length c → a ++ b ≡ c ++ d → (a ≡ c) × (b ≡ d)
same_parts a b c d e h = (
  sym (take-append_seam a b) ∙ ap₂ take e h ∙ take-append_seam c d,
  sym (drop-append_seam a b) ∙ ap₂ drop e h ∙ drop-append_seam c d,
)

block_long : {A : Type 0} (xs : List A) (from len : ℕ) → from + len ≤ length xs → length (take len (drop from xs)) ≡ len
block_long xs from len h = length-take-le len (drop from xs) (omega (arith, length-drop from xs))

module _ {A : Type 0} (w : ℕ) where
  -- lines a to b, and then b to e
  joined_lines : (xs : List A) (a b e : ℕ) → a ≤ b → b ≤ e
      → take ((b - a) * w) (drop (a * w) xs) ++ take ((e - b) * w) (drop (b * w) xs) ≡ take ((e - a) * w) (drop (a * w) xs)
  joined_lines xs a b e ab be =
      let s = columns_split a b w ab in
      let t : (b - a) * w + (e - b) * w ≡ (e - a) * w = sym (add-mul (b - a) (e - b) w) ∙ ap (λ z. z * w) (let z : b - a + (e - b) ≡ e - a = omega arith in z) in
      ap (λ ys. take ((b - a) * w) (drop (a * w) xs) ++ take ((e - b) * w) ys) (ap (λ k. drop k xs) (let z : b * w ≡ a * w + (b - a) * w = omega arith in z) ∙ sym (drop-drop ((b - a) * w) (a * w) xs))
      ∙ take_then ((b - a) * w) ((e - b) * w) (drop (a * w) xs)
      ∙ ap (λ k. take k (drop (a * w) xs)) t

  -- a line at b and n more of them, in a list that reaches line e
  inside : (xs : List A) (b n e : ℕ) → b + n ≤ e → e * w ≤ length xs → b * w + n * w ≤ length xs
  inside xs b n e h l = omega (arith, columns_le (b + n) e w h, add-mul b n w)

  same_lines : (xs zs : List A) (rs : List (ℕ × ℕ)) (a e : ℕ) → Rising a rs e → e * w ≤ length xs → e * w ≤ length zs
      → taken w xs rs ≡ taken w zs rs → taken w xs (between a rs e) ≡ taken w zs (between a rs e)
      → take ((e - a) * w) (drop (a * w) xs) ≡ take ((e - a) * w) (drop (a * w) zs)
  same_lines xs zs [] a e s lx lz own left = sym (append-nil _) ∙ left ∙ append-nil _
  same_lines xs zs (r ∷ rs) a e s lx lz own left =
      let ends = rising_ends (r.0 + r.1) e rs s.1 in
      let b = r.0 in
      let before = s.0 in
      let o = same_parts (take (r.1 * w) (drop (b * w) xs)) (taken w xs rs) (take (r.1 * w) (drop (b * w) zs)) (taken w zs rs)
      (block_long xs (b * w) (r.1 * w) (inside xs b r.1 e ends lx) ∙ sym (block_long zs (b * w) (r.1 * w) (inside zs b r.1 e ends lz))) own in
      let reach : a + (b - a) ≤ e = omega arith in
      let l = same_parts (take ((b - a) * w) (drop (a * w) xs)) (taken w xs (between (b + r.1) rs e)) (take ((b - a) * w) (drop (a * w) zs)) (taken w zs (between (b + r.1) rs e))
      (block_long xs (a * w) ((b - a) * w) (inside xs a (b - a) e reach lx) ∙ sym (block_long zs (a * w) ((b - a) * w) (inside zs a (b - a) e reach lz))) left in
      let next = same_lines xs zs rs (b + r.1) e s.1 lx lz o.1 l.1 in
      let mine : b + r.1 - b ≡ r.1 = omega arith in
      let split : (ys : List A) → take ((b - a) * w) (drop (a * w) ys) ++ (take (r.1 * w) (drop (b * w) ys) ++ take ((e - (b + r.1)) * w) (drop ((b + r.1) * w) ys)) ≡ take ((e - a) * w) (drop (a * w) ys) =
      λ ys.
      ap (λ z. take ((b - a) * w) (drop (a * w) ys) ++ (take (z * w) (drop (b * w) ys) ++ take ((e - (b + r.1)) * w) (drop ((b + r.1) * w) ys))) (sym mine)
      ∙ ap (λ zs. take ((b - a) * w) (drop (a * w) ys) ++ zs) (joined_lines ys b (b + r.1) e (omega arith) ends)
      ∙ joined_lines ys a b e before (omega arith) in
      sym (split xs) ∙ ap₂ ◌++◌ l.0 (ap₂ ◌++◌ o.0 next) ∙ split zs

  -- as many cells, whatever stands in them
  taken_long : (xs zs : List A) (rs : List (ℕ × ℕ)) (a e : ℕ) → Rising a rs e → e * w ≤ length xs → e * w ≤ length zs → length (taken w xs rs) ≡ length (taken w zs rs)
  taken_long xs zs [] a e s lx lz = refl
  taken_long xs zs (r ∷ rs) a e s lx lz =
      let ends = rising_ends (r.0 + r.1) e rs s.1 in
      length-append (take (r.1 * w) (drop (r.0 * w) xs)) (taken w xs rs)
      ∙ ap₂ ◌+◌ (block_long xs (r.0 * w) (r.1 * w) (inside xs r.0 r.1 e ends lx) ∙ sym (block_long zs (r.0 * w) (r.1 * w) (inside zs r.0 r.1 e ends lz)))
      (taken_long xs zs rs (r.0 + r.1) e s.1 lx lz)
      ∙ sym (length-append (take (r.1 * w) (drop (r.0 * w) zs)) (taken w zs rs))

-- what lies between rising runs rises
between_rising : (rs : List (ℕ × ℕ)) (a e : ℕ) → Rising a rs e → Rising a (between a rs e) e
between_rising [] a e s = (omega arith, let z : a + (e - a) ≤ e = omega arith in z)
between_rising (r ∷ rs) a e s =
    let h = s.0 in
    (omega arith, rising_from (a + (r.0 - a)) (r.0 + r.1) e (between (r.0 + r.1) rs e) (omega arith) (between_rising rs (r.0 + r.1) e s.1))

-- all groups
module _ {A : Type 0} (w count : ℕ) (rs : List (ℕ × ℕ)) (s : Rising 0 rs count) (xs zs : List A) where
  abbrev size : ℕ
  size = count * w

  pub same_groups : (n g : ℕ) → (g + n) * size ≤ length xs → (g + n) * size ≤ length zs
      → taken_of w size g n xs rs ≡ taken_of w size g n zs rs → taken_of w size g n xs (between 0 rs count) ≡ taken_of w size g n zs (between 0 rs count)
      → take (n * size) (drop (g * size) xs) ≡ take (n * size) (drop (g * size) zs)
  same_groups zero g lx lz own left = ap (λ k. take k (drop (g * size) xs)) (zero-mul size) ∙ sym (ap (λ k. take k (drop (g * size) zs)) (zero-mul size))
  same_groups (suc n) g lx lz own left =
      let x = drop (g * size) xs in
      let z = drop (g * size) zs in
      let more = add-mul g (suc n) size in
      let one = suc-mul n size in
      let fx : count * w ≤ length x = omega (arith, length-drop (g * size) xs) in
      let fz : count * w ≤ length z = omega (arith, length-drop (g * size) zs) in
      let o = same_parts (taken w x rs) (taken_of w size (g + 1) n xs rs) (taken w z rs) (taken_of w size (g + 1) n zs rs) (taken_long w x z rs 0 count s fx fz) own in
      let l = same_parts (taken w x (between 0 rs count)) (taken_of w size (g + 1) n xs (between 0 rs count)) (taken w z (between 0 rs count)) (taken_of w size (g + 1) n zs (between 0 rs count))
      (taken_long w x z (between 0 rs count) 0 count (between_rising rs 0 count s) fx fz) left in
      let here = same_lines w x z rs 0 count s fx fz o.0 l.0 in
      let same : g + 1 + n ≡ g + suc n = omega arith in
      let rest = same_groups n (g + 1) (omega (arith, ap (λ k. k * size) same)) (omega (arith, ap (λ k. k * size) same)) o.1 l.1 in
      let whole : (ys : List A) → take size (drop (g * size) ys) ++ take (n * size) (drop ((g + 1) * size) ys) ≡ take (suc n * size) (drop (g * size) ys) =
      λ ys.
      ap (λ k. take size (drop (g * size) ys) ++ take (n * size) (drop k ys)) (next_column g size)
      ∙ ap (λ vs. take size (drop (g * size) ys) ++ take (n * size) vs) (sym (drop-drop size (g * size) ys))
      ∙ take_then size (n * size) (drop (g * size) ys)
      ∙ ap (λ k. take k (drop (g * size) ys)) (let e : size + n * size ≡ suc n * size = omega arith in e) in
      let first : take size x ≡ take size z = sym (from_none x) ∙ here ∙ from_none z in
      sym (whole xs) ∙ ap₂ ◌++◌ first rest ∙ whole zs
    where
      from_none : (ys : List A) → take ((count - 0) * w) (drop (0 * w) ys) ≡ take size ys
      from_none ys = ap₂ (λ j k. take (j * w) (drop k ys)) (let e : count - 0 ≡ count = omega arith in e) (zero-mul w)
