-- Runs of lines put back in, from the last line to the first.
use Rattle.std.proofs.Common.{◌≡◌, ℕ, zero, suc, ◌+◌, ◌-◌, ◌*◌, ◌<◌, ◌≤◌, min, List, [], ◌∷◌, ◌++◌, map, length, get_or, take, drop, sym, refl, ap, ap₂, ◌∙◌, subst, append_assoc, add-mul, arith, length-take}
use mathlib.Core.List.{map-append}
use Rattle.std.proofs.Math.Seq.{take-add}
use Rattle.std.proofs.lemmas.List.{get_or-take, get_or-drop, same_lists, drop-drop, drop-take, take-take, drop_more, take_more, drop_all, take_all, take-append-drop}
use Rattle.std.proofs.lemmas.List.Sums.{sum_by-cons, sum_by_push, sum_by-take-le, sum_by-take-drop}
use Rattle.moves.specs.Slides.{Copied}
use Rattle.moves.proofs.Places.{columns_le, columns_split, columns_wider, column_after}
use Rattle.journal.specs.declared.parts.Run.{Run}
use Rattle.journal.specs.View.{run_of}
use Rattle.listed.specs.declared.cutting.Lines.{Lines}
use Rattle.listed.specs.Runs.{Rising}
use Rattle.listed.specs.Cuts.{between, taken, taken_of, gone, Opened, Reopened}
use Rattle.listed.proofs.Walks.{rising_from, rising_ends}
use Rattle.listed.proofs.Blocks.{nought, run_at, ahead, drop_on, block_long, copied_rest, group_more}

-- runs that rise, from the last one

rising_snoc : (a e : ℕ) (ps : List (ℕ × ℕ)) (r : ℕ × ℕ) → Rising a (ps ++ r ∷ []) e → Rising a ps r.0 × (r.0 + r.1 ≤ e)
rising_snoc a e [] r s = s
rising_snoc a e (p ∷ ps) r s = let h = rising_snoc (p.0 + p.1) e ps r s.1 in ((s.0, h.0), h.1)

pub rising_gone : (a e : ℕ) (rs : List Run) → Rising a (map run_of rs) e → a + gone rs ≤ e
rising_gone a e [] s = omega (arith, s)
rising_gone a e (r ∷ rs) s =
    let h = rising_gone (r.offset + r.length) e rs s.1 in
    let k = sum_by-cons (λ (r : Run). r.length) r rs in
    let l = s.0 in
    omega arith

between_rising : (a e : ℕ) (rs : List (ℕ × ℕ)) → Rising a rs e → Rising a (between a rs e) e
between_rising a e [] s = (omega arith, omega (arith, s))
between_rising a e (r ∷ rs) s =
    let g : r.0 ≡ a + (r.0 - a) = omega (arith, s.0) in (
      omega arith,
      subst (λ k. Rising k (between (r.0 + r.1) rs e) e) g (rising_from r.0 (r.0 + r.1) e (between (r.0 + r.1) rs e) (omega arith) (between_rising (r.0 + r.1) e rs s.1)),
    )

-- the run before place i
module _ (rs : List Run) (i j : ℕ) (ij : i ≡ j + 1) (h : j < length rs) where
  pub before_more : take i rs ≡ take j rs ++ get_or rs j nought ∷ []
  before_more = ap (λ k. take k rs) ij ∙ take_more rs j nought h

  pub before_gone : gone (take i rs) ≡ gone (take j rs) + (run_at rs j).1
  before_gone = ap gone before_more ∙ sum_by_push (λ (r : Run). r.length) (take j rs) (get_or rs j nought)

  pub before_rising : (at : ℕ) → Rising 0 (map run_of (take i rs)) at → Rising 0 (map run_of (take j rs)) (run_at rs j).0 × ((run_at rs j).0 + (run_at rs j).1 ≤ at)
  before_rising at s =
      rising_snoc 0 at (map run_of (take j rs)) (run_at rs j)
      (subst (λ zs. Rising 0 zs at) (ap (map run_of) before_more ∙ map-append run_of (take j rs) (get_or rs j nought ∷ [])) s)

  pub behind_more : ahead rs j ≡ run_at rs j ∷ ahead rs i
  behind_more = ap (map run_of) (drop_more rs j nought h) ∙ ap (λ k. run_at rs j ∷ ahead rs k) (sym ij)

-- blocks

module _ {A : Type 0} where
  pub take_on : (xs ys : List A) (n k : ℕ) → k ≤ n → take n ys ≡ take n xs → take k ys ≡ take k xs
  take_on xs ys n k h e = sym (take-take k n ys h) ∙ ap (take k) e ∙ take-take k n xs h

  -- what is read below n, where nothing below n has altered
  pub read_same : (xs ys : List A) (n from len : ℕ) → from + len ≤ n → take n ys ≡ take n xs → take len (drop from ys) ≡ take len (drop from xs)
  read_same xs ys n from len h e =
      sym (drop-take from len ys) ∙ ap (drop from) (take_on xs ys n (from + len) h e) ∙ drop-take from len xs

  pub copied_below : (src xs ys : List A) (from to len k : ℕ) → k ≤ to → Copied src xs ys from to len → take k ys ≡ take k xs
  copied_below src xs ys from to len k h s =
      let l1 = length-take k ys in
      same_lists (take k ys) (take k xs) (l1 ∙ ap (min k) s.long ∙ sym (length-take k xs)) (λ i d b.
      let c : i < k = omega (arith, l1) in
      get_or-take k ys i d c ∙ s.below i d (omega arith) ∙ sym (get_or-take k xs i d c))

  pub copied_block : (src xs ys : List A) (from to len : ℕ) → from + len ≤ length src → to + len ≤ length xs → Copied src xs ys from to len
      → take len (drop to ys) ≡ take len (drop from src)
  copied_block src xs ys from to len h l s =
      let e0 = s.long in
      let e1 = block_long ys to len (omega arith) in
      let e2 = block_long src from len h in
      same_lists (take len (drop to ys)) (take len (drop from src)) (e1 ∙ sym e2) (λ k d b.
      get_or-take len (drop to ys) k d (omega arith) ∙ get_or-drop to ys k d ∙ s.put k d (omega arith)
      ∙ sym (get_or-drop from src k d) ∙ sym (get_or-take len (drop from src) k d (omega arith)))

  pub copied_above : (src xs ys : List A) (from to len k : ℕ) → to + len ≤ k → Copied src xs ys from to len → drop k ys ≡ drop k xs
  copied_above src xs ys from to len k h s = drop_on ys xs (to + len) k h (copied_rest src xs ys from to len s)

  -- two blocks that adjoin
  pub blocks_join : (xs : List A) (at n m on all : ℕ) → on ≡ at + n → all ≡ n + m → take n (drop at xs) ++ take m (drop on xs) ≡ take all (drop at xs)
  blocks_join xs at n m on all f g =
      ap (λ k. take n (drop at xs) ++ take m (drop k xs)) f
      ∙ ap (λ z. take n (drop at xs) ++ take m z) (sym (drop-drop n at xs))
      ∙ sym (take-add n m (drop at xs))
      ∙ ap (λ k. take k (drop at xs)) (sym g)

  pub block_then : (xs : List A) (at n on : ℕ) → on ≡ at + n → take n (drop at xs) ++ drop on xs ≡ drop at xs
  block_then xs at n on f =
      ap (λ k. take n (drop at xs) ++ drop k xs) f
      ∙ ap (λ z. take n (drop at xs) ++ z) (sym (drop-drop n at xs))
      ∙ take-append-drop n (drop at xs)

-- the cells of lines

module _ {A : Type 0} (w : ℕ) where
  pub taken_same : (xs ys : List A) (a e : ℕ) (rs : List (ℕ × ℕ)) → Rising a rs e → drop (a * w) xs ≡ drop (a * w) ys → taken w xs rs ≡ taken w ys rs
  taken_same xs ys a e [] s h = refl
  taken_same xs ys a e (r ∷ rs) s h =
      ap₂ ◌++◌ (ap (take (r.1 * w)) (drop_on xs ys (a * w) (r.0 * w) (columns_le a r.0 w s.0) h))
      (taken_same xs ys (r.0 + r.1) e rs s.1 (drop_on xs ys (a * w) ((r.0 + r.1) * w) (columns_le a (r.0 + r.1) w (omega (arith, s.0))) h))

  gap_split : (xs : List A) (b a c : ℕ) → b ≤ a → a ≤ c → take ((c - b) * w) (drop (b * w) xs) ≡ take ((a - b) * w) (drop (b * w) xs) ++ take ((c - a) * w) (drop (a * w) xs)
  gap_split xs b a c h k =
      let e1 = columns_split b a w h in
      let e2 = columns_split a c w k in
      let e3 = columns_split b c w (omega arith) in
      sym (blocks_join xs (b * w) ((a - b) * w) ((c - a) * w) (a * w) ((c - b) * w) (omega arith) (omega arith))

  -- what lies between the runs, from b on, where none begins before a
  pub between_from : (xs : List A) (b a e : ℕ) (rs : List (ℕ × ℕ)) → b ≤ a → Rising a rs e
      → taken w xs (between b rs e) ≡ take ((a - b) * w) (drop (b * w) xs) ++ taken w xs (between a rs e)
  between_from xs b a e [] h s =
      ap (λ z. z ++ []) (gap_split xs b a e h s) ∙ append_assoc (take ((a - b) * w) (drop (b * w) xs)) (take ((e - a) * w) (drop (a * w) xs)) []
  between_from xs b a e (r ∷ rs) h s =
      let rest = taken w xs (between (r.0 + r.1) rs e) in
      ap (λ z. z ++ rest) (gap_split xs b a r.0 h s.0) ∙ append_assoc (take ((a - b) * w) (drop (b * w) xs)) (take ((r.0 - a) * w) (drop (a * w) xs)) rest

-- one group: the lines from `at` on stand, those of the runs from place j on among them; what is below `to` has not altered
pub record Coming {A : Type 0} (was lost : List A) (first top w e : ℕ) (rs : List Run) (is : List A) (j at from to own : ℕ) : Type 0 where
  pub on : first ≤ top
  pub inside : top + e * w ≤ length was
  pub all : length lost ≡ gone rs * w
  pub early : Rising 0 (map run_of (take j rs)) at
  pub late : Rising at (ahead rs j) e
  pub before : own ≡ gone (take j rs) * w
  pub source : from + own ≡ first + at * w
  pub target : to ≡ top + at * w
  pub long : length is ≡ length was
  pub below : take to is ≡ take to was
  pub above : drop (top + e * w) is ≡ drop (top + e * w) was
  pub put : taken w (drop top is) (ahead rs j) ≡ drop own lost
  pub kept : taken w (drop top is) (between at (ahead rs j) e) ≡ take (first + (e * w - length lost) - from) (drop from was)

module _ {A : Type 0} (was lost : List A) (first top w e : ℕ) (rs : List Run) (on : first ≤ top) (inside : top + e * w ≤ length was) (all : length lost ≡ gone rs * w) where
  pub lost_fits : Rising 0 (map run_of rs) e → length lost ≤ e * w
  lost_fits s = let h = columns_le (gone rs) e w (omega (arith, rising_gone 0 e rs s)) in omega arith

  pub coming_first : Rising 0 (map run_of rs) e → Coming was lost first top w e rs was (length rs) e (first + (e * w - length lost)) (top + e * w) (length lost)
  coming_first s =
      let n = length rs in
      let fits = lost_fits s in
      let t : take n rs ≡ rs = take_all n rs (omega arith) in
      let d : ahead rs n ≡ [] = ap (map run_of) (drop_all n rs (omega arith)) in
      let from : ℕ = first + (e * w - length lost) in
      let z0 : 0 * w ≡ 0 = omega arith in
      let z1 : (e - e) * w ≡ 0 = ap (λ k. k * w) (let z : e - e ≡ 0 = omega arith in z) ∙ z0 in
      let z2 : from - from ≡ 0 = omega arith in
      record {
        on = on;
        inside = inside;
        all = all;
        early = subst (λ zs. Rising 0 (map run_of zs) e) (sym t) s;
        late = subst (λ zs. Rising e zs e) (sym d) (let h : e ≤ e = omega arith in h);
        before = all ∙ ap (λ zs. gone zs * w) (sym t);
        source = omega arith;
        target = refl;
        long = refl;
        below = refl;
        above = refl;
        put = ap (taken w (drop top was)) d ∙ sym (drop_all (length lost) lost (omega arith));
        kept = ap (λ zs. taken w (drop top was) (between e zs e)) d
            ∙ ap (λ k. take k (drop (e * w) (drop top was)) ++ []) z1
            ∙ sym (ap (λ k. take k (drop from was)) z2);
      }

module _ {A : Type 0} {was lost : List A} {first top w e : ℕ} {rs : List Run} {is : List A} {i at from to own : ℕ} (c : Coming was lost first top w e rs is i at from to own) where
  pub coming_room : (from ≤ to) × (own ≤ length lost) × (to ≡ top + at * w) × (at * w ≤ e * w) × (at ≤ e) × (length is ≡ length was) × (from + own ≡ first + at * w) × (from ≤ first + (e * w - length lost))
  coming_room =
      let on = c.on in
      let all = c.all in
      let h1 = c.source in
      let h2 = c.target in
      let h3 = rising_ends at e (ahead rs i) c.late in
      let h4 = columns_le at e w h3 in
      let h5 = columns_le (gone (take i rs)) (gone rs) w (sum_by-take-le (λ (r : Run). r.length) rs i) in
      let h6 = c.before in
      let h7 = rising_gone at e (drop i rs) c.late in
      let h8 = columns_le (at + gone (drop i rs)) e w h7 in
      let h9 = add-mul at (gone (drop i rs)) w in
      let k1 = ap (λ z. z * w) (sum_by-take-drop (λ (r : Run). r.length) rs i) in
      let k2 = add-mul (gone (take i rs)) (gone (drop i rs)) w in
      (omega arith, omega arith, h2, h4, h3, c.long, h1, omega arith)

  module _ (j : ℕ) (ij : i ≡ j + 1) (h : j < length rs) where
    abbrev r : ℕ × ℕ
    r = run_at rs j

    abbrev gap : ℕ
    gap = (at - (r.0 + r.1)) * w

    pub turn_room : (r.0 + r.1 ≤ at) × (first + gap ≤ from) × (gap + r.1 * w + top + r.0 * w ≡ to) × (r.1 * w ≤ own) × (own - r.1 * w ≡ gone (take j rs) * w)
    turn_room =
        let s = before_rising rs i j ij h at c.early in
        let b = s.1 in
        let k1 = columns_split (r.0 + r.1) at w b in
        let k2 = add-mul r.0 r.1 w in
        let k3 = ap (λ z. z * w) (before_gone rs i j ij h) ∙ add-mul (gone (take j rs)) r.1 w in
        let k4 = columns_le (gone (take j rs)) r.0 w (omega (arith, rising_gone 0 r.0 (take j rs) s.0)) in
        let h1 = c.source in
        let h2 = c.target in
        let h3 = c.before in
        (b, omega arith, omega arith, omega arith, omega arith)

    pub coming_next : (ys zs : List A) → Copied is is ys (from - gap) (to - gap) gap → Copied lost ys zs (own - r.1 * w) (to - gap - r.1 * w) (r.1 * w)
        → Coming was lost first top w e rs zs j r.0 (from - gap) (to - gap - r.1 * w) (own - r.1 * w)
    coming_next ys zs s u =
        let n = r.1 * w in
        let b = r.0 + r.1 in
        let on = c.on in
        let inside = c.inside in
        let room = coming_room in
        let turn = turn_room in
        let rise = before_rising rs i j ij h at c.early in
        let late = rising_from b at e (ahead rs i) turn.0 c.late in
        let l0 = c.long in
        let l1 = s.long in
        let l2 = u.long in
        let k2 = add-mul r.0 r.1 w in
        let k1 = columns_split b at w turn.0 in
        let end : ℕ = first + (e * w - length lost) in
        let to1 : ℕ = to - gap in
        let to2 : ℕ = to - gap - n in
        let from1 : ℕ = from - gap in
        let own1 : ℕ = own - n in
        let e1 : top + at * w ≡ to = omega arith in
        let e2 : top + b * w ≡ to1 = omega arith in
        let e3 : top + r.0 * w ≡ to2 = omega arith in
        let past : drop to ys ≡ drop to is = copied_above is is ys from1 to1 gap to (omega arith) s in
        let past2 : drop to1 zs ≡ drop to1 ys = copied_above lost ys zs own1 to2 n to1 (omega arith) u in
        let same_ys : drop (at * w) (drop top ys) ≡ drop (at * w) (drop top is) =
        drop-drop (at * w) top ys ∙ ap (λ k. drop k ys) e1 ∙ past ∙ sym (ap (λ k. drop k is) e1) ∙ sym (drop-drop (at * w) top is) in
        let same_zs : drop (b * w) (drop top zs) ≡ drop (b * w) (drop top ys) =
        drop-drop (b * w) top zs ∙ ap (λ k. drop k zs) e2 ∙ past2 ∙ sym (ap (λ k. drop k ys) e2) ∙ sym (drop-drop (b * w) top ys) in
        let same_zs2 : drop (at * w) (drop top zs) ≡ drop (at * w) (drop top is) =
        drop_on (drop top zs) (drop top ys) (b * w) (at * w) (columns_le b at w turn.0) same_zs ∙ same_ys in
        let moved : take gap (drop (b * w) (drop top zs)) ≡ take gap (drop from1 was) =
        ap (take gap) (same_zs ∙ drop-drop (b * w) top ys ∙ ap (λ k. drop k ys) e2)
        ∙ copied_block is is ys from1 to1 gap (omega arith) (omega arith) s
        ∙ read_same was is to from1 gap (omega arith) c.below in
        let written : take n (drop (r.0 * w) (drop top zs)) ≡ take n (drop own1 lost) =
        ap (take n) (drop-drop (r.0 * w) top zs ∙ ap (λ k. drop k zs) e3)
        ∙ copied_block lost ys zs own1 to2 n (omega arith) (omega arith) u in
        let z0 : 0 * w ≡ 0 = omega arith in
        let none : (r.0 - r.0) * w ≡ 0 = ap (λ k. k * w) (let z : r.0 - r.0 ≡ 0 = omega arith in z) ∙ z0 in
        let more : ahead rs j ≡ r ∷ ahead rs i = behind_more rs i j ij h in
        let xs = drop top zs in
        record {
          on = on;
          inside = inside;
          all = c.all;
          early = rise.0;
          late = subst (λ zs. Rising r.0 zs e) (sym more) (let k : r.0 ≤ r.0 = omega arith in k, late);
          before = turn.4;
          source = omega arith;
          target = omega arith;
          long = l2 ∙ l1 ∙ l0;
          below = copied_below lost ys zs own1 to2 n to2 (omega arith) u
              ∙ copied_below is is ys from1 to1 gap to2 (omega arith) s
              ∙ take_on was is to to2 (omega arith) c.below;
          above = copied_above lost ys zs own1 to2 n (top + e * w) (omega arith) u
              ∙ copied_above is is ys from1 to1 gap (top + e * w) (omega arith) s
              ∙ c.above;
          put = ap (taken w xs) more
              ∙ ap₂ ◌++◌ written (taken_same w xs (drop top is) at e (ahead rs i) c.late same_zs2 ∙ c.put)
              ∙ block_then lost own1 n own (omega arith);
          kept = ap (λ zs. taken w xs (between r.0 zs e)) more
              ∙ ap (λ k. take k (drop (r.0 * w) xs) ++ taken w xs (between b (ahead rs i) e)) none
              ∙ between_from w xs b at e (ahead rs i) turn.0 c.late
              ∙ ap₂ ◌++◌ moved (taken_same w xs (drop top is) at e (between at (ahead rs i) e) (between_rising at e (ahead rs i) c.late) same_zs2 ∙ c.kept)
              ∙ blocks_join was from1 gap (end - from) from (end - from1) (omega arith) (omega arith);
        }

  pub coming_done : i ≡ 0 → (ys : List A) → Copied is is ys first top (at * w)
      → (length ys ≡ length was) × (taken w (drop top ys) (map run_of rs) ≡ lost) × (taken w (drop top ys) (between 0 (map run_of rs) e) ≡ take (e * w - length lost) (drop first was))
      × (take top ys ≡ take top was) × (drop (top + e * w) ys ≡ drop (top + e * w) was)
  coming_done i0 ys s =
      let room = coming_room in
      let on = c.on in
      let inside = c.inside in
      let z : 0 * w ≡ 0 = omega arith in
      let own0 : own ≡ 0 = c.before ∙ ap (λ k. gone (take k rs) * w) i0 ∙ z in
      let l1 = s.long in
      let from1 : from ≡ first + at * w = omega arith in
      let to1 = c.target in
      let xs = drop top ys in
      let runs0 : map run_of rs ≡ ahead rs i = sym (ap (ahead rs) i0) in
      let past : drop to ys ≡ drop to is = copied_above is is ys first top (at * w) to (omega arith) s in
      let same : drop (at * w) xs ≡ drop (at * w) (drop top is) =
      drop-drop (at * w) top ys ∙ ap (λ k. drop k ys) (sym to1) ∙ past ∙ ap (λ k. drop k is) to1 ∙ sym (drop-drop (at * w) top is) in
      let moved : take (at * w) xs ≡ take (at * w) (drop first was) =
      copied_block is is ys first top (at * w) (omega arith) (omega arith) s
      ∙ read_same was is to first (at * w) (omega arith) c.below in
      let z1 : at - 0 ≡ at = omega arith in
      let put : taken w xs (map run_of rs) ≡ lost =
      ap (taken w xs) runs0 ∙ taken_same w xs (drop top is) at e (ahead rs i) c.late same ∙ c.put ∙ ap (λ k. drop k lost) own0 in
      let kept : taken w xs (between 0 (map run_of rs) e) ≡ take (e * w - length lost) (drop first was) =
      ap (λ zs. taken w xs (between 0 zs e)) runs0
      ∙ between_from w xs 0 at e (ahead rs i) (omega arith) c.late
      ∙ ap₂ (λ k m. take (k * w) (drop m xs) ++ taken w xs (between at (ahead rs i) e)) z1 z
      ∙ ap₂ ◌++◌ moved (taken_same w xs (drop top is) at e (between at (ahead rs i) e) (between_rising at e (ahead rs i) c.late) same ∙ c.kept)
      ∙ blocks_join was first (at * w) (first + (e * w - length lost) - from) from (e * w - length lost) from1 (omega arith) in
      let below : take top ys ≡ take top was = copied_below is is ys first top (at * w) top (omega arith) s ∙ take_on was is to top (omega arith) c.below in
      let above : drop (top + e * w) ys ≡ drop (top + e * w) was = copied_above is is ys first top (at * w) (top + e * w) (omega arith) s ∙ c.above in
      (l1 ∙ c.long, put, kept, below, above)

-- group by group

pub taken_of_same : {A : Type 0} (w size n g : ℕ) (xs ys : List A) (rs : List (ℕ × ℕ)) → drop (g * size) xs ≡ drop (g * size) ys → taken_of w size g n xs rs ≡ taken_of w size g n ys rs
taken_of_same w size zero g xs ys rs h = refl
taken_of_same w size (suc n) g xs ys rs h =
    ap₂ ◌++◌ (ap (λ z. taken w z rs) h)
    (taken_of_same w size n (g + 1) xs ys rs (drop_on xs ys (g * size) ((g + 1) * size) (columns_le g (g + 1) size (omega arith)) h))

-- the groups from g on stand; what is below them has not altered
pub record Regrouped {A : Type 0} (was lost : List A) (lines : Lines) (rs : List Run) (one left : ℕ) (is : List A) (g : ℕ) : Type 0 where
  pub sum : one + left ≡ lines.count * lines.width
  pub all : length lost ≡ lines.groups * one
  pub fits : lines.groups * (lines.count * lines.width) ≤ length was
  pub long : length is ≡ length was
  pub below : take (g * (lines.count * lines.width)) is ≡ take (g * (lines.count * lines.width)) was
  pub put : taken_of lines.width (lines.count * lines.width) g (lines.groups - g) is (map run_of rs) ≡ drop (g * one) lost
  pub kept : taken_of lines.width (lines.count * lines.width) g (lines.groups - g) is (between 0 (map run_of rs) lines.count)
      ≡ take ((lines.groups - g) * left) (drop (g * left) was)

module _ {A : Type 0} (was lost : List A) (lines : Lines) (rs : List Run) (one left : ℕ) where
  pub groups_first : one + left ≡ lines.count * lines.width → length lost ≡ lines.groups * one → lines.groups * (lines.count * lines.width) ≤ length was → Regrouped was lost lines rs one left was lines.groups
  groups_first sum all fits =
      let n = lines.groups in
      let size = lines.count * lines.width in
      let z : n - n ≡ 0 = omega arith in
      let z0 : 0 * left ≡ 0 = omega arith in
      record {
        sum = sum;
        all = all;
        fits = fits;
        long = refl;
        below = refl;
        put = ap (λ k. taken_of lines.width size n k was (map run_of rs)) z ∙ sym (drop_all (n * one) lost (omega arith));
        kept = ap (λ k. taken_of lines.width size n k was (between 0 (map run_of rs) lines.count)) z
            ∙ sym (ap (λ k. take (k * left) (drop (n * left) was)) z ∙ ap (λ k. take k (drop (n * left) was)) z0);
      }

module _ {A : Type 0} {was lost : List A} {lines : Lines} {rs : List Run} {one left : ℕ} {is : List A} {i : ℕ} (c : Regrouped was lost lines rs one left is i) where
  abbrev size : ℕ
  size = lines.count * lines.width

  module _ (j : ℕ) (ij : i ≡ j + 1) (h : i ≤ lines.groups) where
    -- where a group stands
    pub group_room : (j * size + size ≤ length is) × (j * left ≤ j * size) × (j * one + one ≤ length lost) × (j * left + left ≤ i * size)
    group_room =
        let sum = c.sum in
        let all = c.all in
        let fits = c.fits in
        let long = c.long in
        let k1 = column_after j i size ij in
        let k2 = columns_le i lines.groups size h in
        let k3 = column_after j i one ij in
        let k4 = columns_le i lines.groups one h in
        let k5 = columns_wider j left size (omega arith) in
        let k6 = columns_wider i left size (omega arith) in
        let k7 = column_after j i left ij in
        (omega arith, omega arith, omega arith, omega arith)

    pub groups_next : (ys own : List A) → own ≡ take one (drop (j * one) lost) → length own ≡ one
        → Opened is ys (j * left) (j * size) lines rs own → Regrouped was lost lines rs one left ys j
    groups_next ys own is_own ones o =
        let n = lines.groups in
        let w = lines.width in
        let room = group_room in
        let sum = c.sum in
        let jn : j < n = omega arith in
        let k1 = column_after j i size ij in
        let k3 = column_after j i one ij in
        let k7 = column_after j i left ij in
        let k8 = column_after (n - i) (n - j) left (omega arith) in
        let rest : n - (j + 1) ≡ n - i = omega arith in
        let past : drop (i * size) ys ≡ drop (i * size) is = ap (λ k. drop k ys) k1 ∙ o.above ∙ sym (ap (λ k. drop k is) k1) in
        let more : (qs : List (ℕ × ℕ)) → taken_of w size j (n - j) ys qs ≡ taken w (drop (j * size) ys) qs ++ taken_of w size i (n - i) is qs =
        λ qs. group_more w size j n ys qs jn
        ∙ ap₂ (λ k m. taken w (drop (j * size) ys) qs ++ taken_of w size k m ys qs) (sym ij) rest
        ∙ ap (λ z. taken w (drop (j * size) ys) qs ++ z) (taken_of_same w size (n - i) i ys is qs past) in
        let len : size - length own ≡ left = omega arith in
        record {
          sum = sum;
          all = c.all;
          fits = c.fits;
          long = o.long ∙ c.long;
          below = o.below ∙ take_on was is (i * size) (j * size) (omega arith) c.below;
          put = more (map run_of rs) ∙ ap₂ ◌++◌ (o.put ∙ is_own) c.put ∙ block_then lost (j * one) one (i * one) k3;
          kept = more (between 0 (map run_of rs) lines.count)
              ∙ ap₂ ◌++◌ (o.kept ∙ ap (λ k. take k (drop (j * left) is)) len ∙ read_same was is (i * size) (j * left) left room.3 c.below) c.kept
              ∙ blocks_join was (j * left) left ((n - i) * left) (i * left) ((n - j) * left) k7 (omega arith);
        }

  pub groups_done : i ≡ 0 → one ≡ gone rs * lines.width → left ≡ size - one → gone rs ≤ lines.count
      → Reopened was is lines rs lost
  groups_done i0 ones lefts few =
      let n = lines.groups in
      let w = lines.width in
      let k = columns_split (gone rs) lines.count w few in
      let is_left : left ≡ (lines.count - gone rs) * w = omega arith in
      let z0 : 0 * one ≡ 0 = omega arith in
      let z1 : 0 * left ≡ 0 = omega arith in
      let z2 : n - 0 ≡ n = omega arith in
      let from : (qs : List (ℕ × ℕ)) → taken_of w size 0 n is qs ≡ taken_of w size i (n - i) is qs =
      λ qs. ap (λ k. taken_of w size 0 k is qs) (sym z2) ∙ sym (ap (λ k. taken_of w size k (n - k) is qs) i0) in
      record {
        long = c.long;
        put = from (map run_of rs) ∙ c.put ∙ ap (λ k. drop (k * one) lost) i0 ∙ ap (λ k. drop k lost) z0;
        kept = from (between 0 (map run_of rs) lines.count) ∙ c.kept
            ∙ ap (λ k. take ((n - k) * left) (drop (k * left) was)) i0
            ∙ ap₂ (λ k m. take (k * left) (drop m was)) z2 z1
            ∙ ap (λ k. take (n * k) was) is_left;
      }

-- the runs' lines of one group, and what they leave of it
pub group_sizes : (lines : Lines) (rs : List Run) (k : ℕ) → Rising 0 (map run_of rs) lines.count → k ≡ gone rs
    → (gone rs ≤ lines.count) × (k * lines.width ≡ gone rs * lines.width) × (k * lines.width ≤ lines.count * lines.width) × (k * lines.width + (lines.count * lines.width - k * lines.width) ≡ lines.count * lines.width)
group_sizes lines rs k s e =
    let h = rising_gone 0 lines.count rs s in
    let f = ap (λ z. z * lines.width) e in
    let l = columns_le (gone rs) lines.count lines.width (omega arith) in
    (omega arith, f, omega arith, omega arith)

pub group_saved_all : (n k w one all : ℕ) → one ≡ k * w → all ≡ n * (k * w) → all ≡ n * one
group_saved_all n k w one all e f = f ∙ sym (ap (λ z. n * z) e)

pub own_block : {A : Type 0} (lost : List A) (at n m : ℕ) → m ≡ n → at + n ≤ length lost → (take m (drop at lost) ≡ take n (drop at lost)) × (length (take m (drop at lost)) ≡ n)
own_block lost at n m e h =
    let f = ap (λ k. take k (drop at lost)) e in
    (f, ap length f ∙ block_long lost at n h)
