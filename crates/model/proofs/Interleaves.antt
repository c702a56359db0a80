-- Row calls and column calls in any interleaving.
use Rattle.std.proofs.Common.{◌≡◌, ℕ, zero, suc, ◌<◌, List, [], ◌∷◌, ◌++◌, map, length, get_or, sym, refl, ap, ◌∙◌, subst, ap₂, arith}
use mathlib.Core.Path.{fun_ext}
use Rattle.std.specs.List.{range_with_len}
use Rattle.std.proofs.lemmas.List.{length-map}
use Rattle.std.proofs.lemmas.List.FromFn.{fill_by_all}
use Rattle.model.specs.Sheet.{Origin, old, new, Edit, keep, insert, remove, remove_at, swap, origins, Side, row, column, Change, insert_lines, remove_lines, remove_listed, swap_lines, fill_lines, resize_to, on, edit}
use mathlib.Core.List.{map-map}
use Rattle.model.specs.History.{final}
use Rattle.model.specs.Provenance.{left, descent, descents, line, Told, mine, call_on, calls_on, Interleaved}
use Rattle.model.proofs.Descents.{cells}

get_d_mapped : {X Y : Type 0} (f : X → Y) (xs : List X) (k : ℕ) (d : X) → get_or (map f xs) k (f d) ≡ f (get_or xs k d)
get_d_mapped f [] k d = refl
get_d_mapped f (x ∷ xs) zero d = refl
get_d_mapped f (x ∷ xs) (suc k) d = get_d_mapped f xs k d

-- what the opening knows of a line: k + 1 for its line k, 0 for a later one

abbrev age_of : ℕ → ℕ → ℕ
age_of zero k = suc k
age_of (suc t) k = 0

abbrev age : ℕ × ℕ → ℕ
age a = age_of a.0 a.1

age_back : (t j k : ℕ) → age_of t j ≡ suc k → ◌≡◌ {A = ℕ × ℕ} (t, j) (0, k)
age_back zero j k e = let f : j ≡ k = omega arith in ap (λ z. (0, z)) f
age_back (suc t) j k e = absurd (omega arith)

abbrev look : List ℕ → Origin → ℕ
look ages (old k) = get_or ages k 1
look ages (new j) = 0

abbrev next : Edit → List ℕ → List ℕ
next e ages = map (look ages) (origins e (length ages))

abbrev ages_by : List Edit → List ℕ → List ℕ
ages_by [] ages = ages
ages_by (e ∷ es) ages = next e (ages_by es ages)

ages_by-++ : (xs ys : List Edit) (ages : List ℕ) → ages_by (xs ++ ys) ages ≡ ages_by xs (ages_by ys ages)
ages_by-++ [] ys ages = refl
ages_by-++ (x ∷ xs) ys ages = ap (next x) (ages_by-++ xs ys ages)

next_keep : (ages : List ℕ) → next keep ages ≡ ages
next_keep ages =
    map-map (look ages) old (range_with_len 0 (length ages))
    ∙ sym (fill_by_all (λ k. get_or ages k 1) ages (length ages) 1 refl (λ k h. refl))

next_on : (s s' : Side) (e : Edit) (ages : List ℕ) → next (on s s' e) ages ≡ ages_by (mine s s' e) ages
next_on row row e ages = refl
next_on row column e ages = next_keep ages
next_on column row e ages = next_keep ages
next_on column column e ages = refl

next_call : {A : Type 0} (s : Side) (ch : Change A) (ages : List ℕ) → next (edit s ch) ages ≡ ages_by (call_on s ch) ages
next_call s (insert_lines s' i n v) ages = next_on s s' (insert i n) ages
next_call s (remove_lines s' i n) ages = next_on s s' (remove i n) ages
next_call s (remove_listed s' ks) ages = next_on s s' (remove_at ks) ages
next_call s (swap_lines s' i j) ages = next_on s s' (swap i j) ages
next_call s (fill_lines s' i n vs v) ages = next_on s s' (insert i n) ages
next_call row (resize_to m n v) ages = refl
next_call column (resize_to m n v) ages = refl

age_descent : (t : ℕ) (B : List (ℕ × ℕ)) (o : Origin) → age (descent (suc t) B o) ≡ look (map age B) o
age_descent t B (old k) = sym (get_d_mapped age B k (0, 0))
age_descent t B (new j) = refl

ages : {A : Type 0} (s : Side) (m : ℕ) (chs : List (Change A)) → map age (descents s m chs) ≡ ages_by (calls_on s chs) (map suc (range_with_len 0 m))
ages s m [] = map-map age (λ k. (0, k)) (range_with_len 0 m)
ages s m (ch ∷ chs) =
    let B = descents s m chs in
    let start = map suc (range_with_len 0 m) in
    map-map age (descent (suc (length chs)) B) (origins (edit s ch) (length B))
    ∙ ap₂ (λ f n. map f (origins (edit s ch) n)) (fun_ext (age_descent (length chs) B)) (sym (length-map B age))
    ∙ ap (next (edit s ch)) (ages s m chs)
    ∙ next_call s ch (ages_by (calls_on s chs) start)
    ∙ sym (ages_by-++ (call_on s ch) (calls_on s chs) start)

module _ {A : Type 0} (s : Side) (m : ℕ) (chs chs' : List (Change A)) (e : calls_on s chs ≡ calls_on s chs') where
  same_ages : map age (descents s m chs) ≡ map age (descents s m chs')
  same_ages = ages s m chs ∙ ap (λ es. ages_by es (map suc (range_with_len 0 m))) e ∙ sym (ages s m chs')

  same_length : length (descents s m chs) ≡ length (descents s m chs')
  same_length = sym (length-map (descents s m chs) age) ∙ ap length same_ages ∙ length-map (descents s m chs') age

  same_line : (r k : ℕ) → line (descents s m chs) r ≡ (0, k) → line (descents s m chs') r ≡ (0, k)
  same_line r k f =
      let b = line (descents s m chs') r in
      age_back b.0 b.1 k
      (sym (get_d_mapped age (descents s m chs') r (0, 0)) ∙ ap (λ z. get_or z r 1) (sym same_ages)
      ∙ get_d_mapped age (descents s m chs) r (0, 0) ∙ ap age f)

pub interleaved : (A : Type 0) → Interleaved A
interleaved A t room room' right calls calls' er ec =
    let chs = left t room calls in
    let chs' = left t room' calls' in
    let w : Told t (final t room calls).table chs = cells A t room right calls in
    let w' : Told t (final t room' calls').table chs' = cells A t room' right calls' in
    let rows = w.rows ∙ same_length row t.rows chs chs' er ∙ sym w'.rows in
    let columns = w.columns ∙ same_length column t.columns chs chs' ec ∙ sym w'.columns in
    record {
      rows = rows;
      columns = columns;
      opening = λ r c k l hr hc f g.
          let f' = same_line row t.rows chs chs' er r k f in
          let g' = same_line column t.columns chs chs' ec c l g in (
            f',
            g',
            w.opening r c k l hr hc f g
                ∙ sym (w'.opening r c k l (subst (λ n. r < n) rows hr) (subst (λ n. c < n) columns hc) f' g'),
          );
    }
