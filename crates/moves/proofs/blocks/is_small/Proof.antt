-- `is_small` meets its contract, for every type.
use Rattle.std.proofs.Common.{◌≡◌, ℕ, ◌^◌, ◌<◌, Bool, true, T, ltb, List, [], ◌∷◌, sym, refl, ◌∙◌, subst, arith, lit<, ltb→lt, w64, Fits}
use seplogic.Ra.Ura.{Ura}
use mir.Syntax.{Fn, Args, a_type}
use mir.MapTy.{inst_fn}
use mir.Val.{Val, vbool, vint}
use base.Logic.{SProp, ent, via, fst∗, guard_i}
use base.Fml.{Lft, Share, ftrue, flft}
use prog.Memory.{Memory, size, capped}
use prog.Capped.{capped_small}
use prog.Routine.{Routine}
use prog.Wp.{WpFn, Tables}
use types.Logic.{Logic}
use contract.Monad.{Fun}
use contract.Running.{tables, tables_of}
use sound.WpLaws.{WpFn-mono}
use types.Kit.{‵, ◌⊛◌, ◌$◌, ◌∵◌, !, qed, move, keep, join, feq_i, suffices, done}
use types.Run.{size_word, bin, returns, enter}
use types.ByLocal.{alloc_all, pass_all, free_all, look_at, sets}
use denote.RattleType.{RattleType}
use denote.Param.{layout, layouts}
use denote.Steps.{nothing}
use denote.Triple.Clauses.{Clauses, closing}
use denote.Triple.Entry.{on_entry}
use denote.Triple.Spec.{Meets, triple_of}
use denote.Triple.Table.{entered}
use denote.Triple.Walked.{says, walk_of, ends_at, walked, walk_Meets}
use Rattle.moves.specs.contracts.blocks.is_small as F
use Rattle.moves.specs.contracts.blocks.is_small.Key.{name as #self}
use Rattle.moves.proofs.blocks.is_small.Statement as stated
use Rattle.moves.proofs.blocks.is_small.Code as code

told : (s : ℕ) (b : Bool) → ltb (capped s) 131072 ≡ b → b ≡ true → s < 2 ^ 63
told s b e t =
    let l : capped s < 131072 = ltb→lt (capped s) 131072 (subst T (sym (e ∙ t)) tt) in
    capped_small s (omega arith)

module _ (X : RattleType) where
  abbrev args : Args
  args = layouts (a_type ∷ []) (X, tt)

  abbrev fn' : Fn
  fn' = inst_fn args code.function

  module _ {M : Type 1} {𝓤 : Ura M} (𝓛 : Logic 𝓤) (at_mem : Memory → SProp 𝓤) (run : Routine → Fun 𝓤) (𝓣 : Tables 𝓤 𝓛.H) where
    open 𝓛 use {H}

    abbrev clauses : Clauses 𝓤 (F.ended X)
    clauses = F.clauses X 𝓛 at_mem run

    walk : (κ : Lft) (q : Share) → ent 𝓤 (on_entry 𝓛 (F.signature X) (κ, tt) (q, tt) tt tt) (WpFn 𝓤 H 𝓣.C 𝓣.Λ fn' [] ((walk_of 𝓛 (F.ended X) tt clauses).post (((κ, tt), (q, tt), tt, tt, tt), tt)))
    walk κ q =
        let s : ℕ = size (layout X) in
        let b : Bool = ltb (capped s) 131072 in
        qed 𝓛 ((‵ (flft κ q) ⊛ ‵ ftrue) ∷ ‵ ftrue ∷ []) ∵ enter ! 𝓣.C 𝓣.Λ fn' [] _ $
        alloc_all ! (λ l. pass_all ! refl tt $
        sets ! (bin ! (size_word !) (record { go = λ Kt z. via 𝓤 (Kt (vint w64 131072)) z (guard_i 𝓤 (Fits w64 131072) (Kt (vint w64 131072)) (record { fits = lit< tt })) }) tt) refl (tt, tt) $
        returns ! (look_at ! 0 refl) $ free_all ! refl $
        suffices ! _ (ends_at 𝓛 (F.ended X) tt clauses (((κ, tt), (q, tt), tt, tt, tt), tt) (vbool b) b tt tt) $ says ! (told s b refl) $
        feq_i ! (List Val) (vbool b ∷ []) (vbool b ∷ []) refl $ nothing ! $ join ! $ move ! (1 ∷ 0 ∷ []) $ join ! $ keep ! (0 ∷ []) $ done !)

    meets : Meets 𝓛 (F.signature X) (WpFn 𝓤 H 𝓣.C 𝓣.Λ fn') (closing 𝓛 (F.ended X) clauses)
    meets =
        walk_Meets 𝓛 (F.ended X) tt tt clauses (WpFn 𝓤 H 𝓣.C 𝓣.Λ fn') (WpFn-mono 𝓤 H 𝓛.laws 𝓣 fn')
        (walked 𝓛 (F.ended X) tt clauses (WpFn 𝓤 H 𝓣.C 𝓣.Λ fn') (λ κs. tt) (λ κs. tt)
        (λ κs qs bounds a g are. via 𝓤 _ (fst∗ 𝓤 _ ((clauses κs a).requires g)) (walk κs.0 qs.0)))

pub is_small_spec : {M : Type 1} → stated.statement M
unfolding tables_of
is_small_spec 𝓤 𝓛 𝓜 𝓡 wired X L =
    let A = 𝓛.A in
    let 𝓣 : Tables 𝓤 𝓛.H = tables_of 𝓤 𝓛.H 𝓜 (tables 𝓤 𝓛.H 𝓜 𝓡 𝓡.env) in
    entered 𝓤 𝓛.H (triple_of 𝓛 (F.signature X) (F.spec X 𝓛 𝓜.mem 𝓡.returns)) 𝓣.C 𝓣.Λ (#self (args X)) (fn' X) (code.unfolded 𝓤 𝓛.H 𝓜 𝓡 wired (X, tt))
    (meets X 𝓛 𝓜.mem 𝓡.returns 𝓣)
