-- `halves` makes a ghost name, whose two halves they are.
use mathlib.Core.Path.{◌≡◌, refl, sym, subst}
use mathlib.Core.List.{List, [], ◌∷◌, ◌++◌}
use seplogic.Ra.Ura.{Ura}
use mir.Syntax.{Fn, a_type}
use mir.Val.{Val, vstruct, vcons, vnil, of_list}
use mir.MapTy.{inst_fn}
use base.Logic.{SProp, ent, via, fst∗, snd∗}
use base.Fml.{Fml, ftrue, fsep, feq, flft}
use base.Stored.{coded_list}
use prog.Wp.{WpFn}
use prog.Model.{Model}
use types.Logic.{Logic, sem}
use contract.Monad.{fact_use}
use contract.Running.{Running, MachineTables, tables, tables_of}
use sound.WpLaws.{WpFn-mono}
use types.Kit.{‵, raw, ◌⊛◌, ◌$◌, ◌∵◌, !, qed, move, keep, split, join, fjoin, fjoin3, fpack, suffices, frame, use0}
use types.Kit.{use2, feq_i}
use types.Tokens.{name_new}
use types.Run.{no_more, and_then, returns, enter}
use types.Part.{agg}
use types.ByLocal.{alloc_all, pass_all, free_all, look_at, get, sets}
use denote.Exit.{yes}
use denote.RattleType.{RattleType, Valss, owns}
use denote.Laws.{Are, Ises, owns_show, showss}
use denote.Signature.{types_at, plain}
use denote.Builtin.{RefOf}
use denote.Steps.{nothing, opens, closes}
use denote.Param.{param, layouts}
use denote.Triple.Clauses.{Clauses, closing}
use denote.Triple.Entry.{on_entry, alive}
use denote.Triple.Spec.{Meets, triple_of}
use denote.Triple.Table.{entered}
use denote.Triple.Walked.{Stays, stay_dropped, stay_ref, walk_of, ends_at, Goes-dropped, Goes-ref, walk_Meets}
use contract.CodeStep
use Rattle.sja_threads.proofs.Twin.Walks.{token, Mark, made, tells, tells_last}
use Rattle.sja_threads.specs.Inside.Halves.{kept_owns, known_owns}
use Rattle.sja_threads.specs.contracts.kept_half.KeptHalf as kept
use Rattle.sja_threads.specs.contracts.known_half.KnownHalf as known
use Rattle.sja_threads.proofs.Twin.Steps as steps
use Rattle.sja_threads.specs.contracts.halves.both_halves.{ended, clauses}
use Rattle.sja_threads.specs.contracts.halves.both_halves.Key.{name as #self}
use Rattle.sja_threads.proofs.halves.both_halves.Statement as stated
use Rattle.sja_threads.proofs.halves.both_halves.Code as code

module _ (Y : RattleType) {M : Type 1} {𝓤 : Ura M} (𝓛 : Logic 𝓤) (𝓜 : Model 𝓤 𝓛.H) (𝓡 : Running 𝓤 𝓛.H 𝓜) where
  open 𝓛 use {H}

  abbrev R : RattleType
  R = param 0 Y

  abbrev function : Fn
  function = inst_fn (layouts (a_type ∷ []) (Y, tt)) code.function

  abbrev A : RattleType
  A = kept.the_row R

  abbrev B : RattleType
  B = known.the_row R

  abbrev stayed : Stays (ended Y).signature.params (ended Y).kept
  stayed = tt

  abbrev 𝓣 : MachineTables 𝓤 H 𝓜
  𝓣 = tables 𝓤 H 𝓜 𝓡 𝓡.env

  abbrev held : Clauses 𝓤 (ended Y)
  held = clauses Y 𝓛 𝓜.mem 𝓡.returns

  module _ (z : (walk_of 𝓛 (ended Y) stayed held).Ghost) where
    abbrev Vss : Type 0
    Vss = Unit {0}

    abbrev At : Vss → (walk_of 𝓛 (ended Y) stayed held).Ghost
    At vss = ((z.0.0, z.0.1, z.0.2, z.0.3, vss), z.1)

    abbrev Goes : Vss → Type 1
    Goes vss = ent 𝓤 ((walk_of 𝓛 (ended Y) stayed held).pre (At vss)) (WpFn 𝓤 H 𝓣.C 𝓣.Λ function ((walk_of 𝓛 (ended
        Y) stayed held).args (At vss)) ((walk_of 𝓛 (ended Y) stayed held).post (At vss)))

    abbrev args : Fml
    args = owns (types_at (ended Y).signature.params z.0.0) z.0.3 tt

    abbrev asked : SProp 𝓤
    asked = (held z.0.0 z.0.3).requires z.1

    walks : Goes tt
    walks =
        let v : Val = vstruct (vcons token (vcons token vnil)) in
        qed 𝓛 (((‵ (flft z.0.0.0 z.0.1.0) ⊛ ‵ ftrue) ⊛ ‵ args) ∷ raw asked ∷ []) ∵ split ! $ keep ! (0 ∷ []) $ enter
        ! 𝓣.C 𝓣.Λ function [] _ $ alloc_all ! (λ l. pass_all ! refl tt $
        name_new ! tt ((coded_list R.coded).code []) (λ γ.
        let kept₀ : A.Denot = record { marker = record {}; name = γ; list = [] } in let known₀ : B.Denot = record {
          marker = record {};
          name = γ;
          list = [];
        } in
        move ! (1 ∷ 0 ∷ []) $ use2 𝓛 (‵ (kept_owns R.coded γ []) ⊛ ‵ (known_owns R.coded γ [])) (steps.are 𝓛 R.coded
        γ) $ split ! $
        sets ! (agg ! (no_more !)) refl (tt, tt) $ sets ! (agg ! (and_then ! (get ! refl) (no_more !))) refl (
          tt,
          (tt, tt),
        ) $ sets ! (agg ! (no_more !)) refl (tt, tt) $ sets ! (agg ! (and_then ! (get ! refl) (no_more
        !))) refl (tt, (tt, tt)) $
        sets ! (agg ! (and_then ! (get ! refl) (and_then ! (get ! refl) (no_more !)))) refl (
          tt,
          (
            (tt, tt),
            (
              (
                tt,
                tt,
              ),
              tt,
            ),
          ),
        ) $
        returns ! (look_at ! 0 refl) $ free_all ! refl $ suffices ! _ (ends_at 𝓛 (ended Y) stayed held (At tt) v
        (kept₀, known₀) tt tt) $
        use0 𝓛 (‵ ((Mark (kept.the_type R).name (R ∷ []) R).own_val (tt, tt) (token ∷ []))) (made (kept.the_type
        R).name (R ∷ []) R 𝓛) $ fjoin ! $ move ! (1 ∷ []) $ use0 𝓛 (‵ ((Mark (known.the_type R).name (R ∷ [])
        R).own_val (tt, tt) (token ∷ []))) (made (known.the_type R).name (R ∷ []) R 𝓛) $ fjoin ! $ nothing ! $
        move ! (2 ∷ 1 ∷ 0 ∷ []) $ fjoin3 ! $ feq_i ! (List Val) (v ∷ []) (v ∷ []) refl $ fjoin ! $
        fpack ! (Valss (A ∷ B ∷ [])) (λ vss. fsep (feq (List Val) (v ∷ []) (vstruct (of_list (vss.0 ++ (vss.1.0 ++
        []))) ∷ [])) (owns (A ∷ B ∷ []) (kept₀, (known₀, tt)) vss)) (token ∷ [], (token ∷ [], tt)) $
        nothing ! $ join ! $ move ! (1 ∷ 0 ∷ []) $ join ! $ frame ! $ tells ! refl $ tells ! refl $ tells_last ! refl))

  meets : Meets 𝓛 (ended Y).signature (WpFn 𝓤 H 𝓣.C 𝓣.Λ function) (closing 𝓛 (ended Y) held)
  unfolding tables_of contract.CodeStep.c_Tables
  meets =
      walk_Meets 𝓛 (ended Y) stayed tt held
      (WpFn 𝓤 H 𝓣.C 𝓣.Λ function) (WpFn-mono 𝓤 H 𝓛.laws (tables_of 𝓤 H 𝓜 𝓣) function)
      (λ z. walks z)

pub both_halves_spec : {M : Type 1} → stated.statement M
both_halves_spec 𝓤 𝓛 𝓜 𝓡 wired Y laws = let 𝓣' = tables 𝓤 𝓛.H 𝓜 𝓡 𝓡.env in
    entered 𝓤 𝓛.H (triple_of 𝓛 (ended Y).signature (closing 𝓛 (ended Y) (held Y 𝓛 𝓜 𝓡))) 𝓣'.C 𝓣'.Λ (#self (layouts
    (a_type ∷ []) (Y, tt))) (function Y 𝓛 𝓜 𝓡)
    (code.unfolded 𝓤 𝓛.H 𝓜 𝓡 wired (Y, tt)) (meets Y 𝓛 𝓜 𝓡)
