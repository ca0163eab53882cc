-- `agree` reads both halves.
use mathlib.Core.Path.{◌≡◌, refl, sym, subst}
use mathlib.Core.List.{List, [], ◌∷◌, ◌++◌}
use seplogic.Ra.Ura.{Ura}
use mir.Syntax.{Fn, a_type}
use mir.Val.{Val, vunit, vptr}
use mir.MapTy.{inst_fn}
use base.Logic.{SProp, ent, via, fst∗, snd∗}
use base.Fml.{Fml, ftrue, flft}
use prog.Wp.{WpFn}
use prog.Model.{Model}
use types.Logic.{Logic, sem}
use contract.Monad.{fact_use}
use contract.Running.{Running, MachineTables, tables, tables_of}
use sound.WpLaws.{WpFn-mono}
use types.Kit.{‵, raw, ◌⊛◌, given, later, ◌$◌, ◌∵◌, !, qed, by, move, keep, drop, split, join, fsplit, fsplit3, fjoin}
use types.Kit.{fjoin3, learn, suffices, frame, use2, await, feq_i}
use types.Run.{unit_lit, of_opd, returns, enter}
use types.ByLocal.{alloc_all, pass_all, free_all, look_at, sets}
use denote.Exit.{yes}
use denote.RattleType.{RattleType, owns}
use denote.Laws.{Are, Ises, owns_show, showss}
use denote.Signature.{types_at, plain}
use denote.Builtin.{RefOf}
use denote.Steps.{nothing, opens, closes}
use denote.Param.{param, layouts}
use denote.Triple.Clauses.{Clauses, closing}
use denote.Triple.Entry.{on_entry, alive}
use denote.Triple.Spec.{Meets, triple_of}
use denote.Triple.Table.{entered}
use denote.Triple.Walked.{Stays, stay_dropped, stay_ref, walk_of, ends_at, Goes-dropped, Goes-ref, walk_Meets}
use contract.CodeStep
use Rattle.sja_threads.proofs.Twin.Walks.{hears, hears_last, tells_all}
use Rattle.sja_threads.specs.Inside.Halves.{kept_owns, known_owns}
use Rattle.sja_threads.specs.contracts.kept_half.KeptHalf as kept
use Rattle.sja_threads.specs.contracts.known_half.KnownHalf as known
use Rattle.sja_threads.proofs.Twin.Steps as steps
use Rattle.sja_threads.specs.contracts.halves.agree.{ended, clauses}
use Rattle.sja_threads.specs.contracts.halves.agree.Key.{name as #self}
use Rattle.sja_threads.proofs.halves.agree.Statement as stated
use Rattle.sja_threads.proofs.halves.agree.Code as code

module _ (Y : RattleType) {M : Type 1} {𝓤 : Ura M} (𝓛 : Logic 𝓤) (𝓜 : Model 𝓤 𝓛.H) (𝓡 : Running 𝓤 𝓛.H 𝓜) where
  open 𝓛 use {H}

  abbrev R : RattleType
  R = param 0 Y

  abbrev function : Fn
  function = inst_fn (layouts (a_type ∷ []) (Y, tt)) code.function

  abbrev A : RattleType
  A = kept.the_row R

  abbrev B : RattleType
  B = known.the_row R

  abbrev stayed : Stays (ended Y).signature.params (ended Y).kept
  stayed = (stay_ref (0 ∷ []) tt (plain (λ _. A)), (stay_ref (1 ∷ []) tt (plain (λ _. B)), tt))

  abbrev 𝓣 : MachineTables 𝓤 H 𝓜
  𝓣 = tables 𝓤 H 𝓜 𝓡 𝓡.env

  abbrev held : Clauses 𝓤 (ended Y)
  held = clauses Y 𝓛 𝓜.mem 𝓡.returns

  module _ (z : (walk_of 𝓛 (ended Y) stayed held).Ghost) where
    abbrev Vss : Type 0
    Vss = List Val × (List Val × Unit {0})

    abbrev At : Vss → (walk_of 𝓛 (ended Y) stayed held).Ghost
    At vss = ((z.0.0, z.0.1, z.0.2, z.0.3, vss), z.1)

    abbrev Goes : Vss → Type 1
    Goes vss = ent 𝓤 ((walk_of 𝓛 (ended Y) stayed held).pre (At vss)) (WpFn 𝓤 H 𝓣.C 𝓣.Λ function ((walk_of 𝓛 (ended
        Y) stayed held).args (At vss)) ((walk_of 𝓛 (ended Y) stayed held).post (At vss)))

    abbrev a : A.Denot
    a = z.0.3.0.now

    abbrev b : B.Denot
    b = z.0.3.1.0.now

    abbrev u : Val
    u = vptr z.0.3.0.ref_ptr.0 z.0.3.0.ref_ptr.1

    abbrev v : Val
    v = vptr z.0.3.1.0.ref_ptr.0 z.0.3.1.0.ref_ptr.1

    abbrev passed : Vss
    passed = (u ∷ [], (v ∷ [], tt))

    abbrev args : Fml
    args = owns (types_at (ended Y).signature.params z.0.0) z.0.3 passed

    abbrev asked : SProp 𝓤
    asked = (held z.0.0 z.0.3).requires z.1

    walks : Goes passed
    walks =
        let r = z.0.3.0 in let s = z.0.3.1.0 in
        qed 𝓛 (((‵ (flft z.0.0.0 z.0.1.0) ⊛ ‵ (flft z.0.0.1.0 z.0.1.1.0) ⊛ ‵ (flft z.0.0.1.1.0 z.0.1.1.1.0) ⊛ ‵
        ftrue) ⊛ ‵ args) ∷ raw asked ∷ []) ∵
        move ! (1 ∷ []) $ hears ! (λ _. hears_last ! (λ same. split ! $ split ! $ move ! (1 ∷ []) $ split ! $ move !
        (3 ∷ []) $ fsplit ! $ fsplit3 ! $ drop ! $ move ! (2 ∷ []) $ fsplit ! $ fsplit3 ! $ drop ! $
        keep ! (3 ∷ 4 ∷ 7 ∷ 0 ∷ 1 ∷ 5 ∷ 6 ∷ []) $ enter ! 𝓣.C 𝓣.Λ function (u ∷ v ∷ []) _ $ alloc_all ! (λ l.
        pass_all ! refl ((tt, tt), ((tt, tt), tt)) $
        opens ! tt A r.ref_ptr.0 r.ref_ptr.1 (λ cs. move ! (5 ∷ 6 ∷ 7 ∷ []) $ opens ! tt B s.ref_ptr.0 s.ref_ptr.1 (λ
        ds. move ! (1 ∷ []) $ fsplit ! $ move ! (7 ∷ []) $ fsplit ! $ move ! (1 ∷ 3 ∷ []) $
        types.Kit.rewrite ! 1 (λ (n : Prim.Native.Nat.ℕ). ‵ (known_owns R.coded n b.list)) {x = a.name} {y = b.name}
        (sym same) refl $
        use2 𝓛 (given (a.list ≡ b.list) (‵ (kept_owns R.coded a.name a.list) ⊛ ‵ (known_owns R.coded a.name b.list)))
        (steps.agrees 𝓛 R.coded a.name a.list b.list) $
        learn ! (λ as_was. split ! $ move ! (2 ∷ 0 ∷ []) $ fjoin ! $ move ! (2 ∷ 1 ∷ []) $
        types.Kit.rewrite ! 1 (λ (n : Prim.Native.Nat.ℕ). ‵ (known_owns R.coded n b.list)) {x = b.name} {y = a.name}
        same refl $ fjoin ! $
        move ! (2 ∷ 0 ∷ 3 ∷ 4 ∷ 5 ∷ []) $ closes ! tt B b ds s.ref_ptr.0 s.ref_ptr.1 $ move ! (4 ∷ 3 ∷ 5 ∷ 6 ∷ 7 ∷
        []) $ closes ! tt A a cs r.ref_ptr.0 r.ref_ptr.1 $
        sets ! (of_opd ! (unit_lit !)) refl (tt, tt) $ returns ! (look_at ! 0 refl) $ free_all ! refl $ suffices ! _
        (ends_at 𝓛 (ended Y) stayed held (At passed) vunit tt (a, (b, tt)) (tt, (tt, tt))) $
        feq_i ! (List Val) (u ∷ []) (u ∷ []) refl $ fjoin3 ! $ move ! (2 ∷ 3 ∷ []) $ feq_i ! (List Val) (v ∷ []) (v ∷
        []) refl $ fjoin3 ! $ nothing ! $ move ! (1 ∷ 0 ∷ []) $ fjoin ! $ move ! (1 ∷ 0 ∷ []) $ fjoin ! $
        feq_i ! (List Val) (vunit ∷ []) (vunit ∷ []) refl $ move ! (1 ∷ 0 ∷ []) $ join ! $ move ! (2 ∷ 3 ∷ []) $ join
        ! $ move ! (2 ∷ 0 ∷ []) $ join ! $ join ! $ frame ! $
        by ! (tells_all 𝓤 ((a.list ≡ b.list) ∷ (a ≡ a) ∷ (b ≡ b) ∷ []) (as_was, (refl, refl)))))))))

  meets : Meets 𝓛 (ended Y).signature (WpFn 𝓤 H 𝓣.C 𝓣.Λ function) (closing 𝓛 (ended Y) held)
  unfolding tables_of contract.CodeStep.c_Tables
  meets =
      walk_Meets 𝓛 (ended Y) stayed (Goes-ref 𝓛 3 0 tt (plain (λ _. A)), (Goes-ref 𝓛 3 1 tt (plain (λ _. B)), tt)) held
      (WpFn 𝓤 H 𝓣.C 𝓣.Λ function) (WpFn-mono 𝓤 H 𝓛.laws (tables_of 𝓤 H 𝓜 𝓣) function)
      (λ z. let a = z.0.3 in let vss = z.0.4 in let Rs : List RattleType = types_at (ended Y).signature.params z.0.0
      in let On : SProp 𝓤 = on_entry 𝓛 (ended Y).signature z.0.0 z.0.1 a vss in
      fact_use 𝓤 (Are Rs (Ises Rs) a vss) (via 𝓤 (sem 𝓛 (owns Rs a vss)) (via 𝓤 On (fst∗ 𝓤 On (asked z)) (snd∗ 𝓤
      (alive 𝓛 (ended Y).signature z.0.0 z.0.1) (sem 𝓛 (owns Rs a vss)))) (owns_show 𝓛 Rs (Ises Rs) (showss 𝓛 Rs)
      a vss)) (λ are.
      subst (Goes z) (λ i. (sym are.0.0 i, (sym are.1.0.0 i, tt))) (walks z)))

pub agree_spec : {M : Type 1} → stated.statement M
agree_spec 𝓤 𝓛 𝓜 𝓡 wired Y laws = let 𝓣' = tables 𝓤 𝓛.H 𝓜 𝓡 𝓡.env in
    entered 𝓤 𝓛.H (triple_of 𝓛 (ended Y).signature (closing 𝓛 (ended Y) (held Y 𝓛 𝓜 𝓡))) 𝓣'.C 𝓣'.Λ (#self (layouts
    (a_type ∷ []) (Y, tt))) (function Y 𝓛 𝓜 𝓡)
    (code.unfolded 𝓤 𝓛.H 𝓜 𝓡 wired (Y, tt)) (meets Y 𝓛 𝓜 𝓡)
