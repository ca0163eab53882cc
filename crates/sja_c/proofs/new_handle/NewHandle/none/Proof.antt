-- `none` meets its contract: a walk of its MIR, by hand. Nothing lies at null.
use Rattle.std.proofs.Common.{◌≡◌, [], ◌∷◌, refl}
use base.Logic.{emp}
use base.Fml.{ftrue, fsep}
use contract.Monad.{fact, fact_i}
use contract.Running.{tables}
use types.Kit.{‵, raw, ◌⊛◌, ◌$◌, ◌∵◌, !, qed, by, move, drop, use0, split, fsplit, fjoin}
use types.Part.{agg}
use types.Run.{lit, no_more, and_then, returns, enter}
use types.ByLocal.{alloc_all, pass_all, free_all, look_at, get, sets}
use denote.RawPtr.{null_ptr, ptr_val}
use denote.Signature.{plain}
use denote.Steps.{nothing}
use denote.Struct.Laws as declared
use denote.Triple.Walked.{Stays, stay_dropped, Goes-dropped}
use Rattle.std.proofs.raw_atomic.Walks.{proved, leaves}
use Rattle.sja_c.proofs.OwnedParts.LooseParts.{both}
use Rattle.sja_c.proofs.OwnedParts.MadeParts.{word, made_good, made_in}
use Rattle.sja_c.proofs.answer.SjaAnswer.TheLaws as laws
use Rattle.sja_c.specs.Handles.{empty}
use Rattle.sja_c.specs.contracts.answer.SjaAnswer as answers
use Rattle.sja_c.specs.declared.new_handle.NewHandle.{NewHandle}
use Rattle.std.proofs.alloc.Global.TheLaws as global_laws
use Rattle.std.specs.contracts.alloc.Global as global
use Rattle.sja_c.specs.contracts.new_handle.NewHandle.none.{ended, clauses}
use Rattle.sja_c.specs.contracts.new_handle.NewHandle.none.Key.{name as #self}
use Rattle.sja_c.proofs.new_handle.NewHandle.none.Statement.{statement}
use Rattle.sja_c.proofs.new_handle.NewHandle.none.Code as code

pub none_spec : {M : Type 1} → statement M
none_spec 𝓤 𝓛 𝓜 𝓡 wired =
    let 𝓣 = tables 𝓤 𝓛.H 𝓜 𝓡 𝓡.env in let c = clauses 𝓛 𝓜.mem 𝓡.returns in
    let hs : Stays ended.signature.params ended.kept =
    (stay_dropped _ ended.kept.0, (stay_dropped _ ended.kept.1.0, tt)) in
    proved 𝓛 ended hs c 𝓜 𝓡 (
      Goes-dropped 𝓛 0 (plain (λ _. global.the_row)) ended.kept.0 (λ κs x f. refl),
      (Goes-dropped 𝓛 0 (plain (λ _. answers.the_row)) ended.kept.1.0 (λ κs x f. refl), tt),
    )
    #self code.function (code.unfolded 𝓤 𝓛.H 𝓜 𝓡 wired)
    (λ κs. (declared.vals global.the_type global_laws.the_laws, (declared.vals answers.the_type laws.the_laws, tt)))
    (λ κs. (declared.tells global.the_type global_laws.the_laws, (declared.tells answers.the_type laws.the_laws, tt)))
    (λ κs qs bounds a g are. let r = a.1.0 in
    let x : NewHandle = record { at = null_ptr; answer = r; held = empty a.0 } in
    let allocs = declared.vals global.the_type global_laws.the_laws a.0 in
    let Said : Type 0 = (null_ptr ≡ null_ptr) × (empty a.0 ≡ empty a.0) × (r ≡ r) in
    let given = fsep (global.the_row.own_val a.0 allocs)
    (fsep (answers.the_row.own_val r (word r ∷ [])) ftrue) in
    qed 𝓛 ((‵ ftrue ⊛ ‵ given) ∷ ‵ ftrue ∷ []) ∵
    move ! (1 ∷ []) $ drop ! $ split ! $ move ! (1 ∷ []) $ fsplit ! $ drop ! $ fsplit ! $
    move ! (1 ∷ []) $ drop ! $
    -- [the answer; the tokens]
    enter ! _ _ _ _ _ $ alloc_all ! (λ l. pass_all ! refl (
      (((global_laws.the_row_laws.lawful 𝓛).typed a.0 _ are.0).0),
      ((((laws.the_row_laws.lawful 𝓛).typed r _ are.1.0).0), tt),
    ) $
    sets ! (agg ! (and_then ! (lit ! tt) (and_then ! (get ! refl) (no_more !)))) refl
    (made_good null_ptr r (((laws.the_row_laws.lawful 𝓛).typed r _ are.1.0).0)) $
    returns ! (look_at ! 0 refl) $ free_all ! refl $ nothing ! $
    made_in ! x $
    use0 𝓛 (raw (fact 𝓤 Said)) (fact_i 𝓤 Said (emp 𝓤) (refl, refl, refl)) $ nothing ! $ nothing ! $ fjoin ! $
    nothing ! $ fjoin ! $ move ! (3 ∷ 0 ∷ 2 ∷ 1 ∷ []) $
    by ! (leaves 𝓛 ended hs c ((κs, qs, bounds, a, (allocs, (word r ∷ [], tt))), g)
    (both (ptr_val null_ptr) (word r)) x (tt, (tt, tt)) (tt, (tt, tt)))))
