-- `sja_make` meets its contract: a walk of its MIR, by hand. What `make` made is taken apart, and its handle goes to
-- the caller's place, with what lies there.
use Rattle.std.proofs.Common.{◌≡◌, List, [], ◌∷◌, refl, ap}
use mir.Syntax.{named}
use mir.Val.{Val}
use base.Fraction.{full_share}
use base.Logic.{emp, id⊢}
use base.Fml.{ftrue, flft}
use contract.Monad.{fact, fact_i}
use contract.Running.{tables}
use types.Kit.{‵, raw, ◌⊛◌, some, later, ◌$◌, ◌∵◌, !, qed, by, move, keep, drop, use0, use1, use2, split, split3, join}
use types.Kit.{fsplit3, fjoin, fjoin3, feq_i, feq_l, pick, await, rewrite}
use types.Part.{sub, whole}
use types.Run.{stop, fld, of_opd, store, no_more, and_then, assigns, returns, enter}
use types.ByLocal.{alloc_all, pass_all, free_all, look_at, get, get_in, through, sets, lands_as}
use denote.Memory.{cell_at}
use denote.RawPtr.{RawPtr, ptr_val}
use denote.Ref.{MutRef, mut_vals, mut_Tells}
use denote.Signature.{plain}
use denote.Steps.{nothing, only, heard, opens, closes}
use denote.Struct.Laws as declared
use denote.Triple.Call.{calls_at}
use denote.Triple.Clauses.{lasts}
use denote.Triple.Spec.{triple_of}
use denote.Triple.Table.{framed}
use denote.Triple.Walked.{Stays, stay_dropped, stay_ref, Goes-dropped, Goes-ref}
use Rattle.std.proofs.raw_atomic.Walks.{proved, leaves}
use Rattle.std.proofs.alloc.Global.TheLaws as global_laws
use Rattle.std.specs.contracts.alloc.Global as global
use Rattle.sja_c.proofs.OwnedParts.MadeParts.{word, ptr_good, made_good, made_out}
use Rattle.sja_c.proofs.answer.SjaAnswer.TheLaws as laws
use Rattle.sja_c.proofs.new_handle.make.Met as call_met
use Rattle.sja_c.specs.Exports.{AnswersMake}
use Rattle.sja_c.specs.Handles.{is_handle, empty}
use Rattle.sja_c.specs.contracts.new_handle.NewHandle as made
use Rattle.sja_c.specs.contracts.new_handle.make as call
use Rattle.sja_c.specs.declared.new_handle.NewHandle.{NewHandle}
use Rattle.sja_calls.specs.declared.handle.Handle.{Handle}
use Rattle.sja_c.specs.contracts.life.sja_make.{ended, clauses}
use Rattle.sja_c.specs.contracts.life.sja_make.Key.{name as #self}
use Rattle.sja_c.proofs.life.sja_make.Statement.{statement}
use Rattle.sja_c.proofs.life.sja_make.Code as code

pub sja_make_spec : {M : Type 1} → statement M
sja_make_spec 𝓤 𝓛 𝓜 𝓡 wired =
    let 𝓣 = tables 𝓤 𝓛.H 𝓜 𝓡 𝓡.env in let c = clauses 𝓛 𝓜.mem 𝓡.returns in
    let hs : Stays ended.signature.params ended.kept =
    (stay_dropped (plain (λ _. global.the_row)) ended.kept.0, (stay_ref (0 ∷ []) tt (plain (λ _. RawPtr)), tt)) in
    proved 𝓛 ended hs c 𝓜 𝓡 (
      Goes-dropped 𝓛 1 (plain (λ _. global.the_row)) ended.kept.0 (λ κs x f. refl),
      (Goes-ref 𝓛 1 0 tt (plain (λ _. RawPtr)), tt),
    )
    #self code.function (code.unfolded 𝓤 𝓛.H 𝓜 𝓡 wired)
    (λ κs. (declared.vals global.the_type global_laws.the_laws, (mut_vals, tt)))
    (λ κs. (declared.tells global.the_type global_laws.the_laws, (mut_Tells (named 0) κs.0 RawPtr, tt)))
    (λ κs qs bounds a g are.
    let alloc = a.0 in let session = a.1.0 in let b = session.ref_ptr.0 in let o = session.ref_ptr.1 in
    let allocs = declared.vals global.the_type global_laws.the_laws alloc in
    let G = triple_of 𝓛 call.signature (call.spec 𝓛 𝓜.mem 𝓡.returns) in
    let y : G.Ghost = ((tt, tt, tt, (alloc, tt), (allocs, tt)), tt) in
    qed 𝓛 (((‵ (flft κs.0 qs.0) ⊛ ‵ ftrue) ⊛ (‵ (global.the_row.own_val alloc allocs) ⊛
    ‵ ((MutRef (named 0) κs.0 RawPtr).own_val session (mut_vals session)) ⊛ ‵ ftrue)) ∷ ‵ ftrue ∷ []) ∵
    split ! $ split ! $ move ! (2 ∷ []) $ split3 ! $ keep ! (0 ∷ 1 ∷ 3 ∷ []) $
    -- [the allocator; the caller's place; the token]
    enter ! _ _ _ _ _ $ alloc_all ! (λ l. pass_all ! refl
    (((global_laws.the_row_laws.lawful 𝓛).typed alloc _ are.0).0, ((tt, tt), tt)) $
    nothing ! $ move ! (1 ∷ 0 ∷ []) $ join ! $ nothing ! $ join ! $ nothing ! $ move ! (1 ∷ 0 ∷ []) $
    use2 𝓛 (raw (G.pre y)) (id⊢ 𝓤 _) $
    calls_at ! (framed 𝓤 𝓛.H 𝓜 𝓣) G (call_met.met 𝓤 𝓛 𝓜 𝓡 (code.calls-sja_c::new_handle::make 𝓡.env wired)) y
    (and_then ! (get ! refl) (no_more !)) (λ v.
    use1 𝓛 (later (some (λ (x : NewHandle). (‵ ftrue ⊛ ‵ (made.the_row.own_val x (v ∷ []))) ⊛
    some (λ (ws : Unit {0} × Unit {0}). ‵ (lasts call.ended y.0.0 y.0.3 ws) ⊛
    (raw (fact 𝓤 (x.held ≡ empty alloc)) ⊛ raw (fact 𝓤 (AnswersMake x.at x.answer))))))) (id⊢ 𝓤 _) $
    await ! tt $ pick ! (λ x. split ! $ split ! $ drop ! $ move ! (1 ∷ []) $
    pick ! (λ ws. split ! $ drop ! $ split ! $ heard ! _ (λ is_empty. heard ! _ (λ said.
    made_out ! x (v ∷ []) (λ told is.
    -- [what lies at the handle; the answer; the caller's place; the token]
    let good = ((laws.the_row_laws.lawful 𝓛).typed x.answer _ is).0 in
    lands_as ! (ap only told) refl (made_good x.at x.answer good) $
    sets ! (of_opd ! (get_in ! (fld ! refl (stop !)) (sub ! 0 refl (whole !)))) refl (ptr_good x.at) $
    sets ! (of_opd ! (get_in ! (fld ! refl (stop !)) (sub ! 1 refl (whole !)))) refl good $
    move ! (2 ∷ []) $ fsplit3 ! $ move ! (1 ∷ 2 ∷ 5 ∷ []) $ opens ! tt RawPtr b o (λ us.
    move ! (1 ∷ []) $ feq_l ! (λ was.
    rewrite ! 0 (λ (ws : List Val). ‵ (cell_at full_share RawPtr.mir ws b o)) was refl $
    assigns ! (of_opd ! (get ! refl)) (through ! refl (stop !)) (store ! 0 refl (ptr_good x.at)) $
    feq_i ! (List Val) (ptr_val x.at ∷ []) (ptr_val x.at ∷ []) refl $ move ! (1 ∷ 0 ∷ []) $
    closes ! tt RawPtr x.at (ptr_val x.at ∷ []) b o $
    -- [two parts of the caller's place; the token; its first part; what lies at the handle; the answer]
    sets ! (of_opd ! (get ! refl)) refl good $ returns ! (look_at ! 0 refl) $ free_all ! refl $
    move ! (3 ∷ 0 ∷ 1 ∷ []) $ fjoin3 ! $ nothing ! $ move ! (1 ∷ 0 ∷ []) $ fjoin ! $ nothing ! $ fjoin ! $
    move ! (1 ∷ []) $ nothing ! $ move ! (1 ∷ 0 ∷ []) $ join ! $
    -- [the token; the caller's place; what lies at the handle; the answer]
    move ! (2 ∷ []) $ rewrite ! 0 (λ (h : Handle). ‵ (is_handle x.at h)) is_empty refl $
    use0 𝓛 (raw (fact 𝓤 (AnswersMake x.at x.answer))) (fact_i 𝓤 (AnswersMake x.at x.answer) (emp 𝓤) said) $
    move ! (1 ∷ 0 ∷ []) $ join ! $ keep ! (1 ∷ 2 ∷ 3 ∷ 0 ∷ []) $
    by ! (leaves 𝓛 ended hs c ((κs, qs, bounds, a, (allocs, (mut_vals session, tt))), g) (word x.answer) x.answer
    (tt, (x.at, tt)) (tt, (tt, tt)))))))))))))
