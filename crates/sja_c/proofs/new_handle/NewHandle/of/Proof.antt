-- `of` meets its contract: a walk of its MIR, by hand. It takes the `Loose` apart, whose value lies in a block.
use Rattle.std.proofs.Common.{◌≡◌, ◌≢◌, List, [], ◌∷◌, ◌++◌, refl, subst}
use mir.Val.{Val, vptr}
use base.Logic.{emp}
use base.Fml.{ftrue}
use contract.Monad.{fact, fact_i}
use contract.Running.{tables}
use prog.Wp.{WpFn}
use types.Kit.{‵, raw, ◌⊛◌, prop, ◌$◌, ◌∵◌, !, qed, by, move, drop, use0, split, fsplit, fjoin, regoal, rewrite}
use types.Part.{agg, sub, whole}
use types.Run.{stop, fld, of_opd, no_more, and_then, returns, enter}
use types.ByLocal.{alloc_all, pass_all, free_all, look_at, get, get_in, sets}
use denote.Laws.{Is, shows}
use denote.RattleType.{owns}
use denote.RawPtr.{InBlock, null_ptr, block_ptr}
use denote.Signature.{plain, types_at}
use denote.Steps.{nothing, peeks}
use denote.Struct.Laws as declared
use denote.Triple.Entry.{alive}
use denote.Triple.Walked.{Stays, stay_dropped, walk_of, Goes-dropped}
use Rattle.std.proofs.alloc.Calls.{Goes-blank}
use Rattle.std.proofs.raw_atomic.Walks.{proved_at, leaves}
use Rattle.std.proofs.alloc.Global.TheLaws as global_laws
use Rattle.std.specs.contracts.alloc.Global as global
use Rattle.std.specs.contracts.impls.GlobalAllocator.TheImpl.{ghosts}
use Rattle.sja_c.proofs.OwnedParts.LooseParts.{both, loose_good, loose_out}
use Rattle.sja_c.proofs.OwnedParts.MadeParts.{word, made_good, made_in}
use Rattle.sja_c.proofs.answer.SjaAnswer.TheLaws as laws
use Rattle.sja_c.specs.contracts.answer.SjaAnswer as answers
use Rattle.sja_c.specs.contracts.loose.Loose as loose
use Rattle.sja_c.specs.declared.new_handle.NewHandle.{NewHandle}
use Rattle.sja_calls.specs.contracts.handle.Handle.{the_row as R}
use Rattle.sja_c.specs.contracts.new_handle.NewHandle.of.{ended, clauses}
use Rattle.sja_c.specs.contracts.new_handle.NewHandle.of.Key.{name as #self}
use Rattle.sja_c.proofs.new_handle.NewHandle.of.Statement.{statement}
use Rattle.sja_c.proofs.new_handle.NewHandle.of.Code as code

pub of_spec : {M : Type 1} → statement M
of_spec 𝓤 𝓛 𝓜 𝓡 wired =
    let 𝓣 = tables 𝓤 𝓛.H 𝓜 𝓡 𝓡.env in let c = clauses 𝓛 𝓜.mem 𝓡.returns in
    let hs : Stays ended.signature.params ended.kept = (
      stay_dropped (plain (λ _. loose.the_row R global.the_row ghosts)) ended.kept.0,
      (stay_dropped (plain (λ _. answers.the_row)) ended.kept.1.0, tt),
    ) in
    proved_at 𝓛 ended hs c 𝓜 𝓡 (
      Goes-blank 𝓛 0 (plain (λ _. loose.the_row R global.the_row ghosts)) ended.kept.0 (λ κs x f. tt),
      (Goes-dropped 𝓛 0 (plain (λ _. answers.the_row)) ended.kept.1.0 (λ κs x f. refl), tt),
    )
    #self code.function (code.unfolded 𝓤 𝓛.H 𝓜 𝓡 wired) (λ z are.
    let a = z.0.3 in let vss = z.0.4 in let d = a.0 in let r = a.1.0 in
    let Post = (walk_of 𝓛 ended hs c).post z in
    let told : vss.1.0 ≡ word r ∷ [] = declared.tells answers.the_type laws.the_laws r vss.1.0 are.1.0 in
    qed 𝓛 ((raw (alive 𝓛 ended.signature z.0.0 z.0.1) ⊛ ‵ (owns (types_at ended.signature.params z.0.0) a vss)) ∷
    ‵ ftrue ∷ []) ∵
    move ! (1 ∷ []) $ drop ! $ split ! $ move ! (1 ∷ []) $ fsplit ! $
    loose_out R global.the_row global_laws.the_row_laws ghosts ! d vss.0 (λ b o h at ws fits.
    -- [what lies there; the allocator's handle; the answer; the tokens]
    move ! (1 ∷ []) $ drop ! $ move ! (1 ∷ []) $ fsplit ! $ move ! (1 ∷ []) $ drop ! $
    peeks ! answers.the_row (Is answers.the_row) (shows 𝓛 answers.the_row) r vss.1.0 (λ is.
    rewrite ! 0 (λ (us : List Val). ‵ (answers.the_row.own_val r us)) told refl $
    let x : NewHandle = record { at = block_ptr b o; answer = r; held = d.value } in
    let Said : Type 0 = (block_ptr b o ≢ null_ptr) × (d.value ≡ d.value) × (r ≡ r) in
    let good = (((laws.the_row_laws.lawful 𝓛).typed r _
    (subst (λ (us : List Val). Is answers.the_row r us) told is)).0) in
    let loose_is = loose_good R global.the_row global_laws.the_row_laws ghosts b o h fits in
    regoal ! (λ (us : List Val). prop (WpFn 𝓤 𝓛.H 𝓣.C 𝓣.Λ code.function us Post)) (λ i. ws i ++ (told i ++ [])) refl $
    enter ! _ _ _ _ _ $ alloc_all ! (λ l. pass_all ! refl (loose_is, (good, tt)) $
    sets ! (of_opd ! (get_in ! (fld ! refl (stop !)) (sub ! 0 refl (whole !)))) refl (tt, tt) $
    sets ! (of_opd ! (get ! refl)) refl (tt, tt) $
    sets ! (agg ! (and_then ! (get ! refl) (and_then ! (get ! refl) (no_more !)))) refl
    (made_good (block_ptr b o) r good) $
    returns ! (look_at ! 0 refl) $ free_all ! refl $ move ! (1 ∷ 0 ∷ []) $
    made_in ! x $
    use0 𝓛 (raw (fact 𝓤 Said)) (fact_i 𝓤 Said (emp 𝓤) ((λ e. subst InBlock e tt), refl, refl)) $
    nothing ! $ nothing ! $ fjoin ! $ nothing ! $ fjoin ! $ move ! (3 ∷ 0 ∷ 2 ∷ 1 ∷ []) $
    by ! (leaves 𝓛 ended hs c z (both (vptr b o) (word r)) x (tt, (tt, tt)) (tt, (tt, tt)))))))
