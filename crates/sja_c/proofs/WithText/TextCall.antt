-- A function of C with a handle and a text, as a walk of its MIR by hand, whatever function it calls. At null it
-- answers so. Else it calls that function, which is lent the session for that call. The text is passed on for good. It
-- meets its contract, where what it calls meets one that says the same of a session that is lent.
use Rattle.sja_c.proofs.Walks.{◌≡◌, ℕ, ◌^◌, ◌<◌, List, [], ◌∷◌, ◌++◌, length, refl, lit<, MutBor, Ura, full_share}
use Rattle.sja_c.proofs.Walks.{SProp, ent, sep, id⊢, Lft, Share, ftrue, flft, named, Val, vptr, Model, Wired, WpFn}
use Rattle.sja_c.proofs.Walks.{Logic, sem, Item, ⋆, ‵, raw, ◌⊛◌, some, later, at_ret, ◌$◌, ◌∵◌, !, qed, by, done, move}
use Rattle.sja_c.proofs.Walks.{keep, show, use1, use2, split, split3, join, fsplit, fjoin, feq_l, pick, await, enter}
use Rattle.sja_c.proofs.Walks.{of_opd, lit, bin, addr, from, fld, hop, stop, no_more, and_then, first, branches, skips}
use Rattle.sja_c.proofs.Walks.{exec, returns, returns_within, alloc_all, pass_all, free_all, look_at, look_in_at, get}
use Rattle.sja_c.proofs.Walks.{get_in, through, sets, lands_as, env, whole, sub, agg, fact, Running, MachineTables}
use Rattle.sja_c.proofs.Walks.{tables, u8, yes, Is, shows, MutSlice, mut_slice_vals, Ptr, RawPtr, block_ptr, null_ptr}
use Rattle.sja_c.proofs.Walks.{Testable, tests_null, rawptr_vals, plain, nothing, heard, peeks, calls_at, lasts}
use Rattle.sja_c.proofs.Walks.{on_entry, left, triple_of, Contract, framed, Stays, walk_of, stay_dropped, gave_slice}
use Rattle.sja_c.proofs.Walks.{token, box_owns, proved, Goes-dropped, Goes-gave_slice, rawptr_Tells, mut_slice_Tells}
use mir.Syntax.{Callee, Fn}
use base.Fml.{Fml, fsep}
use types.Kit.{use0, group, learn}
use contract.Monad.{fact_i}
use base.Logic.{emp, ex}
use prog.Wp.{Closed}
use denote.Triple.Clauses.{Clauses, closing}
use denote.Triple.Spec.{Meets}
use denote.Triple.Statement.{Triple}
use Rattle.std.proofs.raw_atomic.Walks.{leaves}
use Rattle.sja_c.proofs.answer.SjaAnswer.TheLaws as laws
use Rattle.sja_c.proofs.AtHandle.EachHandle.{each_handle}
use Rattle.sja_c.proofs.AtHandle.LentCall.{loan, Called, Back, Lent, lends}
use Rattle.sja_c.proofs.WithText.TextCode as template
use Rattle.sja_c.proofs.texts.no_text.Met as none_met
use Rattle.sja_c.proofs.texts.no_text.Symbol as none_is
use Rattle.sja_c.specs.Answers.{answer, no_handle_status}
use Rattle.sja_c.specs.Handles.{is_handle, AtHandle}
use Rattle.sja_c.specs.contracts.answer.SjaAnswer.{the_row as Out}
use Rattle.sja_c.specs.contracts.texts.no_text as none
use Rattle.sja_c.specs.contracts.texts.sja_put_plan as f
use Rattle.sja_c.specs.declared.answer.SjaAnswer.{SjaAnswer}
use Rattle.sja_calls.specs.contracts.handle.Handle.{the_row as R}
use Rattle.sja_calls.specs.declared.handle.Handle.{Handle}

abbrev stayed : Stays f.ended.signature.params f.ended.kept
stayed = (stay_dropped _ yes, (gave_slice (0 ∷ []) tt (plain (λ _. u8)), tt))

-- what the function that is called is asked at, the session h lent at (b, o) and the text x passed on
abbrev pub asked : Lft → Share → MutBor (List ℕ) → Handle → ℕ → ℕ → Lft → ℕ → ((Lft × (Lft × Unit {0}))
    × (Share × (Share × Unit {0})) × Unit {0} × (MutBor Handle × (MutBor (List ℕ) × Unit {0}))
    × (List Val × (List Val × Unit {0}))) × Unit {0}
asked κ q x h b o κ₁ γ = (
  ((κ₁, (κ, tt)), (full_share, (q, tt)), tt, (loan h b o γ, (x, tt)), (vptr b o ∷ [], (mut_slice_vals x, tt))),
  tt,
)

-- Says is what the contract says of the session before and after, the text before and after, and the answer
module _ {M : Type 1} (𝓤 : Ura M) (𝓛 : Logic 𝓤) (𝓜 : Model 𝓤 𝓛.H) (𝓡 : Running 𝓤 𝓛.H 𝓜)
    (Says : Handle → Handle → List ℕ → List ℕ → SjaAnswer → Type 0) (none_wired : Wired 𝓡.env none_is.code)
    (callee : Callee) where
  abbrev 𝓣 : MachineTables 𝓤 𝓛.H 𝓜
  𝓣 = tables 𝓤 𝓛.H 𝓜 𝓡 𝓡.env

  abbrev function : Fn
  function = template.function none_is.name callee

  abbrev Tells : Ptr → Handle → List ℕ → List ℕ → SjaAnswer → Handle → Type 0
  Tells p h was zs r z = AtHandle p ((r ≡ answer no_handle_status 0) × (zs ≡ was)) (Says h z was zs r)

  abbrev Told : Ptr → Handle → List ℕ → List ℕ → SjaAnswer → Handle → SProp 𝓤
  Told p h was zs r z = sep 𝓤 (sem 𝓛 (is_handle p z)) (fact 𝓤 (Tells p h was zs r z))

  abbrev clauses : Clauses 𝓤 f.ended
  clauses κs a = record {
    ghost = Handle;
    requires = λ h. sem 𝓛 (is_handle a.0 h);
    ensures = λ h r e. ex 𝓤 (Told a.0 h a.1.0.now e.1.0.now r);
  }

  abbrev W : Contract 𝓤
  W = walk_of 𝓛 f.ended stayed clauses

  module _ (κ : Lft) (q : Share) (x : MutBor (List ℕ)) (count : length x.now < 2 ^ 64) (h : Handle) where
    abbrev at : Ptr → W.Ghost
    at p = (((κ, tt), (q, tt), tt, (p, (x, tt)), (rawptr_vals p, (mut_slice_vals x, tt))), h)

    abbrev Entry : Ptr → SProp 𝓤
    Entry p = on_entry 𝓛 f.signature (κ, tt) (q, tt) (p, (x, tt)) (rawptr_vals p, (mut_slice_vals x, tt))

    abbrev Runs : Ptr → SProp 𝓤
    Runs p = WpFn 𝓤 𝓛.H 𝓣.C 𝓣.Λ function (rawptr_vals p ++ (mut_slice_vals x ++ [])) (W.post (at p))

    -- the token of the text's lifetime, what the text owns, and what is said of it once it is passed on
    abbrev Token : Item 𝓤
    Token = ‵ (flft κ q) ⊛ ‵ ftrue

    abbrev Text : Fml
    Text = fsep ((MutSlice (named 0) κ u8).own_val x (mut_slice_vals x)) ftrue

    abbrev Left : List ℕ × Unit {0} → Fml
    Left zs = fsep (left ((MutSlice (named 0) κ u8).exit yes) x zs.0) ftrue

    -- what the function that is called is given, the session lent at (b, o), and the same with the handle
    abbrev Given : ℕ → ℕ → Lft → ℕ → Contract 𝓤
    Given = Called 𝓤 𝓛 𝓜 𝓡 callee h (mut_slice_vals x ++ []) Token Text (List ℕ × Unit {0}) Left
        (λ z zs. Says h z x.now zs.0)

    abbrev Taken : ℕ → ℕ → Contract 𝓤
    Taken = Lent 𝓤 𝓛 𝓜 𝓡 callee h (mut_slice_vals x ++ []) Token Text (List ℕ × Unit {0}) Left
        (λ z zs. Says h z x.now zs.0)

    abbrev Comes : ℕ → ℕ → Val → Item 𝓤
    Comes = Back 𝓤 𝓛 𝓜 𝓡 callee h (mut_slice_vals x ++ []) Token Text (List ℕ × Unit {0}) Left
        (λ z zs. Says h z x.now zs.0)

    ends : (p : Ptr) (v : Val) (r : SjaAnswer) (z : Handle) (zs : List ℕ) → Tells p h x.now zs r z
        → ent 𝓤 (⋆ 𝓛 (‵ (is_handle p z) ∷ ‵ (Out.own_val r (v ∷ [])) ∷ ‵ (Left (zs, tt)) ∷ Token ∷ []))
        (W.post (at p) v)
    ends p v r z zs said =
        let φ = Tells p h x.now zs r z in
        qed 𝓛 (‵ (is_handle p z) ∷ ‵ (Out.own_val r (v ∷ [])) ∷ ‵ (Left (zs, tt)) ∷ Token ∷ []) ∵
        move ! (2 ∷ []) $ fsplit ! $ fsplit ! $ fsplit ! $ move ! (1 ∷ []) $ feq_l ! (λ same. fjoin ! $ fjoin ! $
        nothing ! $ fjoin ! $
        -- [what is left of the parameters; the handle; the answer; the token]
        use0 𝓛 (raw (fact 𝓤 φ)) (fact_i 𝓤 φ (emp 𝓤) said) $ move ! (2 ∷ 0 ∷ []) $ join ! $
        use1 𝓛 (raw (ex 𝓤 (Told p h x.now zs r)))
        (qed 𝓛 (raw (Told p h x.now zs r z) ∷ []) ∵ show ! (Told p h x.now zs r) z $ done !) $
        move ! (3 ∷ 1 ∷ 2 ∷ 0 ∷ []) $ by ! (leaves 𝓛 f.ended stayed clauses (at p) v r (tt, (zs, tt)) (tt, (same, tt))))

    null : ent 𝓤 (sep 𝓤 (Entry null_ptr) (sem 𝓛 ftrue)) (Runs null_ptr)
    null =
        let G = triple_of 𝓛 none.signature (none.spec 𝓛 𝓜.mem 𝓡.returns) in
        let y : G.Ghost = (((κ, tt), (q, tt), tt, (x, tt), (mut_slice_vals x, tt)), tt) in
        qed 𝓛 ((Token ⊛ ‵ (RawPtr.own_val null_ptr (rawptr_vals null_ptr)) ⊛ ‵ Text) ∷ ‵ ftrue ∷ []) ∵
        split3 ! $ keep ! (0 ∷ 2 ∷ []) $ join ! $
        -- [the token and the text]
        enter ! _ _ _ _ _ $ alloc_all ! (λ l. pass_all ! refl
        ((tt, record { fits = lit< tt }), ((tt, (tt, (record { fits = count }, tt))), tt)) $
        sets ! (bin ! (get ! refl) (lit ! tt) (tests_null null_ptr (lit< tt))) refl (tt, tt) $
        first ! $ branches ! (get ! refl) (λ _.
        sets ! (addr ! (from ! (fld ! refl (hop ! (look_in_at ! 2 (sub ! 0 refl (whole !))) (stop !))))) refl (tt, tt) $
        sets ! (agg ! (and_then ! (get ! refl) (and_then ! (get_in ! (fld ! refl (stop !)) (sub ! 1 refl (whole !)))
        (no_more !)))) refl (tt, (tt, (record { fits = count }, tt))) $
        nothing ! $ move ! (1 ∷ 0 ∷ []) $ use2 𝓛 (raw (G.pre y)) (id⊢ 𝓤 _) $
        calls_at ! (framed 𝓤 𝓛.H 𝓜 𝓣) G (none_met.met 𝓤 𝓛 𝓜 𝓡 none_wired) y
        (and_then ! (get ! refl) (no_more !)) (λ v.
        use1 𝓛 (later (some (λ (r : SjaAnswer). (Token ⊛ ‵ (Out.own_val r (v ∷ []))) ⊛
        some (λ (ws : List ℕ × Unit {0}). ‵ (lasts none.ended y.0.0 y.0.3 ws) ⊛
        (raw (fact 𝓤 (r ≡ answer no_handle_status 0)) ⊛ raw (fact 𝓤 (ws.0 ≡ x.now))))))) (id⊢ 𝓤 _) $
        await ! tt $ pick ! (λ r. split ! $ split ! $ move ! (2 ∷ []) $ pick ! (λ ws.
        split ! $ move ! (1 ∷ []) $ split ! $ heard ! _ (λ one. heard ! _ (λ two.
        -- [what is left of the text; the token; the answer; the locals]
        move ! (2 ∷ []) $ peeks ! Out (Is Out) (shows 𝓛 Out) r (v ∷ []) (λ is.
        lands_as ! refl refl ((laws.the_row_laws.lawful 𝓛).typed r _ is).0 $
        returns_within ! (W.post (at null_ptr)) refl (look_at ! 0 refl) $ free_all ! refl $
        nothing ! $ by ! (ends null_ptr v r h ws.0 (one, two))))))))) (λ t. absurd t))

    module _ (met : (b o : ℕ) (κ₁ : Lft) (γ : ℕ) → Triple 𝓤 (𝓣.C callee) (Given b o κ₁ γ)) where
      held : (b o : ℕ) → Testable (block_ptr b o) → ent 𝓤 (sep 𝓤 (Entry (block_ptr b o))
          (sem 𝓛 (box_owns (token h) R (block_ptr b o) h))) (Runs (block_ptr b o))
      held b o may =
          qed 𝓛 ((Token ⊛ ‵ (RawPtr.own_val (block_ptr b o) (rawptr_vals (block_ptr b o))) ⊛ ‵ Text)
          ∷ ‵ (box_owns (token h) R (block_ptr b o) h) ∷ []) ∵ split3 ! $ keep ! (3 ∷ 0 ∷ 2 ∷ []) $ group ! 3 $
          -- [the handle, the token and the text]
          enter ! _ _ _ _ _ $ alloc_all ! (λ l. pass_all ! refl
          ((tt, tt), ((tt, (tt, (record { fits = count }, tt))), tt)) $
          sets ! (bin ! (get ! refl) (lit ! tt) (tests_null (block_ptr b o) may)) refl (tt, tt) $
          first ! $ branches ! (get ! refl) (λ t. absurd t) (λ _. skips ! $
          exec ! 𝓣.C 𝓣.Λ (env function.locals l) (template.rest callee) (at_ret _ (W.post (at (block_ptr b o)))) $
          sets ! (of_opd ! (get ! refl)) refl (tt, tt) $ sets ! (addr ! (through ! refl (stop !))) refl (tt, tt) $
          sets ! (addr ! (from ! (fld ! refl (hop ! (look_in_at ! 2 (sub ! 0 refl (whole !))) (stop !))))) refl
          (tt, tt) $
          sets ! (agg ! (and_then ! (get ! refl) (and_then ! (get_in ! (fld ! refl (stop !)) (sub ! 1 refl (whole !)))
          (no_more !)))) refl (tt, (tt, (record { fits = count }, tt))) $
          use1 𝓛 (raw ((Taken b o).pre tt)) (id⊢ 𝓤 _) $
          calls_at ! (framed 𝓤 𝓛.H 𝓜 𝓣) (Taken b o) (lends 𝓤 𝓛 𝓜 𝓡 callee h (mut_slice_vals x ++ []) Token Text
          (List ℕ × Unit {0}) Left (λ z zs. Says h z x.now zs.0) b o (met b o)) tt
          (and_then ! (get ! refl) (and_then ! (get ! refl) (no_more !))) (λ v. use1 𝓛 (Comes b o v) (id⊢ 𝓤 _) $
          await ! tt $ pick ! (λ r. pick ! (λ z. pick ! (λ zs. learn ! (λ good. learn ! (λ said.
          lands_as ! refl refl good $ returns ! (look_at ! 0 refl) $ free_all ! refl $
          by ! (ends (block_ptr b o) v r z zs.0 said)))))))))

      at_each : (p : Ptr) → ent 𝓤 (sep 𝓤 (Entry p) (sem 𝓛 (is_handle p h))) (Runs p)
      at_each = each_handle 𝓛 h Entry Runs null held

  pub meets : (k : Callee) → Closed 𝓤 𝓛.H 𝓣.C 𝓣.Λ k function
      → ((κ : Lft) (q : Share) (x : MutBor (List ℕ)) (count : length x.now < 2 ^ 64) (h : Handle) (b o : ℕ)
      (κ₁ : Lft)
      (γ : ℕ) → Triple 𝓤 (𝓣.C callee) (Given κ q x count h b o κ₁ γ))
      → Meets 𝓛 f.signature (𝓣.C k) (closing 𝓛 f.ended clauses)
  meets k closed met =
      proved 𝓛 f.ended stayed clauses 𝓜 𝓡
      (Goes-dropped 𝓛 1 (plain (λ _. RawPtr)) yes (λ κs x w. refl), (Goes-gave_slice 𝓛 1 0 tt (plain (λ _. u8)), tt))
      k function closed (λ κs. (rawptr_vals, (mut_slice_vals, tt)))
      (λ κs. (rawptr_Tells, (mut_slice_Tells (named 0) κs.0 u8, tt))) (λ κs qs bounds a h are.
      at_each κs.0 qs.0 a.1.0 are.1.0.0.1.0 h (met κs.0 qs.0 a.1.0 are.1.0.0.1.0 h) a.0)
