-- A function of C with a handle and numbers, as a walk of its MIR by hand, however many these are and whatever function
-- it calls. At null it answers so. Else it calls that function, which is lent the session for that call.
use Rattle.sja_c.proofs.Walks.{◌≡◌, ℕ, zero, List, [], ◌∷◌, refl, lit<, Ura, full_share, SProp, ent, sep, id⊢, ftrue}
use Rattle.sja_c.proofs.Walks.{fat, froom, Ty, Val, Model, Wired, WpFn, Logic, sem, Item, ‵, raw, at_ret, ◌$◌, ◌∵◌, ! }
use Rattle.sja_c.proofs.Walks.{qed, by, move, keep, drop, use0, use1, group, split3, pick, await, enter, of_opd, lit}
use Rattle.sja_c.proofs.Walks.{bin, addr, from, stop, no_more, and_then, first, branches, skips, exec, returns}
use Rattle.sja_c.proofs.Walks.{returns_within, Running, MachineTables, tables, lone, Ptr, block_ptr, null_ptr, Testable}
use Rattle.sja_c.proofs.Walks.{tests_null, nothing, calls_at, framed, token, box_owns}
use Prim.Native.Nat.{suc}
use lib.Dec.{T}
use mir.Syntax.{Callee, Fn, ty_ptr, ty_bool, ty_ref, erased, mut}
use mir.Val.{WT, has_ty}
use base.Fml.{Fml, fdies}
use base.Logic.{emp}
use denote.Memory.{pointee}
use denote.RawPtr.{ptr_val}
use denote.Triple.Statement.{Triple}
use prog.Wp.{Env, spot_of}
use types.Kit.{Sq, prop, runs, frees, learn}
use types.Run.{alloc1, alloc0, params1, pass1, free1, free0, init, forget, look, load, assigns, land}
use Rattle.sja_c.proofs.AtHandle.EachHandle.{each_handle}
use Rattle.sja_c.proofs.AtHandle.LentCall.{Taken, Back, Lent}
use Rattle.sja_c.proofs.AtHandle.NoHandle.{none_answer, Nothing, Answered, answers_none}
use Rattle.sja_c.proofs.WithNumbers.NumberCode as template
use Rattle.sja_c.proofs.WithNumbers.NumberLocals.{count, Typed, Blocks, homes, cells, allocates, fills, clears, behind}
use Rattle.sja_c.proofs.WithNumbers.NumberLocals.{stand, others, Stand, found, copied, followed, reads_at}
use Rattle.sja_c.proofs.answer.no_handle.Symbol as none_is
use Rattle.sja_c.specs.Handles.{is_handle, AtHandle}
use Rattle.sja_c.specs.contracts.answer.SjaAnswer.{the_row as Out}
use Rattle.sja_c.specs.declared.answer.SjaAnswer.{SjaAnswer}
use Rattle.sja_calls.specs.contracts.handle.Handle.{the_row as R}
use Rattle.sja_calls.specs.declared.handle.Handle.{Handle}

-- the locals' types: what is answered, and the session's loan
abbrev result : Ty
result = lone Out.mir

abbrev reference : Ty
reference = ty_ref erased mut (pointee R.written)

module _ {M : Type 1} (𝓤 : Ura M) (𝓛 : Logic 𝓤) (𝓜 : Model 𝓤 𝓛.H) (𝓡 : Running 𝓤 𝓛.H 𝓜)
    (none_wired : Wired 𝓡.env none_is.code) (callee : Callee) (vs : List Val) (typed : Typed vs) where
  open 𝓛 use {H}

  abbrev 𝓣 : MachineTables 𝓤 H 𝓜
  𝓣 = tables 𝓤 H 𝓜 𝓡 𝓡.env

  abbrev function : Fn
  function = template.function (count vs) none_is.name callee

  -- ---- the locals: the blocks of those but for the numbers, and of the numbers
  module _ (b₀ b₁ b₂ b₃ b₄ : ℕ) (bs : Blocks vs) where
    abbrev behind_numbers : Env 𝓤 H
    behind_numbers = (ty_bool, b₂) ∷ (ty_ptr, b₃) ∷ (reference, b₄) ∷ []

    abbrev E : Env 𝓤 H
    E = (result, b₀) ∷ (ty_ptr, b₁) ∷ homes vs bs behind_numbers

    -- what there is beside the first five cells
    abbrev Last : List (Item 𝓤)
    Last = cells vs bs ∷ ‵ (fdies reference b₄) ∷ ‵ (fdies ty_ptr b₃) ∷ ‵ (fdies ty_bool b₂) ∷ ‵ (fdies ty_ptr b₁)
        ∷ ‵ (fdies result b₀) ∷ []

    -- they are freed, and x is left
    ends_all : (x : Item 𝓤) (P : SProp 𝓤) → Sq 𝓛 (x ∷ []) (prop P) → Sq 𝓛 (x ∷ ‵ (froom result b₀ zero)
        ∷ ‵ (froom ty_ptr b₁ zero) ∷ ‵ (froom ty_bool b₂ zero) ∷ ‵ (froom ty_ptr b₃ zero)
        ∷ ‵ (froom reference b₄ zero) ∷ Last) (frees E (prop P))
    ends_all x P s =
        move ! (1 ∷ 11 ∷ []) $ free1 ! $ move ! (1 ∷ 9 ∷ []) $ free1 ! $ move ! (4 ∷ []) $
        clears vs bs behind_numbers (prop P) _
        (move ! (1 ∷ 6 ∷ []) $ free1 ! $ move ! (1 ∷ 4 ∷ []) $ free1 ! $ move ! (1 ∷ 2 ∷ []) $ free1 ! $ free0 ! $ s)

    -- where the locals behind the numbers stand, and the numbers
    abbrev known : (spot_of 𝓤 H E (suc (suc (count vs))) ≡ (ty_bool, b₂, zero))
        × (spot_of 𝓤 H E (suc (suc (suc (count vs)))) ≡ (ty_ptr, b₃, zero))
        × (spot_of 𝓤 H E (suc (suc (suc (suc (count vs))))) ≡ (reference, b₄, zero))
    known = others 𝓤 𝓛 vs bs (ty_bool, b₂) (ty_ptr, b₃) (reference, b₄)

    abbrev kept : Stand 𝓤 𝓛 E 2 vs bs
    kept = behind 𝓤 𝓛 (result, b₀) ((ty_ptr, b₁) ∷ homes vs bs behind_numbers) 1 vs bs
        (behind 𝓤 𝓛 (ty_ptr, b₁) (homes vs bs behind_numbers) 0 vs bs (stand 𝓤 𝓛 vs bs behind_numbers))

  -- the function is entered at the machine values v and vs
  begins_all : (x : Item 𝓤) (v : Val) (Kf : Val → SProp 𝓤) → T (has_ty ty_ptr v) × WT v
      → ((b₀ b₁ b₂ b₃ b₄ : ℕ) (bs : Blocks vs) → Sq 𝓛 (x ∷ ‵ (froom result b₀ zero)
      ∷ ‵ (fat full_share ty_ptr b₁ zero v) ∷ ‵ (froom ty_bool b₂ zero) ∷ ‵ (froom ty_ptr b₃ zero)
      ∷ ‵ (froom reference b₄ zero) ∷ Last b₀ b₁ b₂ b₃ b₄ bs)
      (runs 𝓣.C 𝓣.Λ (E b₀ b₁ b₂ b₃ b₄ bs) (function.body) (at_ret (E b₀ b₁ b₂ b₃ b₄ bs) Kf)))
      → Sq 𝓛 (x ∷ []) (prop (WpFn 𝓤 H 𝓣.C 𝓣.Λ function (v ∷ vs) Kf))
  begins_all x v Kf good k =
      enter ! _ _ _ _ _ $ alloc1 ! (λ b₀. alloc1 ! (λ b₁. allocates vs _ _ (λ bs.
      alloc1 ! (λ b₂. alloc1 ! (λ b₃. alloc1 ! (λ b₄. alloc0 ! $ params1 ! $ pass1 ! (init ! 7 refl good) $
      move ! (6 ∷ []) $ fills vs typed bs (behind_numbers b₀ b₁ b₂ b₃ b₄ bs) _ _
      (move ! (11 ∷ 9 ∷ 7 ∷ 5 ∷ 3 ∷ 1 ∷ 0 ∷ []) $ k b₀ b₁ b₂ b₃ b₄ bs)))))))

  -- ---- the walk
  module _ (h : Handle) (Owned : Fml) (Ends : Type 0) (Rest : Ends → Fml) (Says : Handle → SjaAnswer → Type 0)
      (Post : Ptr → Val → SProp 𝓤) (owned : ent 𝓤 (emp 𝓤) (sem 𝓛 Owned))
      (lent : (b o : ℕ) → Triple 𝓤 (𝓣.C callee)
      (Lent 𝓤 𝓛 𝓜 𝓡 callee h vs (‵ ftrue) Owned Ends Rest (λ z e. Says z) b o))
      (ends : (p : Ptr) (v : Val) (r : SjaAnswer) (z : Handle) → AtHandle p (r ≡ none_answer) (Says z r)
      → ent 𝓤 (sep 𝓤 (sem 𝓛 (is_handle p z)) (sem 𝓛 (Out.own_val r (v ∷ [])))) (Post p v))
      (Entry : Ptr → SProp 𝓤) where
    abbrev Runs : Ptr → SProp 𝓤
    Runs p = WpFn 𝓤 H 𝓣.C 𝓣.Λ function (ptr_val p ∷ vs) (Post p)

    null : ent 𝓤 (sep 𝓤 (Entry null_ptr) (sem 𝓛 ftrue)) (Runs null_ptr)
    null =
        qed 𝓛 (raw (Entry null_ptr) ∷ ‵ ftrue ∷ []) ∵ drop ! $
        begins_all (‵ ftrue) (ptr_val null_ptr) (Post null_ptr) (tt, record { fits = lit< tt }) (λ b₀ b₁ b₂ b₃ b₄ bs.
        let is = known b₀ b₁ b₂ b₃ b₄ bs in
        assigns ! (bin ! (load ! (from ! (stop !)) (look ! 2 refl)) (lit ! tt) (tests_null null_ptr (lit< tt)))
        (found 𝓤 𝓛 is.0) (init ! 3 refl (tt, tt)) $
        first ! $ branches ! (copied 𝓤 𝓛 3 is.0 refl) (λ _. use1 𝓛 (raw (emp 𝓤)) (id⊢ 𝓤 _) $
        calls_at ! (framed 𝓤 H 𝓜 𝓣) (Nothing 𝓤 𝓛 𝓜 𝓡 none_wired) (answers_none 𝓤 𝓛 𝓜 𝓡 none_wired) tt (no_more !)
        (λ v. use1 𝓛 (Answered 𝓤 𝓛 𝓜 𝓡 none_wired v) (id⊢ 𝓤 _) $ await ! tt $ learn ! (λ good.
        land ! (from ! (stop !)) (init ! 1 refl good) $ returns_within ! (Post null_ptr) refl (look ! 1 refl) $
        forget ! 1 refl $ forget ! 2 refl $ forget ! 3 refl $ ends_all b₀ b₁ b₂ b₃ b₄ bs _ _
        (nothing ! $ by ! (ends null_ptr v none_answer h refl))))) (λ t. absurd t))

    held : (b o : ℕ) → Testable (block_ptr b o)
        → ent 𝓤 (sep 𝓤 (Entry (block_ptr b o)) (sem 𝓛 (box_owns (token h) R (block_ptr b o) h))) (Runs (block_ptr b o))
    held b o may =
        let p : Ptr = block_ptr b o in
        let taken : Item 𝓤 = Taken 𝓤 𝓛 𝓜 𝓡 callee h vs (‵ ftrue) Owned Ends Rest (λ z e. Says z) b o in
        let L = Lent 𝓤 𝓛 𝓜 𝓡 callee h vs (‵ ftrue) Owned Ends Rest (λ z e. Says z) b o in
        qed 𝓛 (raw (Entry p) ∷ ‵ (box_owns (token h) R p h) ∷ []) ∵ drop ! $
        use0 𝓛 (‵ Owned) owned $ nothing ! $ move ! (2 ∷ 0 ∷ 1 ∷ []) $ group ! 3 $
        begins_all taken (ptr_val p) (Post p) (tt, tt) (λ b₀ b₁ b₂ b₃ b₄ bs. let is = known b₀ b₁ b₂ b₃ b₄ bs in
        assigns ! (bin ! (load ! (from ! (stop !)) (look ! 2 refl)) (lit ! tt) (tests_null p may))
        (found 𝓤 𝓛 is.0) (init ! 3 refl (tt, tt)) $
        first ! $ branches ! (copied 𝓤 𝓛 3 is.0 refl) (λ t. absurd t) (λ _. skips ! $
        exec ! 𝓣.C 𝓣.Λ (E b₀ b₁ b₂ b₃ b₄ bs) (template.rest (count vs) callee) (at_ret _ (Post p)) $
        assigns ! (of_opd ! (load ! (from ! (stop !)) (look ! 2 refl))) (found 𝓤 𝓛 is.1) (init ! 4 refl (tt, tt)) $
        assigns ! (addr ! (followed 𝓤 𝓛 4 is.1 refl)) (found 𝓤 𝓛 is.2) (init ! 5 refl (tt, tt)) $
        use1 𝓛 (raw (L.pre tt)) (id⊢ 𝓤 _) $
        calls_at ! (framed 𝓤 H 𝓜 𝓣) L (lent b o) tt (and_then ! (copied 𝓤 𝓛 5 is.2 refl)
        (reads_at 𝓤 𝓛 vs bs (E b₀ b₁ b₂ b₃ b₄ bs) 2 6 (kept b₀ b₁ b₂ b₃ b₄ bs) refl)) (λ v.
        use1 𝓛 (Back 𝓤 𝓛 𝓜 𝓡 callee h vs (‵ ftrue) Owned Ends Rest (λ z e. Says z) b o v) (id⊢ 𝓤 _) $ await ! tt $
        pick ! (λ r. pick ! (λ z. pick ! (λ e. learn ! (λ good. learn ! (λ said.
        land ! (from ! (stop !)) (init ! 1 refl good) $ returns ! (look ! 1 refl) $
        forget ! 1 refl $ forget ! 2 refl $ forget ! 3 refl $ forget ! 4 refl $ forget ! 5 refl $
        ends_all b₀ b₁ b₂ b₃ b₄ bs _ _ (split3 ! $ keep ! (0 ∷ 1 ∷ []) $ by ! (ends p v r z said))))))))))

    pub at_each : (p : Ptr) → ent 𝓤 (sep 𝓤 (Entry p) (sem 𝓛 (is_handle p h))) (Runs p)
    at_each = each_handle 𝓛 h Entry Runs null held
