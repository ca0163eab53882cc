-- A call that lends the session at a handle, whatever function is called: it takes the handle, and gives it back with
-- what the function says of it. The session is lent for the call, and comes back with the right to free it.
use Rattle.sja_c.proofs.Walks.{ℕ, List, [], ◌∷◌, MutBor, Ura, full_share, SProp, ent, sep, via, Lft, ftrue, flft, flent}
use Rattle.sja_c.proofs.Walks.{named, Val, vptr, Model, Logic, Body, Item, ‵, raw, ◌⊛◌, some, later, ◌$◌, ◌∵◌, !, qed}
use Rattle.sja_c.proofs.Walks.{by, done, move, keep, show, use1, use3, split, split3, join, fsplit, fjoin, pick, await}
use Rattle.sja_c.proofs.Walks.{lft_new, lft_end, fact, Running, MachineTables, tables, left, yes, lends_ref, ref_back}
use Rattle.sja_c.proofs.Walks.{Is, shows, mem, lone, block_ptr, MutRef, nothing, heard, peeks, Contract, framed, token}
use Rattle.sja_c.proofs.Walks.{box_owns, bare}
use mir.Syntax.{Callee}
use base.Fml.{Fml, fsep}
use base.Logic.{mono_l}
use types.Kit.{mean, given, updating, now as at_once, check}
use denote.Triple.Statement.{Triple}
use denote.Triple.Table.{enters}
use Rattle.std.proofs.cell.Inside.{Good}
use Rattle.sja_c.proofs.answer.SjaAnswer.TheLaws as laws
use Rattle.sja_c.specs.Handles.{is_handle}
use Rattle.sja_c.specs.contracts.answer.SjaAnswer.{the_row as Out}
use Rattle.sja_c.specs.declared.answer.SjaAnswer.{SjaAnswer}
use Rattle.sja_calls.specs.contracts.handle.Handle.{the_row as R}
use Rattle.sja_calls.specs.declared.handle.Handle.{Handle}

-- the session h, lent at a place under a name
abbrev pub loan : Handle → ℕ → ℕ → ℕ → MutBor Handle
loan h b o γ = record { ref_ptr = (b, o); ghost_name = γ; now = h }

-- Tokens are those of the other lifetimes, which come back. Owned is what the other parameters own, Ends what is bound
-- for them at exit, and Rest what is said of that.
module _ {M : Type 1} (𝓤 : Ura M) (𝓛 : Logic 𝓤) (𝓜 : Model 𝓤 𝓛.H) (𝓡 : Running 𝓤 𝓛.H 𝓜) (callee : Callee)
    (h : Handle)
    (vs : List Val) (Tokens : Item 𝓤) (Owned : Fml) (Ends : Type 0) (Rest : Ends → Fml)
    (Says : Handle → Ends → SjaAnswer → Type 0) (b o : ℕ) where
  open 𝓛 use {H}

  abbrev 𝓣 : MachineTables 𝓤 H 𝓜
  𝓣 = tables 𝓤 H 𝓜 𝓡 𝓡.env

  -- what the function that is called is given, and what it gives
  abbrev Given : Lft → ℕ → Item 𝓤
  Given κ γ = ((‵ (flft κ full_share) ⊛ Tokens)
      ⊛ ‵ (fsep ((MutRef (named 0) κ R).own_val (loan h b o γ) (vptr b o ∷ [])) Owned)) ⊛ ‵ ftrue

  abbrev Gives : Lft → ℕ → Val → Item 𝓤
  Gives κ γ v = later (some (λ (r : SjaAnswer). ((‵ (flft κ full_share) ⊛ Tokens) ⊛ ‵ (Out.own_val r (v ∷ []))) ⊛
      some (λ (ws : Handle × Ends). ‵ (fsep (left ((MutRef (named 0) κ R).exit yes) (loan h b o γ) ws.0)
      (Rest ws.1))
      ⊛ raw (fact 𝓤 (Says ws.0 ws.1 r)))))

  abbrev pub Called : Lft → ℕ → Contract 𝓤
  Called κ γ = record {
    Ghost = Unit {0};
    args = λ u. vptr b o ∷ vs;
    pre = λ u. mean 𝓛 (Given κ γ);
    post = λ u v. mean 𝓛 (Gives κ γ v);
  }

  -- the same with the handle in place of the loan
  abbrev pub Taken : Item 𝓤
  Taken = ‵ (box_owns (token h) R (block_ptr b o) h) ⊛ Tokens ⊛ ‵ Owned

  abbrev Told : Val → SjaAnswer → Handle → Ends → Item 𝓤
  Told v r z e = given (Good (lone Out.mir) v) (given (Says z e r)
      (‵ (is_handle (block_ptr b o) z) ⊛ ‵ (Out.own_val r (v ∷ [])) ⊛ ‵ (Rest e) ⊛ Tokens))

  abbrev pub Back : Val → Item 𝓤
  Back v = later (some (λ (r : SjaAnswer). some (λ (z : Handle). some (Told v r z))))

  abbrev pub Lent : Contract 𝓤
  Lent = record { Ghost = Unit {0}; args = λ u. vptr b o ∷ vs; pre = λ u. mean 𝓛 Taken; post = λ u v. mean 𝓛 (Back v) }

  -- what the lender keeps, with the right to free the block
  abbrev Keeps : Lft → ℕ → Item 𝓤
  Keeps κ γ = ‵ (flent κ (Body (mem R) b o γ)) ⊛ ‵ (token h (bare (lone R.mir)) (block_ptr b o))

  comes_back : (α γ : ℕ) (v : Val)
      → ent 𝓤 (sep 𝓤 (mean 𝓛 (Gives (α ∷ []) γ v)) (mean 𝓛 (Keeps (α ∷ []) γ))) (mean 𝓛 (Back v))
  comes_back α γ v =
      qed 𝓛 (Gives (α ∷ []) γ v ∷ Keeps (α ∷ []) γ ∷ []) ∵ updating ! $
      await ! tt $ pick ! (λ r. split ! $ split ! $ split ! $ lft_end ! tt $ move ! (3 ∷ []) $
      pick ! (λ ws. split ! $ move ! (1 ∷ []) $ heard ! _ (λ said. move ! (4 ∷ []) $ split ! $ move ! (2 ∷ []) $
      fsplit ! $ fsplit ! $
      -- [the last value; its borrow; the rest; what the lender keeps; the right to free; the lifetime is over; the
      -- tokens; the answer]
      move ! (5 ∷ 3 ∷ 0 ∷ []) $ use3 𝓛 (later (‵ ((mem R).own_at ws.0 b o))) (ref_back 𝓛 R (α ∷ []) γ ws.0 b o) $
      await ! tt $ move ! (0 ∷ 3 ∷ []) $ fjoin ! $ move ! (4 ∷ []) $
      -- [the answer; the handle; its borrow; the rest; the tokens]
      peeks ! Out (Is Out) (shows 𝓛 Out) r (v ∷ []) (λ is. at_once ! $
      show ! (λ (x : SjaAnswer). mean 𝓛 (some (λ (z : Handle). some (Told v x z)))) r $
      show ! (λ (z : Handle). mean 𝓛 (some (Told v r z))) ws.0 $ show ! (λ (e : Ends). mean 𝓛 (Told v r ws.0 e))
      ws.1 $
      check ! ((laws.the_row_laws.lawful 𝓛).typed r _ is).0 $ check ! said $ keep ! (1 ∷ 0 ∷ 3 ∷ 4 ∷ []) $ done !))))

  pub lends : ((κ : Lft) (γ : ℕ) → Triple 𝓤 (𝓣.C callee) (Called κ γ)) → Triple 𝓤 (𝓣.C callee) Lent
  lends met u =
      let Q : Val → SProp 𝓤 = λ v. mean 𝓛 (Back v) in
      via 𝓤 (H.⇛ (𝓣.C callee (vptr b o ∷ vs) Q)) (qed 𝓛 (Taken ∷ []) ∵ updating ! $ split3 ! $ fsplit ! $
      -- [the session; the right to free it; the tokens; what the others own]
      lft_new ! tt (λ α. let κ : Lft = α ∷ [] in move ! (1 ∷ []) $
      use1 𝓛 (later (some (λ (γ : ℕ). ‵ ((MutRef (named 0) κ R).own_val (loan h b o γ) (vptr b o ∷ []))
      ⊛ ‵ (flent κ (Body (mem R) b o γ))))) (lends_ref 𝓛 R (named 0) κ h b o) $
      await ! tt $ pick ! (λ γ. split ! $ at_once ! $
      -- [the loan; what the lender keeps; its token; the right to free; the tokens; what the others own]
      move ! (0 ∷ 5 ∷ []) $ fjoin ! $ move ! (2 ∷ 4 ∷ []) $ join ! $ join ! $
      nothing ! $ move ! (1 ∷ 0 ∷ []) $ join ! $ move ! (1 ∷ 2 ∷ []) $ join ! $ move ! (1 ∷ []) $
      by ! (via 𝓤 (sep 𝓤 (𝓣.C callee (vptr b o ∷ vs) (λ v. mean 𝓛 (Gives κ γ v))) (mean 𝓛 (Keeps κ γ)))
      (mono_l 𝓤 (mean 𝓛 (Keeps κ γ)) (met κ γ u))
      (framed 𝓤 H 𝓜 𝓣 callee (vptr b o ∷ vs) (λ v. mean 𝓛 (Gives κ γ v)) Q (mean 𝓛 (Keeps κ γ)) (comes_back α γ)))
      ))) (enters 𝓤 H 𝓜 𝓣 callee (vptr b o ∷ vs) Q)
