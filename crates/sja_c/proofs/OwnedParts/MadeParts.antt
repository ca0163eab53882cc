-- The machine values of a `NewHandle`: what is owned tells them, and is made of its parts.
use Rattle.std.proofs.Common.{◌≡◌, List, [], ◌∷◌, ◌++◌, refl, subst, ◌∙◌, lit<}
use mathlib.Core.Bool.{true, ◌&&◌}
use lib.Dec.{T}
use seplogic.Ra.Ura.{Ura}
use mir.Syntax.{ty_ptr}
use mir.Val.{Val, vstruct, of_list, has_ty, WT}
use types.Logic.{Logic}
use types.Kit.{Item, Goal, Seq, Step, step, ‵, ◌$◌, move, drop, fsplit, fjoin, fpick, fpack, rewrite, feq_i, feq_l}
use denote.RattleType.{Valss}
use denote.Laws.{Is, shows}
use denote.RawPtr.{Ptr, RawPtr, block_ptr, null_ptr, ptr_val}
use denote.Param.{layout}
use denote.Steps.{nothing, peeks}
use denote.Struct.Laws as plain
use denote.Struct.Struct.{within}
use denote.Struct.Owning.{shape}
use Rattle.std.proofs.cell.Inside.{Good}
use Rattle.sja_c.proofs.OwnedParts.LooseParts.{both, both_tt}
use Rattle.sja_c.proofs.answer.SjaAnswer.TheLaws as laws
use Rattle.sja_c.specs.Handles.{is_handle}
use Rattle.sja_c.specs.contracts.answer.SjaAnswer as answers
use Rattle.sja_c.specs.contracts.new_handle.NewHandle as made
use Rattle.sja_c.specs.declared.answer.SjaAnswer.{SjaAnswer}
use Rattle.sja_c.specs.declared.new_handle.NewHandle.{NewHandle}

-- the one machine value of an answer
abbrev pub word : SjaAnswer → Val
word = plain.val answers.the_type laws.the_laws

pub ptr_good : (p : Ptr) → Good ty_ptr (ptr_val p)
ptr_good (block_ptr b o) = (tt, tt)
ptr_good null_ptr = (tt, record { fits = lit< tt })

pub made_good : (p : Ptr) (r : SjaAnswer) → Good (layout answers.the_row) (word r)
    → T (has_ty ty_ptr (ptr_val p) && (has_ty (layout answers.the_row) (word r) && true))
    × WT (both (ptr_val p) (word r))
made_good p r fits =
    (both_tt _ (has_ty (layout answers.the_row) (word r)) (ptr_good p).0 fits.0, ((ptr_good p).1, (fits.1, tt)))

module _ {M : Type 1} {𝓤 : Ura M} {𝓛 : Logic 𝓤} {K : Type 0} {Γ : List (Item 𝓤)} {G : Goal 𝓤 𝓛.H} where
  -- a `NewHandle` is what lies at its handle, and an answer
  pub made_in : K → (x : NewHandle)
      → Step K 𝓛 (‵ (made.the_row.own_val x (both (ptr_val x.at) (word x.answer) ∷ [])) ∷ Γ) G
      (‵ (is_handle x.at x.held) ∷ ‵ (answers.the_row.own_val x.answer (word x.answer ∷ [])) ∷ Γ) G
  made_in t x = step (λ s. let v : Val = both (ptr_val x.at) (word x.answer) in
      nothing t $ move t (2 ∷ 0 ∷ []) $ fjoin t $
      feq_i t (List Val) (ptr_val x.at ∷ []) (ptr_val x.at ∷ []) refl $ fjoin t $
      feq_i t (List Val) (v ∷ []) (v ∷ []) refl $ fjoin t $
      fpack t (Valss (RawPtr ∷ answers.the_field.row ∷ []))
      (within (shape made.the_type) (x.at, (answers.the_field.into x.answer, tt)) (v ∷ []))
      (ptr_val x.at ∷ [], (word x.answer ∷ [], tt)) $
      fjoin t $ s)

  pub made_out : K → (x : NewHandle) (vs : List Val)
      → (vs ≡ both (ptr_val x.at) (word x.answer) ∷ [] → Is answers.the_row x.answer (word x.answer ∷ [])
      → Seq K 𝓛 (‵ (is_handle x.at x.held) ∷ ‵ (answers.the_row.own_val x.answer (word x.answer ∷ [])) ∷ Γ) G)
      → Seq K 𝓛 (‵ (made.the_row.own_val x vs) ∷ Γ) G
  made_out t x vs k =
      fsplit t $ fpick t (λ vss. fsplit t $ feq_l t (λ ev. fsplit t $ feq_l t (λ ep. fsplit t $
      peeks t answers.the_row (Is answers.the_row) (shows 𝓛 answers.the_row) x.answer vss.1.0 (λ is.
      let told : vss.1.0 ≡ word x.answer ∷ [] = plain.tells answers.the_type laws.the_laws x.answer vss.1.0 is in
      rewrite t 0 (λ (ws : List Val). ‵ (answers.the_row.own_val x.answer ws)) told refl $
      move t (1 ∷ []) $ drop t $ move t (1 ∷ 0 ∷ []) $
      k (ev ∙ (λ i. vstruct (of_list (ep i ++ (told i ++ []))) ∷ []))
      (subst (λ (ws : List Val). Is answers.the_row x.answer ws) told is)))))
