-- The two halves of a list agree, and go on together. Assumes `Logic`.
use mathlib.Core.Path.{◌≡◌, refl, sym}
use mathlib.Core.List.{List, [], ◌∷◌}
use Prim.Native.Nat.{ℕ}
use seplogic.Ra.Ura.{Ura}
use base.Logic.{SProp, ent, sep, emp, guard, upd, upd_i, via}
use base.Stored.{Gv, Coded, coded_list}
use base.Fml.{Fml, ftrue, fobs, fauth, finv}
use types.Logic.{Logic, sem}
use types.Kit.{‵, raw, ◌⊛◌, given, later, ◌$◌, ◌∵◌, !, qed, by, move, split, learn, suffices, done, use1, use2}
use types.Kit.{settle, frame, check, assume, await, updating}
use denote.Steps.{nothing}
use Rattle.sja_threads.specs.Inside.Halves.{kept_owns, known_owns}

module _ {M : Type 1} {𝓤 : Ura M} (𝓛 : Logic 𝓤) where
  open 𝓛 use {H, A}

  abbrev ⟦◌⟧ : Fml → SProp 𝓤
  ⟦ P ⟧ = sem 𝓛 P

  abbrev ◌∗◌ : SProp 𝓤 → SProp 𝓤 → SProp 𝓤
  P ∗ Q = sep 𝓤 P Q

  abbrev ◌⊢◌ : SProp 𝓤 → SProp 𝓤 → Type 1
  P ⊢ Q = ent 𝓤 P Q

  infix 26 ◌⊢◌
  infixr 35 ◌∗◌
  basic : (Q : SProp 𝓤) → upd 𝓤 Q ⊢ H.⇛ Q
  basic Q = qed 𝓛 (raw (upd 𝓤 Q) ∷ []) ∵ updating ! $ nothing ! $ use1 𝓛 (later (‵ (finv ftrue))) (𝓛.invs.inv_new
      ftrue) $ await ! tt $
      by ! (qed 𝓛 (‵ (finv ftrue) ∷ raw (upd 𝓤 Q) ∷ []) ∵ suffices ! _ (𝓛.invs.inv_acc ftrue Q) $ frame ! $ assume !
      (‵ ftrue) $ move ! (1 ∷ []) $ settle 𝓛 (emp 𝓤 ∗ Q) (raw Q) $ suffices ! _ (upd_i 𝓤 (emp 𝓤 ∗ Q)) $ move ! (1
      ∷ 0 ∷ []) $ done !)

  module _ {V : Type 0} (c : Coded V) (name : ℕ) where
    abbrev code : List V → Gv
    code = (coded_list c).code

    -- they are the halves of a name
    pub are : A.auth name (code []) ∗ A.obs name (code []) ⊢ ⟦ kept_owns c name [] ⟧ ∗ ⟦ known_owns c name [] ⟧
    unfolding kept_owns known_owns
    are = base.Logic.id⊢ 𝓤 _

    -- both are of one list
    pub agrees : (xs ys : List V) → ⟦ kept_owns c name xs ⟧ ∗ ⟦ known_owns c name ys ⟧ ⊢ guard 𝓤 (xs ≡ ys) (⟦
        kept_owns c name xs ⟧ ∗ ⟦ known_owns c name ys ⟧)
    unfolding kept_owns known_owns
    agrees xs ys = qed 𝓛 (‵ (fauth name (code xs)) ∷ ‵ (fobs name (code ys)) ∷ []) ∵ move ! (1 ∷ 0 ∷ []) $
        use2 𝓛 (given (code ys ≡ code xs) (‵ (fobs name (code ys)) ⊛ ‵ (fauth name (code xs)))) (𝓛.names.name_agree
        name (code ys) (code xs)) $
        learn ! (λ e. split ! $ check ! (sym ((coded_list c).inj ys xs e)) $ move ! (1 ∷ 0 ∷ []) $ done !)

    abbrev Goes : List V → List V → List V → SProp 𝓤
    Goes xs ys zs = guard 𝓤 (xs ≡ ys) (⟦ kept_owns c name zs ⟧ ∗ ⟦ known_owns c name zs ⟧)

    sets : (xs ys zs : List V) → ⟦ kept_owns c name xs ⟧ ∗ ⟦ known_owns c name ys ⟧ ⊢ upd 𝓤 (Goes xs ys zs)
    unfolding kept_owns known_owns
    sets xs ys zs = let G : SProp 𝓤 = Goes xs ys zs in
        qed 𝓛 (‵ (fauth name (code xs)) ∷ ‵ (fobs name (code ys)) ∷ []) ∵ move ! (1 ∷ 0 ∷ []) $
        use2 𝓛 (given (code ys ≡ code xs) (‵ (fobs name (code ys)) ⊛ ‵ (fauth name (code xs)))) (𝓛.names.name_agree
        name (code ys) (code xs)) $
        learn ! (λ e. use1 𝓛 (raw (upd 𝓤 (A.obs name (code zs) ∗ A.auth name (code zs)))) (𝓛.names.name_set_upd name
        (code ys) (code xs) (code zs)) $
        settle 𝓛 G (‵ (fobs name (code zs)) ⊛ ‵ (fauth name (code zs))) $ split ! $
        suffices ! G (upd_i 𝓤 G) $ check ! (sym ((coded_list c).inj ys xs e)) $ move ! (1 ∷ 0 ∷ []) $ done !)

    -- both go to another list
    pub goes : (xs ys zs : List V) → ⟦ kept_owns c name xs ⟧ ∗ ⟦ known_owns c name ys ⟧ ⊢ H.⇛ (guard 𝓤 (xs ≡ ys) (⟦
        kept_owns c name zs ⟧ ∗ ⟦ known_owns c name zs ⟧))
    goes xs ys zs = via 𝓤 (upd 𝓤 (Goes xs ys zs)) (sets xs ys zs) (basic (Goes xs ys zs))
