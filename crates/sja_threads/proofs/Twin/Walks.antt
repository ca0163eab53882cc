-- What the walks share: the one machine value of a half, and facts in a row. Assumes `Logic`.
use mathlib.Core.Path.{refl}
use mathlib.Core.List.{List, [], ◌∷◌}
use seplogic.Ra.Ura.{Ura}
use mir.Syntax.{Sym}
use mir.Val.{Val, vstruct, vcons, vnil, of_list}
use base.Logic.{SProp, ent, sep, emp, id⊢, via, emp∗, mono∗}
use base.Fml.{ftrue}
use types.Logic.{Logic, sem}
use contract.Monad.{fact, fact_i}
use types.Kit.{Item, Goal, Seq, Step, step, prop, ‵, raw, ◌⊛◌, given, ◌$◌, by, drop, split, learn, frame, use0, use1}
use borrow.Fn.Claims.{AllOf}
use denote.RattleType.{RattleType}
use denote.Laws.{Is}
use denote.Shadow.{makes_shadow}
use denote.Struct.Struct.{Struct}
use Rattle.std.specs.contracts.marker.PhantomData as marker

abbrev pub token : Val
token = vstruct (vcons (vstruct vnil) vnil)

module _ (ν : Sym) (types : List RattleType) (T : RattleType) where
  abbrev pub Mark : RattleType
  Mark = Struct (record { name = ν; args = []; types = types; fields = (marker.the_field T).row ∷ [] })

  pub made : {M : Type 1} {𝓤 : Ura M} (𝓛 : Logic 𝓤) → ent 𝓤 (emp 𝓤) (sem 𝓛 (Mark.own_val (tt, tt) (token ∷ [])))
  made 𝓛 = makes_shadow 𝓛 (Mark.own_val (tt, tt) (token ∷ [])) (λ vss. (tt, ((λ uss. (tt, tt)), tt))) (
    (
      vstruct vnil
          ∷ [],
      tt,
    ),
    (refl, ((tt, (refl, tt)), tt)),
  )

module _ {M : Type 1} {𝓤 : Ura M} {𝓛 : Logic 𝓤} {K : Type 0} {Γ : List (Item 𝓤)} where
  pub hears : K → {G : Goal 𝓤 𝓛.H} {φ : Type 0} {P : SProp 𝓤} → (φ → Seq K 𝓛 (raw P ∷ Γ) G) → Seq K 𝓛 (raw (sep 𝓤
      (fact 𝓤 φ) P) ∷ Γ) G
  hears t {G} {φ} {P} k = use1 𝓛 (given φ (‵ ftrue) ⊛ raw P) (id⊢ 𝓤 _) $ split t $ learn t (λ x. drop t $ k x)

  pub hears_last : K → {G : Goal 𝓤 𝓛.H} {φ : Type 0} → (φ → Seq K 𝓛 Γ G) → Seq K 𝓛 (raw (fact 𝓤 φ) ∷ Γ) G
  hears_last t {G} {φ} k = use1 𝓛 (given φ (‵ ftrue)) (id⊢ 𝓤 _) $ learn t (λ x. drop t $ k x)

  pub tells : K → {φ : Type 0} {P : SProp 𝓤} → φ → Step K 𝓛 Γ (prop P) Γ (prop (sep 𝓤 (fact 𝓤 φ) P))
  tells t {φ} {P} x = step (λ s. use0 𝓛 (raw (fact 𝓤 φ)) (fact_i 𝓤 φ (emp 𝓤) x) $ frame t $ s)

  pub tells_last : K → {φ : Type 0} → φ → Seq K 𝓛 Γ (prop (fact 𝓤 φ))
  tells_last t {φ} x = by t (fact_i 𝓤 φ _ x)

-- many facts at once, written out, which antt checks far sooner than a long row of `tells`
module _ {M : Type 1} (𝓤 : Ura M) where
  abbrev pub facts : List (Type 0) → SProp 𝓤
  facts [] = emp 𝓤
  facts (φ ∷ []) = fact 𝓤 φ
  facts (φ ∷ ψ ∷ φs) = sep 𝓤 (fact 𝓤 φ) (facts (ψ ∷ φs))

  pub tells_all : (φs : List (Type 0)) → AllOf φs → ent 𝓤 (emp 𝓤) (facts φs)
  tells_all [] all = id⊢ 𝓤 (emp 𝓤)
  tells_all (φ ∷ []) all = fact_i 𝓤 φ (emp 𝓤) all
  tells_all (φ ∷ ψ ∷ φs) all = via 𝓤 (sep 𝓤 (emp 𝓤) (emp 𝓤)) (emp∗ 𝓤 (emp 𝓤)) (mono∗ 𝓤 (fact_i 𝓤 φ (emp 𝓤) all.0)
      (tells_all (ψ ∷ φs) all.1))
