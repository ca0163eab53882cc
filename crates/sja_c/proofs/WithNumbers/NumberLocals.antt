-- The locals that hold the numbers of a function of C, however many there are: they are allocated, filled with the
-- machine values vs, read for a call and freed as one entry of the context.
use Rattle.sja_c.proofs.Walks.{◌≡◌, ℕ, zero, List, [], ◌∷◌, refl, subst, w32, Ura, full_share, ent, via, ftrue, fat}
use Rattle.sja_c.proofs.Walks.{froom, Share, Ty, Val, Logic, Item, ⋆, ‵, ◌⊛◌, ◌$◌, ◌∵◌, !, qed, done, move, drop}
use Rattle.sja_c.proofs.Walks.{split3, group, nothing, no_more, and_then, from, hop, stop, sep, sym, vptr}
use Prim.Native.Nat.{suc}
use lib.Dec.{T}
use mir.Syntax.{Opd as Operand, ty_int, place, copy, deref}
use mir.Val.{WT, has_ty}
use base.Fml.{fdies}
use prog.Wp.{Env, Spot, spot_of}
use types.Kit.{Goal, Go, Sq, mean, nth, del, pull, unpull, push, pop, allocs, passes, frees}
use types.Run.{Opd, Opds, Walks, Finds, alloc1, pass1, pass0, free1, init, forget, look, load}
use Rattle.sja_c.proofs.WithNumbers.NumberCode.{copies, locals}

abbrev pub count : List Val → ℕ
count [] = zero
count (v ∷ vs) = suc (count vs)

abbrev word : Ty
word = ty_int w32

abbrev pub Typed : List Val → Type 0
Typed [] = Unit {0}
Typed (v ∷ vs) = (T (has_ty word v) × WT v) × Typed vs

-- the blocks of the numbers' locals, and the locals before those of E
abbrev pub Blocks : List Val → Type 0
Blocks [] = Unit {0}
Blocks (v ∷ vs) = ℕ × Blocks vs

abbrev pub homes : (vs : List Val) → Blocks vs → List (Ty × ℕ) → List (Ty × ℕ)
homes [] bs E = E
homes (v ∷ vs) bs E = (word, bs.0) ∷ homes vs bs.1 E

module _ {M : Type 1} {𝓤 : Ura M} where
  abbrev rooms : (vs : List Val) → Blocks vs → Item 𝓤
  rooms [] bs = ‵ ftrue
  rooms (v ∷ vs) bs = ‵ (froom word bs.0 zero) ⊛ ‵ (fdies word bs.0) ⊛ rooms vs bs.1

  abbrev pub cells : (vs : List Val) → Blocks vs → Item 𝓤
  cells [] bs = ‵ ftrue
  cells (v ∷ vs) bs = ‵ (fat full_share word bs.0 zero v) ⊛ ‵ (fdies word bs.0) ⊛ cells vs bs.1

module _ {M : Type 1} {𝓤 : Ura M} {𝓛 : Logic 𝓤} where
  open 𝓛 use {H}

  -- the locals of such a function from the first number on: those of the numbers, and the three behind them
  pub allocates : (vs : List Val) (Γ : List (Item 𝓤)) (Kt : Env 𝓤 H → Goal 𝓤 H)
      → ((bs : Blocks vs) → Sq 𝓛 (rooms vs bs ∷ Γ) (allocs (locals zero) (λ E. Kt (homes vs bs E))))
      → Sq 𝓛 Γ (allocs (locals (count vs)) Kt)
  allocates [] Γ Kt k = nothing ! $ k tt
  allocates (v ∷ vs) Γ Kt k =
      alloc1 ! (λ b. allocates vs (‵ (froom word b zero) ∷ ‵ (fdies word b) ∷ Γ) (λ E. Kt ((word, b) ∷ E))
      (λ bs. move ! (1 ∷ 2 ∷ 0 ∷ []) $ group ! 3 $ k (b, bs)))

  pub fills : (vs : List Val) → Typed vs → (bs : Blocks vs) (E : Env 𝓤 H) (g : Goal 𝓤 H) (Γ : List (Item 𝓤))
      → Sq 𝓛 (cells vs bs ∷ Γ) g → Sq 𝓛 (rooms vs bs ∷ Γ) (passes (homes vs bs E) vs g)
  fills [] typed bs E g Γ s = pass0 ! $ s
  fills (v ∷ vs) typed bs E g Γ s =
      split3 ! $ pass1 ! (init ! 0 refl typed.0) $ move ! (2 ∷ []) $
      fills vs typed.1 bs.1 E g (‵ (fat full_share word bs.0 zero v) ∷ ‵ (fdies word bs.0) ∷ Γ)
      (move ! (1 ∷ 2 ∷ 0 ∷ []) $ group ! 3 $ s)

  pub clears : (vs : List Val) (bs : Blocks vs) (E : Env 𝓤 H) (g : Goal 𝓤 H) (Γ : List (Item 𝓤))
      → Sq 𝓛 Γ (frees E g) → Sq 𝓛 (cells vs bs ∷ Γ) (frees (homes vs bs E) g)
  clears [] bs E g Γ s = drop ! $ s
  clears (v ∷ vs) bs E g Γ s = split3 ! $ forget ! 0 refl $ free1 ! $ clears vs bs.1 E g Γ s

module _ {M : Type 1} (𝓤 : Ura M) (𝓛 : Logic 𝓤) where
  open 𝓛 use {H}

  -- the numbers lie in the locals of E from local k on
  abbrev pub Stand : Env 𝓤 H → ℕ → (vs : List Val) → Blocks vs → Type 0
  Stand E k [] bs = Unit {0}
  Stand E k (v ∷ vs) bs = (spot_of 𝓤 H E k ≡ (word, bs.0, zero)) × Stand E (suc k) vs bs.1

  pub behind : (e : Ty × ℕ) (E : Env 𝓤 H) (k : ℕ) (vs : List Val) (bs : Blocks vs)
      → Stand E k vs bs → Stand (e ∷ E) (suc k) vs bs
  behind e E k [] bs stand = tt
  behind e E k (v ∷ vs) bs stand = (stand.0, behind e E (suc k) vs bs.1 stand.1)

  pub stand : (vs : List Val) (bs : Blocks vs) (E : Env 𝓤 H) → Stand (homes vs bs E) zero vs bs
  stand [] bs E = tt
  stand (v ∷ vs) bs E = (refl, behind (word, bs.0) (homes vs bs.1 E) zero vs bs.1 (stand vs bs.1 E))

  -- the three locals behind the numbers
  pub others : (vs : List Val) (bs : Blocks vs) (d e f : Ty × ℕ) → let E = homes vs bs (d ∷ e ∷ f ∷ []) in
      (spot_of 𝓤 H E (count vs) ≡ (d.0, d.1, zero)) × (spot_of 𝓤 H E (suc (count vs)) ≡ (e.0, e.1, zero))
      × (spot_of 𝓤 H E (suc (suc (count vs))) ≡ (f.0, f.1, zero))
  others [] bs d e f = (refl, refl, refl)
  others (v ∷ vs) bs d e f = others vs bs.1 d e f

  -- operands are read alike over a context that says the same
  abbrev elsewhere : {Γ Δ : List (Item 𝓤)} {E : Env 𝓤 H} {xs : List Operand} {vs : List Val}
      → ent 𝓤 (⋆ 𝓛 Γ) (⋆ 𝓛 Δ) → ent 𝓤 (⋆ 𝓛 Δ) (⋆ 𝓛 Γ) → Opds (Go {0}) 𝓛 Δ E xs vs → Opds (Go {0}) 𝓛 Γ E xs vs
  elsewhere {Γ} {Δ} there back os = record { go = λ Kt h. via 𝓤 (⋆ 𝓛 Δ) there (os.go Kt (via 𝓤 (⋆ 𝓛 Γ) back h)) }

  abbrev pub found : {Γ : List (Item 𝓤)} {E : Env 𝓤 H} {i : ℕ} {sp : Spot 𝓤 H}
      → spot_of 𝓤 H E i ≡ sp → Finds (Go {0}) 𝓛 Γ E (place i []) sp
  found {Γ} {E} {i} e = subst (λ (sp : Spot 𝓤 H). Finds (Go {0}) 𝓛 Γ E (place i []) sp) e (from ! (stop !))

  -- what lies in a local whose cell is entry k
  abbrev pub copied : {Γ : List (Item 𝓤)} {E : Env 𝓤 H} {i : ℕ} {q : Share} {τ : Ty} {b : ℕ} {v : Val} (k : ℕ)
      → spot_of 𝓤 H E i ≡ (τ, b, zero) → nth 𝓛 k Γ ≡ ‵ (fat q τ b zero v) → Opd (Go {0}) 𝓛 Γ E (copy (place i [])) v
  copied k e at_k = load ! (found e) (look ! k at_k)

  -- where a pointer in a local leads
  abbrev pub followed : {Γ : List (Item 𝓤)} {E : Env 𝓤 H} {i : ℕ} {q : Share} {τ σ : Ty} {b c o : ℕ} (k : ℕ)
      → spot_of 𝓤 H E i ≡ (τ, b, zero) → nth 𝓛 k Γ ≡ ‵ (fat q τ b zero (vptr c o))
      → Finds (Go {0}) 𝓛 Γ E (place i (deref σ ∷ [])) (σ, c, o)
  followed {Γ} {E} {σ = σ} {c = c} {o = o} k e at_k =
      from ! (subst (λ (sp : Spot 𝓤 H). Walks (Go {0}) 𝓛 Γ E sp (deref σ ∷ []) (σ, c, o)) (sym e)
      (hop ! (look ! k at_k) (stop !)))

  reads : (vs : List Val) (bs : Blocks vs) (E : Env 𝓤 H) (k : ℕ) (Γ : List (Item 𝓤)) → Stand E k vs bs
      → Opds (Go {0}) 𝓛 (cells vs bs ∷ Γ) E (copies (count vs) k) vs
  reads [] bs E k Γ stand = no_more !
  reads (v ∷ vs) bs E k Γ stand =
      let Δ : List (Item 𝓤) = ‵ (fat full_share word bs.0 zero v) ∷ ‵ (fdies word bs.0) ∷ Γ in
      elsewhere {Δ = ‵ (fat full_share word bs.0 zero v) ∷ ‵ (fdies word bs.0) ∷ cells vs bs.1 ∷ Γ}
      (qed 𝓛 (cells (v ∷ vs) bs ∷ Γ) ∵ split3 ! $ done !)
      (qed 𝓛 (‵ (fat full_share word bs.0 zero v) ∷ ‵ (fdies word bs.0) ∷ cells vs bs.1 ∷ Γ) ∵ group ! 3 $ done !)
      (and_then ! (copied 0 stand.0 refl) (elsewhere {Δ = cells vs bs.1 ∷ Δ}
      (qed 𝓛 (‵ (fat full_share word bs.0 zero v) ∷ ‵ (fdies word bs.0) ∷ cells vs bs.1 ∷ Γ) ∵ move ! (2 ∷ []) $ done !)
      (qed 𝓛 (cells vs bs.1 ∷ Δ) ∵ move ! (1 ∷ 2 ∷ 0 ∷ []) $ done !)
      (reads vs bs.1 E (suc k) Δ stand.1)))

  -- the same where they are entry k
  pub reads_at : (vs : List Val) (bs : Blocks vs) (E : Env 𝓤 H) (j : ℕ) {Γ : List (Item 𝓤)} (k : ℕ) → Stand E j vs bs
      → nth 𝓛 k Γ ≡ cells vs bs → Opds (Go {0}) 𝓛 Γ E (copies (count vs) j) vs
  reads_at vs bs E j {Γ} k stand at_k =
      elsewhere {Δ = nth 𝓛 k Γ ∷ del 𝓛 k Γ}
      (via 𝓤 (sep 𝓤 (mean 𝓛 (nth 𝓛 k Γ)) (⋆ 𝓛 (del 𝓛 k Γ))) (pull 𝓛 k Γ) (push 𝓛 (nth 𝓛 k Γ) (del 𝓛 k Γ)))
      (via 𝓤 (sep 𝓤 (mean 𝓛 (nth 𝓛 k Γ)) (⋆ 𝓛 (del 𝓛 k Γ))) (pop 𝓛 (nth 𝓛 k Γ) (del 𝓛 k Γ)) (unpull 𝓛 k Γ))
      (subst (λ (i : Item 𝓤). Opds (Go {0}) 𝓛 (i ∷ del 𝓛 k Γ) E (copies (count vs) j) vs) (sym at_k)
      (reads vs bs E j (del 𝓛 k Γ) stand))
