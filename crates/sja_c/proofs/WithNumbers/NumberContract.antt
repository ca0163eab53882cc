-- A function of C with a handle and numbers meets its contract, where what it calls meets one that says the same of a
-- session that is lent.
use Rattle.sja_c.proofs.Walks.{◌≡◌, ℕ, zero, List, [], ◌∷◌, refl, ap, w32, MutBor, Ura, full_share, SProp, ent, sep}
use Rattle.sja_c.proofs.Walks.{id⊢, Lft, Share, Val, vptr, Model, Wired, WpFn, Logic, sem, ‵, raw, ftrue, ◌$◌, ◌∵◌, ! }
use Rattle.sja_c.proofs.Walks.{qed, by, done, move, show, use0, use1, join, fjoin, fact, Running, MachineTables, tables}
use Rattle.sja_c.proofs.Walks.{u32, yes, uint_Makes, uint_vals, uint_Tells, Ptr, RawPtr, rawptr_vals, rawptr_Tells}
use Rattle.sja_c.proofs.Walks.{plain, nothing, on_entry, Contract, Stays, walk_of, stay_dropped, Goes-dropped, proved}
use Rattle.sja_c.proofs.Walks.{subst}
use Prim.Native.Nat.{suc}
use mir.Syntax.{Callee}
use prog.Wp.{Closed}
use contract.Monad.{fact_i}
use base.Logic.{emp, ex}
use denote.RattleType.{Denots, Valss, flat, owns}
use denote.Laws.{Spells, Tellss, Ises, Are, Makess, valss, owns_make}
use denote.Signature.{Slot, types_at}
use denote.RawPtr.{ptr_val}
use denote.Triple.Clauses.{Ended, Clauses, closing}
use denote.Triple.End.{Fins, all, lasts_of}
use denote.Triple.Spec.{Meets}
use denote.Triple.Statement.{Triple}
use denote.Triple.Walked.{AllGo, fits_of, has_of}
use Rattle.std.proofs.raw_atomic.Walks.{leaves}
use Rattle.sja_c.proofs.AtHandle.LentCall.{loan, Called, lends}
use Rattle.sja_c.proofs.WithNumbers.NumberCall.{at_each}
use Rattle.sja_c.proofs.WithNumbers.NumberCode as template
use Rattle.sja_c.proofs.WithNumbers.NumberLocals.{count, Typed}
use Rattle.sja_c.proofs.answer.no_handle.Symbol as none_is
use Rattle.sja_c.specs.Answers.{answer, no_handle_status}
use Rattle.sja_c.specs.Handles.{is_handle, AtHandle}
use Rattle.sja_c.specs.contracts.answer.SjaAnswer.{the_row as Out}
use Rattle.sja_c.specs.declared.answer.SjaAnswer.{SjaAnswer}
use Rattle.sja_calls.specs.declared.handle.Handle.{Handle}

-- the parameters
abbrev pub numbers : ℕ → List (Slot 0)
numbers zero = []
numbers (suc n) = plain (λ κs. u32) ∷ numbers n

abbrev pub taken : ℕ → Ended
taken n = record {
  signature = record {
    lifetimes = 0;
    outlives = [];
    params = plain (λ κs. RawPtr) ∷ numbers n;
    result = plain (λ κs. Out);
  };
  kept = (yes, all yes (numbers n));
}

-- their values, how these lie in the machine, and what is bound for them at exit, which is nothing
abbrev pub Values : ℕ → Type 0
Values n = Denots (types_at (numbers n) tt)

abbrev spells : (n : ℕ) → Spells (types_at (numbers n) tt)
spells zero = tt
spells (suc n) = (uint_vals w32, spells n)

tells : (n : ℕ) → Tellss (types_at (numbers n) tt) (Ises (types_at (numbers n) tt)) (spells n)
tells zero = tt
tells (suc n) = (uint_Tells w32, tells n)

abbrev pub words : (n : ℕ) → Values n → Valss (types_at (numbers n) tt)
words n = valss (types_at (numbers n) tt) (spells n)

abbrev pub row : (n : ℕ) → Values n → List Val
row n a = flat (types_at (numbers n) tt) (words n a)

abbrev Known : (n : ℕ) → Values n → Type 0
Known n a = Are (types_at (numbers n) tt) (Ises (types_at (numbers n) tt)) a (words n a)

counted : (n : ℕ) (a : Values n) → count (row n a) ≡ n
counted zero a = refl
counted (suc n) a = ap suc (counted n a.1)

typed : (n : ℕ) (a : Values n) → Known n a → Typed (row n a)
typed zero a known = tt
typed (suc n) a known = ((tt, record { fits = known.0.1 }), typed n a.1 known.1)

abbrev drops : (n : ℕ) → Stays (numbers n) (all yes (numbers n))
drops zero = tt
drops (suc n) = (stay_dropped (plain (λ κs. u32)) yes, drops n)

abbrev stayed : (n : ℕ) → Stays (taken n).signature.params (taken n).kept
stayed n = (stay_dropped (plain (λ κs. RawPtr)) yes, drops n)

abbrev Ends : (n : ℕ) → Values n → Type 0
Ends n a = Fins tt (numbers n) (all yes (numbers n)) a

abbrev ends : (n : ℕ) (a : Values n) → Ends n a
ends zero a = tt
ends (suc n) a = (tt, ends n a.1)

fits : (n : ℕ) (a : Values n) → fits_of tt (numbers n) (all yes (numbers n)) (drops n) a (ends n a)
fits zero a = tt
fits (suc n) a = (tt, fits n a.1)

-- what the function that is called is asked at, the session h lent at (b, o)
abbrev pub asked : (n : ℕ) → Values n → Handle → ℕ → ℕ → Lft → ℕ →
    ((Lft × Unit {0}) × (Share × Unit {0}) × Unit {0}
    × (MutBor Handle × Values n) × (List Val × Valss (types_at (numbers n) tt))) × Unit {0}
asked n a h b o κ γ = (((κ, tt), (full_share, tt), tt, (loan h b o γ, a), (vptr b o ∷ [], words n a)), tt)

module _ {M : Type 1} {𝓤 : Ura M} (𝓛 : Logic 𝓤) where
  goes : (n : ℕ) → AllGo 𝓛 0 (numbers n) (all yes (numbers n)) (drops n)
  goes zero = tt
  goes (suc n) = (Goes-dropped 𝓛 0 (plain (λ κs. u32)) yes (λ κs x w. refl), goes n)

  makes : (n : ℕ) → Makess 𝓛 (types_at (numbers n) tt) (Ises (types_at (numbers n) tt))
  makes zero = tt
  makes (suc n) = (uint_Makes 𝓛 w32, makes n)

  nothing_left : (n : ℕ) (a : Values n)
      → ent 𝓤 (emp 𝓤) (sem 𝓛 (has_of tt (numbers n) (all yes (numbers n)) (drops n) a (ends n a) (words n a)))
  nothing_left zero a = id⊢ 𝓤 (emp 𝓤)
  nothing_left (suc n) a = qed 𝓛 [] ∵
      use0 𝓛 (‵ (has_of tt (numbers n) (all yes (numbers n)) (drops n) a.1 (ends n a.1) (words n a.1)))
      (nothing_left n a.1) $ nothing ! $ fjoin ! $ done !

-- Says is what the contract says of the numbers, the session before and after, and the answer
module _ {M : Type 1} (𝓤 : Ura M) (𝓛 : Logic 𝓤) (𝓜 : Model 𝓤 𝓛.H) (𝓡 : Running 𝓤 𝓛.H 𝓜) (n : ℕ)
    (Says : Values n → Handle → Handle → SjaAnswer → Type 0) (none_wired : Wired 𝓡.env none_is.code)
    (callee : Callee) where
  open 𝓛 use {H}

  abbrev 𝓣 : MachineTables 𝓤 H 𝓜
  𝓣 = tables 𝓤 H 𝓜 𝓡 𝓡.env

  abbrev Told : Ptr → Values n → Handle → SjaAnswer → Handle → SProp 𝓤
  Told p a h r z = sep 𝓤 (sem 𝓛 (is_handle p z))
      (fact 𝓤 (AtHandle p (r ≡ answer no_handle_status 0) (Says a h z r)))

  abbrev clauses : Clauses 𝓤 (taken n)
  clauses κs a = record {
    ghost = Handle;
    requires = λ h. sem 𝓛 (is_handle a.0 h);
    ensures = λ h r e. ex 𝓤 (Told a.0 a.1 h r);
  }

  abbrev Asked : Values n → Handle → ℕ → ℕ → Lft → ℕ → Contract 𝓤
  Asked a h = Called 𝓤 𝓛 𝓜 𝓡 callee h (row n a) (‵ ftrue) (owns (types_at (numbers n) tt) a (words n a)) (Ends n a)
      (lasts_of tt (numbers n) (all yes (numbers n)) a) (λ z e. Says a h z)

  abbrev W : Contract 𝓤
  W = walk_of 𝓛 (taken n) (stayed n) clauses

  abbrev at : Ptr → Values n → Handle → W.Ghost
  at p a h = ((tt, tt, tt, (p, a), (rawptr_vals p, words n a)), h)

  leaves_told : (a : Values n) (h : Handle) (p : Ptr) (v : Val) (r : SjaAnswer) (z : Handle)
      → AtHandle p (r ≡ answer no_handle_status 0) (Says a h z r)
      → ent 𝓤 (sep 𝓤 (sem 𝓛 (is_handle p z)) (sem 𝓛 (Out.own_val r (v ∷ [])))) (W.post (at p a h) v)
  leaves_told a h p v r z said =
      let φ = AtHandle p (r ≡ answer no_handle_status 0) (Says a h z r) in
      qed 𝓛 (‵ (is_handle p z) ∷ ‵ (Out.own_val r (v ∷ [])) ∷ []) ∵
      use0 𝓛 (raw (fact 𝓤 φ)) (fact_i 𝓤 φ (emp 𝓤) said) $ move ! (1 ∷ 0 ∷ []) $ join ! $
      use1 𝓛 (raw (ex 𝓤 (Told p a h r))) (qed 𝓛 (raw (Told p a h r z) ∷ []) ∵ show ! (Told p a h r) z $ done !) $
      use0 𝓛 (‵ (has_of tt (numbers n) (all yes (numbers n)) (drops n) a (ends n a) (words n a))) (nothing_left 𝓛 n a) $
      nothing ! $ fjoin ! $ nothing ! $ move ! (0 ∷ 1 ∷ 3 ∷ 2 ∷ []) $
      by ! (leaves 𝓛 (taken n) (stayed n) clauses (at p a h) v r (tt, ends n a) (tt, fits n a))

  pub meets : (k : Callee) → Closed 𝓤 H 𝓣.C 𝓣.Λ k (template.function n none_is.name callee)
      → ((a : Values n) (h : Handle) (b o : ℕ) (κ : Lft) (γ : ℕ) → Triple 𝓤 (𝓣.C callee) (Asked a h b o κ γ))
      → Meets 𝓛 (taken n).signature (𝓣.C k) (closing 𝓛 (taken n) clauses)
  meets k closed met =
      proved 𝓛 (taken n) (stayed n) clauses 𝓜 𝓡
      (Goes-dropped 𝓛 0 (plain (λ κs. RawPtr)) yes (λ κs x w. refl), goes 𝓛 n)
      k (template.function n none_is.name callee) closed
      (λ κs. (rawptr_vals, spells n)) (λ κs. (rawptr_Tells, tells n)) (λ κs qs bounds a h known.
      let Owned = owns (types_at (numbers n) tt) a.1 (words n a.1) in
      let Rest = lasts_of tt (numbers n) (all yes (numbers n)) a.1 in
      let Entry : Ptr → SProp 𝓤 = λ p. on_entry 𝓛 (taken n).signature tt tt (p, a.1) (rawptr_vals p, words n a.1) in
      subst (λ (m : ℕ). ent 𝓤 (sep 𝓤 (Entry a.0) (sem 𝓛 (is_handle a.0 h)))
      (WpFn 𝓤 H 𝓣.C 𝓣.Λ (template.function m none_is.name callee) (ptr_val a.0 ∷ row n a.1) (W.post (at a.0 a.1 h))))
      (counted n a.1)
      (at_each 𝓤 𝓛 𝓜 𝓡 none_wired callee (row n a.1) (typed n a.1 known.1) h Owned (Ends n a.1) Rest (Says a.1 h)
      (λ p. W.post (at p a.1 h))
      (owns_make 𝓛 (types_at (numbers n) tt) (Ises (types_at (numbers n) tt)) (makes 𝓛 n) a.1 (words n a.1) known.1)
      (λ b o. lends 𝓤 𝓛 𝓜 𝓡 callee h (row n a.1) (‵ ftrue) Owned (Ends n a.1) Rest (λ z e. Says a.1 h z) b o
      (met a.1 h b o)) (leaves_told a.1 h) Entry a.0))
