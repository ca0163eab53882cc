-- A handle is null, or it is a block's first place, which can be compared with null.
use Rattle.sja_c.proofs.Walks.{◌≡◌, ℕ, zero, ◌^◌, ◌<◌, sym, subst, lit<, Ura, full_share, SProp, ent, sep, via, snd∗}
use Rattle.sja_c.proofs.Walks.{ftrue, Ty, bare, Logic, sem, fact_use, lone, Ptr, block_ptr, null_ptr, Testable, lies_at}
use Rattle.sja_c.proofs.Walks.{token, dealloc_token_start, box_owns}
use Rattle.sja_c.specs.Handles.{is_handle}
use Rattle.sja_calls.specs.contracts.handle.Handle.{the_row as R}
use Rattle.sja_calls.specs.declared.handle.Handle.{Handle}

module _ {M : Type 1} {𝓤 : Ura M} (𝓛 : Logic 𝓤) (h : Handle) (Entry Runs : Ptr → SProp 𝓤) where
  pub each_handle : ent 𝓤 (sep 𝓤 (Entry null_ptr) (sem 𝓛 ftrue)) (Runs null_ptr)
      → ((b o : ℕ) → Testable (block_ptr b o)
      → ent 𝓤 (sep 𝓤 (Entry (block_ptr b o)) (sem 𝓛 (box_owns (token h) R (block_ptr b o) h))) (Runs (block_ptr b o)))
      → (p : Ptr) → ent 𝓤 (sep 𝓤 (Entry p) (sem 𝓛 (is_handle p h))) (Runs p)
  each_handle null held (block_ptr b o) =
      let τ : Ty = bare (lone R.mir) in
      let p : Ptr = block_ptr b o in
      let Lies : SProp 𝓤 = sem 𝓛 (lies_at R full_share p h) in
      let May-free : SProp 𝓤 = sem 𝓛 (token h τ p) in
      fact_use 𝓤 (o ≡ zero)
      (via 𝓤 (sem 𝓛 (box_owns (token h) R p h)) (snd∗ 𝓤 (Entry p) (sem 𝓛 (box_owns (token h) R p h)))
      (via 𝓤 May-free (snd∗ 𝓤 Lies May-free) (dealloc_token_start 𝓛 h.alloc τ p)))
      (λ e. held b o (subst (λ (n : ℕ). n < 2 ^ 63) (sym e) (lit< tt)))
  each_handle null held null_ptr = null
