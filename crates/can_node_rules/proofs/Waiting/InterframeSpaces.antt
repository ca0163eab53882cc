-- Interframe space: what a level makes of it, and what the stage's count says of the bits.
use Rattle.std.proofs.Common.{◌≡◌, ◌+◌, ◌-◌, ◌<◌, ◌≤◌, ℕ, zero, suc, IsTrue, List, [], ◌∷◌, ◌++◌}
use Rattle.std.proofs.Common.{replicate, length, refl, ap, sym, subst, ◌∙◌, arith, inl, inr}
use Rattle.std.proofs.lemmas.Bool.{cases_Bool}
use Rattle.std.proofs.lemmas.List.{replicate_more, replicate-append-replicate, length-replicate}
use Rattle.can_levels.specs.declared.level.Level.{Level}
use Rattle.can_levels.specs.declared.level.Level.TheVariants.{Dominant, Recessive}
use Rattle.can_node_rules.specs.Bits.{Bit, recessive_bit, recessive_bits}
use Rattle.can_node_rules.specs.Context.{ContextValue, owes_suspension, interframe_count}
use Rattle.can_node_rules.specs.Pieces.Place.{AtIdle, AfterSof, AtFlag, AtInterframeSpace}
use Rattle.can_node_rules.specs.Pieces.Piece.{InterframeSpace, InterframeSpaceWithSof, InterframeSpaceBroken}
use Rattle.can_node_rules.specs.Table.{Row}
use Rattle.can_node_rules.specs.Table.Row.{interframe_space, interframe_space_sof, suspend_transmission_sof}
use Rattle.can_node_rules.specs.Table.Row.{intermission_overload, intermission_overload_second}
use Rattle.can_node_rules.specs.Cut.{IsUnfinished}
use Rattle.can_node_rules.specs.UnfinishedPieces.{IsInInterframeSpace}
use Rattle.can_node_rules.proofs.Bits.DrivenAlike.{receives_on, receives_length}
use Rattle.can_node_rules.proofs.OneCut.InterframeSpaces.{interframe_long, interframe_owed, interframe_short}

-- no bit came yet
pub interframes_from : (c : ContextValue) → IsInInterframeSpace 0 c []
interframes_from c = let long = interframe_long c in record { few = omega arith; whole = refl }

-- so many bits came
pub interframe_length : (n : ℕ) (c : ContextValue) (bits : List Bit) → IsInInterframeSpace n c bits → length bits ≡ n
interframe_length n c bits h = receives_length bits (replicate n Recessive) h.whole ∙ length-replicate n Recessive

-- where it has more, suspend transmission is owed
owed_from : (c : ContextValue) → 3 < interframe_count c → IsTrue (owes_suspension c)
owed_from c more =
    elim (cases_Bool (owes_suspension c)) [
      | inl t ↦ t
      | inr t ↦ let short = interframe_short c t in absurd (omega arith)
    ]

-- the last recessive level
pub interframe_ends : (c : ContextValue) (n : ℕ) (seen : Level) (bits : List Bit) → seen ≡ Recessive →
    interframe_count c ≤ n + 1 →
    IsInInterframeSpace n c bits → Row c AtInterframeSpace (bits ++ recessive_bit seen ∷ []) InterframeSpace AtIdle
interframe_ends c n seen bits level most h =
    let P : List Bit → Type 0 = λ t. Row c AtInterframeSpace t InterframeSpace AtIdle in
    let few = h.few in
    let all : n + 1 ≡ interframe_count c = omega arith in
    let levels : replicate n Recessive ++ seen ∷ [] ≡ replicate (interframe_count c) Recessive =
    rw level (replicate_more n Recessive ∙ ap (λ k. replicate k Recessive) all) in
    let whole = receives_on bits (replicate n Recessive) (seen ∷ []) (replicate (interframe_count c) Recessive) h.whole
    levels in
    subst P (sym whole) interframe_space

-- the levels with a dominant one after them
broken_off : (c : ContextValue) (n : ℕ) (seen : Level) (bits : List Bit) → seen ≡ Dominant →
    IsInInterframeSpace n c bits →
    bits ++ recessive_bit seen ∷ [] ≡ recessive_bits (replicate n Recessive ++ Dominant ∷ [])
broken_off c n seen bits level h =
    receives_on bits (replicate n Recessive) (seen ∷ []) (replicate n Recessive ++ Dominant ∷ []) h.whole
    (rw level refl)

-- a dominant level after none or one
broken_row : (c : ContextValue) (n : ℕ) → n < 2 →
    Row c AtInterframeSpace (recessive_bits (replicate n Recessive ++ Dominant ∷ [])) InterframeSpaceBroken AtFlag
broken_row c zero less = intermission_overload
broken_row c (suc zero) less = intermission_overload_second
broken_row c (suc (suc n)) less = absurd (omega arith)

-- a dominant level after two or more
start_row : (c : ContextValue) (n : ℕ) → 2 ≤ n → n < interframe_count c →
    Row c AtInterframeSpace (recessive_bits (replicate n Recessive ++ Dominant ∷ [])) InterframeSpaceWithSof AfterSof
start_row c zero most few = absurd (omega arith)
start_row c (suc zero) most few = absurd (omega arith)
start_row c (suc (suc zero)) most few = interframe_space_sof
start_row c (suc (suc (suc i))) most few =
    let owed = owed_from c (omega arith) in
    let long = interframe_owed c owed in
    let P : ℕ → Type 0 = λ k. Row c AtInterframeSpace (recessive_bits (replicate k Recessive ++ Dominant ∷ []))
    InterframeSpaceWithSof AfterSof in
    let same : 3 + i ≡ suc (suc (suc i)) = omega arith in
    subst P same (suspend_transmission_sof i owed (omega arith))

-- a dominant first or second level breaks it off
pub interframe_breaks : (c : ContextValue) (n : ℕ) (seen : Level) (bits : List Bit) → seen ≡ Dominant → n < 2 →
    IsInInterframeSpace n c bits →
    Row c AtInterframeSpace (bits ++ recessive_bit seen ∷ []) InterframeSpaceBroken AtFlag
interframe_breaks c n seen bits level less h =
    let P : List Bit → Type 0 = λ t. Row c AtInterframeSpace t InterframeSpaceBroken AtFlag in
    subst P (sym (broken_off c n seen bits level h)) (broken_row c n less)

-- a later one starts a frame
pub interframe_sof : (c : ContextValue) (n : ℕ) (seen : Level) (bits : List Bit) → seen ≡ Dominant → 2 ≤ n →
    IsInInterframeSpace n c bits →
    Row c AtInterframeSpace (bits ++ recessive_bit seen ∷ []) InterframeSpaceWithSof AfterSof
interframe_sof c n seen bits level most h =
    let P : List Bit → Type 0 = λ t. Row c AtInterframeSpace t InterframeSpaceWithSof AfterSof in
    subst P (sym (broken_off c n seen bits level h)) (start_row c n most h.few)

-- interframe space goes on with recessive levels
pub open_interframe : (n : ℕ) (c : ContextValue) (bits : List Bit) → IsInInterframeSpace n c bits →
    IsUnfinished c AtInterframeSpace bits
open_interframe n c bits h =
    let P : List Bit → Type 0 = λ t. Row c AtInterframeSpace t InterframeSpace AtIdle in
    let few = h.few in
    let left : ℕ = interframe_count c - n - 1 in
    let all : n + suc left ≡ interframe_count c = omega arith in
    let more : List Level = replicate (suc left) Recessive in
    let levels = replicate-append-replicate n (suc left) Recessive ∙ ap (λ k. replicate k Recessive) all in
    let whole = receives_on bits (replicate n Recessive) more (replicate (interframe_count c) Recessive) h.whole
    levels in
    record {
      piece = InterframeSpace;
      next = AtIdle;
      more = recessive_bit Recessive;
      rest = recessive_bits (replicate left Recessive);
      lawful = subst P (sym whole) interframe_space;
    }
