-- The steps of a bit at each piece, from what the node's functions say of them.
use Rattle.std.proofs.Common.{◌≡◌, ◌<◌, ◌+◌, ◌%◌, ◌==◌, ◌&&◌, ℕ, zero, suc, Bool, false, fold}
use Rattle.std.proofs.Common.{length, is_some, List, [], ◌∷◌, refl, ap, sym, subst, ◌∙◌, arith}
use Rattle.can_levels.specs.declared.level.Level.{Level}
use Rattle.can_bits.specs.declared.shift.Shift.{Shift}
use Rattle.can_node_rules.specs.declared.role.Role.TheVariants.{Transmitter}
use Rattle.can_node.specs.declared.stage.Stage.{Stage}
use Rattle.can_node.specs.declared.stage.Stage.TheVariants.{Integrating as StageIntegrating}
use Rattle.can_node.specs.declared.stage.Stage.TheVariants.{InFrame as StageInFrame, InDelimiter as StageInDelimiter}
use Rattle.can_node_rules.specs.Bits.{Bit, seen_of}
use Rattle.can_node_rules.specs.Context.{ContextValue}
use Rattle.can_node_rules.specs.Pieces.{Place}
use Rattle.can_node_rules.specs.Counting.{at_bit, integration_bit, next_run, frame_bit}
use Rattle.can_node_rules.specs.Counting.{lost_by, delimiter_level, are_dominant}
use Rattle.can_node_rules.specs.Events.{lost_in, lost_as}
use Rattle.can_node_rules.specs.KeptContexts.{is_nil}
use Rattle.can_node.specs.Stages.{At}
use Rattle.can_node_rules.specs.UnfinishedPieces.{IsInDelimiter, frame_bits}
use Rattle.can_node.proofs.Machine.Ats.{at_is}
use Rattle.can_node_rules.proofs.Waiting.Delimiters.{eighth_is, first_is, first_only, not_none}
use Rattle.can_node.proofs.Machine.FrameTurns.{lost_at}
use Rattle.can_node_rules.proofs.Bits.FrameSites.{frame_at}

-- while the bus is waited for
pub count_integration : (left run : ℕ) (stage : Stage) (shift : Shift) (c now new : ContextValue) (place : Place)
    (bits : List Bit) (driven seen : Level) →
    stage ≡ StageIntegrating left run → At stage shift c now place bits →
    ((done : List Bit) (b : Bit) → fold next_run 0 (seen_of done) ≡ run → b.seen ≡ seen →
    new ≡ integration_bit now done b) →
    new ≡ at_bit now place bits (record { driven = driven; seen = seen })
count_integration left run stage shift c now new place bits driven seen e h f =
    let at = at_is (StageIntegrating left run) stage shift c now place bits e h in
    let P : Place → Type 0 = λ s. new ≡ at_bit now s bits (record { driven = driven; seen = seen }) in
    subst P (sym at.0) (f bits (record { driven = driven; seen = seen }) at.1.counted refl)

-- in a frame
pub count_frame : (stage : Stage) (shift : Shift) (c now new : ContextValue) (place : Place) (bits : List Bit)
    (driven seen : Level) (lost : Bool) →
    stage ≡ StageInFrame → At stage shift c now place bits →
    lost ≡ is_some (lost_in now place bits (record { driven = driven; seen = seen })) →
    ((l : List Level) → (now.role ≡ Transmitter → lost ≡ is_some (lost_by now.held l driven seen)) →
    new ≡ frame_bit now.role now l (record { driven = driven; seen = seen })) →
    new ≡ at_bit now place bits (record { driven = driven; seen = seen })
count_frame stage shift c now new place bits driven seen lost e h loses f =
    let at = at_is StageInFrame stage shift c now place bits e h in
    let b : Bit = record { driven = driven; seen = seen } in
    let l = seen_of (frame_bits place bits) in
    let same : now.role ≡ Transmitter → lost ≡ is_some (lost_by now.held l driven seen) =
    λ transmitter. loses ∙ ap is_some (lost_at now place bits b at.site)
    ∙ ap (λ r. is_some (lost_as r now l b)) transmitter in
    f l same ∙ sym (frame_at now place bits b at.site)

-- two numbers that aren't both 0
not_both : (d r : ℕ) → (d ≡ 0 → r ≡ 0 → ⊥) → (d == 0 && r == 0) ≡ false
not_both zero zero h = absurd (h refl refl)
not_both zero (suc r) h = not_none r
not_both (suc d) r h = rw (not_none d) refl

-- the first bit after a flag
pub first_bit_is : (d r : ℕ) (bits : List Bit) → IsInDelimiter d r bits → (d == 0 && r == 0) ≡ is_nil bits
first_bit_is d r [] h = let none = first_only d r [] h refl in rw (none.0, none.1) refl
first_bit_is d r (b ∷ bits) h =
    not_both d r (λ e f. let none : b ∷ bits ≡ [] = first_is d r (b ∷ bits) h e f in absurd cc)

-- after a flag
pub count_delimiter : (d r : ℕ) (stage : Stage) (shift : Shift) (c now new : ContextValue) (place : Place)
    (bits : List Bit) (driven seen : Level) (first eighth : Bool) →
    stage ≡ StageInDelimiter d r → At stage shift c now place bits → first ≡ (d == 0 && r == 0) →
    eighth ≡ (r == 0 && d == 7) → now.tec < 256 →
    ((done : List Bit) → now.tec < 1000 → first ≡ is_nil done →
    eighth ≡ (are_dominant (seen_of done) && (length done + 1) % 8 == 0) → new ≡ delimiter_level seen done now) →
    new ≡ at_bit now place bits (record { driven = driven; seen = seen })
count_delimiter d r stage shift c now new place bits driven seen first eighth e h starts eights few f =
    let at = at_is (StageInDelimiter d r) stage shift c now place bits e h in
    let P : Place → Type 0 = λ s. new ≡ at_bit now s bits (record { driven = driven; seen = seen }) in
    subst P (sym at.0) (f bits (omega (arith, few)) (starts ∙ first_bit_is d r bits at.1)
    (eights ∙ sym (eighth_is d r bits at.1)))
