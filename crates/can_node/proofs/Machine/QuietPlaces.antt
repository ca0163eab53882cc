-- The quick way of a bit outside a frame.
use Rattle.std.proofs.Common.{◌≡◌, ◌==◌, ◌&&◌, ◌||◌, ◌+◌, ◌-◌, not, ℕ, Bool, true, false, Some, None}
use Rattle.std.proofs.Common.{fold, List, [], ◌∷◌, ◌++◌, refl, ap, sym, subst, ◌∙◌, if◌then◌else◌}
use Rattle.std.proofs.lemmas.Bool.{ne_eqb, and_right, or_parts}
use Rattle.can_levels.specs.declared.level.Level.{Level}
use Rattle.can_levels.specs.declared.level.Level.TheVariants.{Dominant, Recessive}
use Rattle.can_bits.specs.declared.shift.Shift.{Shift}
use Rattle.can_levels.specs.Fields.{is_recessive}
use Rattle.can_node.specs.declared.stage.Stage.{Stage}
use Rattle.can_node.specs.declared.stage.Stage.TheVariants.{InReset as StageInReset, Integrating as StageIntegrating}
use Rattle.can_node.specs.declared.stage.Stage.TheVariants.{InFlag as StageInFlag, InDelimiter as StageInDelimiter}
use Rattle.can_node.specs.declared.stage.Stage.TheVariants.{InInterframeSpace as StageInInterframeSpace}
use Rattle.can_node.specs.declared.after_bit.AfterBit.{AfterBit}
use Rattle.can_node.specs.declared.after_bit.AfterBit.TheVariants.{InPiece, Ended}
use Rattle.can_node_rules.specs.declared.flag_kind.FlagKind.{FlagKind}
use Rattle.can_node_rules.specs.declared.role.Role.{Role}
use Rattle.can_node_rules.specs.Bits.{Bit, seen_of}
use Rattle.can_node_rules.specs.Context.{ContextValue}
use Rattle.can_node_rules.specs.Pieces.{Place}
use Rattle.can_node_rules.specs.Pieces.Place.{AtReset, AtIntegration, AtFlag, AtDelimiter, AtInterframeSpace}
use Rattle.can_node_rules.specs.Counting.{at_bit, integration_bit, next_run, ends_eleven, if_ack_step_owed}
use Rattle.can_node_rules.specs.Counting.{delimiter_level, if_eighth, after_error_flag, unless_listening, more_by}
use Rattle.can_node_rules.specs.Events.{lost_in}
use Rattle.can_node_rules.specs.KeptContexts.{is_nil}
use Rattle.can_node.specs.Stages.{At}
use Rattle.can_node_rules.specs.UnfinishedPieces.{IsInDelimiter}
use Rattle.can_node.specs.Inside.Quiet.{IsQuietTurn, stage_in}
use Rattle.can_node.specs.Inside.Turns.{IsTurn}
use Rattle.can_node.proofs.Machine.Ats.{at_is}
use Rattle.can_node.proofs.Machine.Counts.{count_integration, first_bit_is}
use Rattle.can_node_rules.proofs.Waiting.Delimiters.{eighth_is}

-- ---- the turn

-- a stage to which the piece goes on
goes_to : (turn : AfterBit) (stage : Stage) → Some stage ≡ stage_in turn → turn ≡ InPiece stage
goes_to (InPiece s) stage e = let same : s ≡ stage = cc in ap InPiece same
goes_to (Ended ending) stage e = cc

-- so the node stands there
quiet_turn : (stage : Stage) (turn : AfterBit) (shift : Shift) (c now : ContextValue) (place : Place) (bits : List Bit)
    (b : Bit) → Some stage ≡ stage_in turn →
    IsTurn shift c now place bits b turn → None ≡ lost_in now place bits b → now ≡ at_bit now place bits b →
    IsQuietTurn stage shift c now place bits b
quiet_turn stage turn shift c now place bits b goes made lost steps =
    let P : AfterBit → Type 0 = λ t. IsTurn shift c now place bits b t in
    record {
      lost = lost;
      steps = steps;
      at = subst (λ k. At stage shift c k place (bits ++ b ∷ [])) (sym steps) (subst P (goes_to turn stage goes) made);
    }

-- outside a frame nothing is lost
data IsOutside : Place → Type 0 where
  in_reset : IsOutside AtReset
  integrating : IsOutside AtIntegration
  in_flag : IsOutside AtFlag
  in_delimiter : IsOutside AtDelimiter
  in_interframe : IsOutside AtInterframeSpace

none_lost : (now : ContextValue) (s : Place) (bits : List Bit) (b : Bit) → IsOutside s → None ≡ lost_in now s bits b
none_lost now s bits b in_reset = refl
none_lost now s bits b integrating = refl
none_lost now s bits b in_flag = refl
none_lost now s bits b in_delimiter = refl
none_lost now s bits b in_interframe = refl

lost_there : (now : ContextValue) (place s : Place) (bits : List Bit) (b : Bit) → place ≡ s → IsOutside s →
    None ≡ lost_in now place bits b
lost_there now place s bits b e h = let P : Place → Type 0 =
    λ z. None ≡ lost_in now z bits b in subst P (sym e) (none_lost now s bits b h)

-- what a bit counts at a place
counts_there : (now : ContextValue) (place s : Place) (bits : List Bit) (b : Bit) → place ≡ s →
    now ≡ at_bit now s bits b → now ≡ at_bit now place bits b
counts_there now place s bits b e h = let P : Place → Type 0 = λ z. now ≡ at_bit now z bits b in subst P (sym e) h

-- ---- in reset

reset_at : (stage : Stage) (shift : Shift) (c now : ContextValue) (place : Place) (bits more : List Bit) →
    stage ≡ StageInReset → At stage shift c now place bits →
    At StageInReset shift c now place more
reset_at stage shift c now place bits more e h = at_is StageInReset stage shift c now place bits e h

pub resets_quietly : (stage : Stage) (shift : Shift) (c now : ContextValue) (place : Place) (bits : List Bit)
    (b : Bit) → stage ≡ StageInReset →
    At stage shift c now place bits → IsQuietTurn StageInReset shift c now place bits b
resets_quietly stage shift c now place bits b e h =
    let at = at_is StageInReset stage shift c now place bits e h in
    record {
      lost = lost_there now place AtReset bits b at.0 in_reset;
      steps = counts_there now place AtReset bits b at.0 refl;
      at = reset_at stage shift c now place bits (bits ++ b ∷ []) e h;
    }

-- ---- while the bus is waited for

-- no eleven are complete
not_eleven : (n : ℕ) (x : Level) → (n ≡ 10 → ⊥) → ends_eleven n x ≡ false
not_eleven n Dominant h = refl
not_eleven n Recessive h = ne_eqb n 10 h

no_step : (now : ContextValue) (run : ℕ) (seen : Level) → (run ≡ 10 → ⊥) → (done : List Bit) (b : Bit) →
    fold next_run 0 (seen_of done) ≡ run → b.seen ≡ seen →
    now ≡ integration_bit now done b
no_step now run seen short done b count e =
    let none = not_eleven (fold next_run 0 (seen_of done)) b.seen (λ ten. short (sym count ∙ ten)) in
    sym (ap (λ t. if t then record now { tec = now.tec - 1 } else now)
    (and_right (now.off && not now.listen) (ends_eleven (fold next_run 0 (seen_of done)) b.seen) none))

pub integrates_quietly : (left run : ℕ) (stage to : Stage) (turn : AfterBit) (shift : Shift) (c now : ContextValue)
    (place : Place) (bits : List Bit) (driven seen : Level) →
    stage ≡ StageIntegrating left run → (run ≡ 10 → ⊥) → At stage shift c now place bits → Some to ≡ stage_in turn →
    IsTurn shift c now place bits (record { driven = driven; seen = seen }) turn →
    IsQuietTurn to shift c now place bits (record { driven = driven; seen = seen })
integrates_quietly left run stage to turn shift c now place bits driven seen e short h goes made =
    let at = at_is (StageIntegrating left run) stage shift c now place bits e h in
    quiet_turn to turn shift c now place bits (record { driven = driven; seen = seen }) goes made
    (lost_there now place AtIntegration bits (record { driven = driven; seen = seen }) at.0 integrating)
    (count_integration left run stage shift c now now place bits driven seen e h (no_step now run seen short))

-- ---- in a flag

none_owed : (now : ContextValue) (x : Level) → now.ack_step_owed ≡ false → now ≡ if_ack_step_owed x now
none_owed now Dominant e = sym (ap (λ t. if t then record now { tec = now.tec + 8; ack_step_owed = false } else now) e)
none_owed now Recessive e = refl

pub flags_quietly : (n : ℕ) (like : Level) (stage to : Stage) (turn : AfterBit) (shift : Shift) (c now : ContextValue)
    (place : Place) (bits : List Bit) (driven seen : Level) →
    stage ≡ StageInFlag n like → now.ack_step_owed ≡ false → At stage shift c now place bits → Some to ≡ stage_in turn →
    IsTurn shift c now place bits (record { driven = driven; seen = seen }) turn →
    IsQuietTurn to shift c now place bits (record { driven = driven; seen = seen })
flags_quietly n like stage to turn shift c now place bits driven seen e owes h goes made =
    let at = at_is (StageInFlag n like) stage shift c now place bits e h in
    let b : Bit = record { driven = driven; seen = seen } in
    quiet_turn to turn shift c now place bits b goes made (lost_there now place AtFlag bits b at.0 in_flag)
    (counts_there now place AtFlag bits b at.0 (none_owed now seen owes))

-- ---- after a flag

-- a level that isn't the first
later_level : (bits : List Bit) (role : Role) (flag : FlagKind) (now : ContextValue) → is_nil bits ≡ false →
    after_error_flag bits role flag now ≡ now
later_level [] role flag now e = absurd cc
later_level (b ∷ bits) role flag now e = refl

-- of two equal contexts either is the context
either : (test : Bool) (now : ContextValue) → (if test then now else now) ≡ now
either true now = refl
either false now = refl

uncounted : (d r : ℕ) (bits : List Bit) (seen : Level) (now : ContextValue) → IsInDelimiter d r bits →
    (not (is_recessive seen) && ((d == 0 && r == 0) || (r == 0 && d == 7))) ≡ false →
    now ≡ delimiter_level seen bits now
uncounted d r bits Recessive now h e = refl
uncounted d r bits Dominant now h e =
    let first = later_level bits now.role now.flag now
    (sym (first_bit_is d r bits h) ∙ (or_parts (d == 0 && r == 0) (r == 0 && d == 7) e).0) in
    let eighth = eighth_is d r bits h ∙ (or_parts (d == 0 && r == 0) (r == 0 && d == 7) e).1 in
    sym (ap (λ k. unless_listening now (if_eighth bits k)) first
    ∙ ap (λ t. unless_listening now (if t then more_by now.role 8 8 now else now)) eighth ∙ either now.listen now)

pub delimits_quietly : (d r : ℕ) (stage to : Stage) (turn : AfterBit) (shift : Shift) (c now : ContextValue)
    (place : Place) (bits : List Bit) (driven seen : Level) →
    stage ≡ StageInDelimiter d r → (not (is_recessive seen) && ((d == 0 && r == 0) || (r == 0 && d == 7))) ≡ false →
    At stage shift c now place bits →
    Some to ≡ stage_in turn → IsTurn shift c now place bits (record { driven = driven; seen = seen }) turn →
    IsQuietTurn to shift c now place bits (record { driven = driven; seen = seen })
delimits_quietly d r stage to turn shift c now place bits driven seen e uncounts h goes made =
    let at = at_is (StageInDelimiter d r) stage shift c now place bits e h in
    let b : Bit = record { driven = driven; seen = seen } in
    quiet_turn to turn shift c now place bits b goes made (lost_there now place AtDelimiter bits b at.0 in_delimiter)
    (counts_there now place AtDelimiter bits b at.0 (uncounted d r bits seen now at.1 uncounts))

-- ---- in interframe space

pub interframes_quietly : (n : ℕ) (stage to : Stage) (turn : AfterBit) (shift : Shift) (c now : ContextValue)
    (place : Place) (bits : List Bit) (b : Bit) →
    stage ≡ StageInInterframeSpace n → At stage shift c now place bits → Some to ≡ stage_in turn →
    IsTurn shift c now place bits b turn →
    IsQuietTurn to shift c now place bits b
interframes_quietly n stage to turn shift c now place bits b e h goes made =
    let at = at_is (StageInInterframeSpace n) stage shift c now place bits e h in
    quiet_turn to turn shift c now place bits b goes made
    (lost_there now place AtInterframeSpace bits b at.0 in_interframe)
    (counts_there now place AtInterframeSpace bits b at.0 refl)
