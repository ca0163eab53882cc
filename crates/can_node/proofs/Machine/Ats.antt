-- What a bit makes of each piece, from what the node's functions say of it.
use Rattle.std.proofs.Common.{◌≡◌, ℕ, Bool, List, [], refl, sym, subst, ◌∙◌}
use Rattle.can_levels.specs.declared.level.Level.{Level}
use Rattle.can_levels.specs.declared.level.Level.TheVariants.{Dominant, Recessive}
use Rattle.can_bits.specs.declared.shift.Shift.{Shift}
use Rattle.can_node.specs.declared.stage.Stage.{Stage}
use Rattle.can_node.specs.declared.stage.Stage.TheVariants.{Integrating as StageIntegrating}
use Rattle.can_node.specs.declared.stage.Stage.TheVariants.{LastEofBit as StageLastEofBit}
use Rattle.can_node.specs.declared.stage.Stage.TheVariants.{InFlag as StageInFlag, InDelimiter as StageInDelimiter}
use Rattle.can_node.specs.declared.stage.Stage.TheVariants.{InInterframeSpace as StageInInterframeSpace}
use Rattle.can_node.specs.declared.after_bit.AfterBit.{AfterBit}
use Rattle.can_node_rules.specs.Bits.{Bit, recessive_bit, dominant_bit}
use Rattle.can_node_rules.specs.Context.{ContextValue, owes_suspension, flag_level}
use Rattle.can_node_rules.specs.Pieces.{Place}
use Rattle.can_node_rules.specs.Pieces.Place.{AtIntegration, AtLastEofBit, AtFlag, AtDelimiter}
use Rattle.can_node_rules.specs.Pieces.Place.{AtInterframeSpace}
use Rattle.can_node_rules.specs.Table.Row.{last_eof_bit, last_eof_bit_overload}
use Rattle.can_node_rules.specs.Driving.{Drives}
use Rattle.can_node_rules.specs.KeptContexts.{IsKept}
use Rattle.can_node.specs.Stages.{At}
use Rattle.can_node_rules.specs.UnfinishedPieces.{IsIntegrating, IsInFlag, IsInDominantFlag}
use Rattle.can_node_rules.specs.UnfinishedPieces.{IsInPassiveFlag, IsInDelimiter, IsInInterframeSpace}
use Rattle.can_node.specs.Inside.Turns.{IsTurn, after_last_eof}
use Rattle.can_node_rules.proofs.OneCut.KeptLevels.{level_kept}

-- the stage is this one
pub at_is : (s : Stage) (stage : Stage) (shift : Shift) (c now : ContextValue) (place : Place) (bits : List Bit) →
    stage ≡ s → At stage shift c now place bits →
    At s shift c now place bits
at_is s stage shift c now place bits e h = let P : Stage → Type 0 = λ x. At x shift c now place bits in subst P e h

-- a turn at a place, of a bit in which this level was driven
turn_at : (shift : Shift) (c now : ContextValue) (place s : Place) (bits : List Bit) (driven x seen : Level)
    (turn : AfterBit) → place ≡ s → driven ≡ x →
    IsTurn shift c now s bits (record { driven = x; seen = seen }) turn →
    IsTurn shift c now place bits (record { driven = driven; seen = seen }) turn
turn_at shift c now place s bits driven x seen turn e d h =
    let P : Place → Type 0 = λ z. IsTurn shift c now z bits (record { driven = driven; seen = seen }) turn in
    let Q : Level → Type 0 = λ y. IsTurn shift c now s bits (record { driven = y; seen = seen }) turn in
    subst P (sym e) (subst Q (sym d) h)

-- what is driven at a place
driven_at : (now : ContextValue) (place s : Place) (bits : List Bit) (x : Level) → place ≡ s → Drives now place bits x →
    Drives now s bits x
driven_at now place s bits x e h = let P : Place → Type 0 = λ z. Drives now z bits x in subst P e h

-- waiting for the bus
pub at_integration : (left run : ℕ) (stage : Stage) (shift : Shift) (c now : ContextValue) (place : Place)
    (bits : List Bit) (driven seen : Level) (turn : AfterBit) →
    stage ≡ StageIntegrating left run → At stage shift c now place bits → Drives now place bits driven →
    ((shift : Shift) (c now : ContextValue) (bits : List Bit) → IsIntegrating left run c bits →
    IsTurn shift c now AtIntegration bits (recessive_bit seen) turn) →
    IsTurn shift c now place bits (record { driven = driven; seen = seen }) turn
at_integration left run stage shift c now place bits driven seen turn e h drives f =
    let at = at_is (StageIntegrating left run) stage shift c now place bits e h in
    turn_at shift c now place AtIntegration bits driven Recessive seen turn at.0
    (driven_at now place AtIntegration bits driven at.0 drives) (f shift c now bits at.1)

-- the seventh bit of EOF of a received frame
last_row : (x : Level) (shift : Shift) (c now : ContextValue) →
    IsTurn shift c now AtLastEofBit [] (recessive_bit x) (after_last_eof x)
last_row Dominant shift c now = last_eof_bit_overload
last_row Recessive shift c now = last_eof_bit

pub at_last_eof_bit : (stage : Stage) (shift : Shift) (c now : ContextValue) (place : Place) (bits : List Bit)
    (driven seen : Level) (turn : AfterBit) →
    stage ≡ StageLastEofBit → At stage shift c now place bits → Drives now place bits driven →
    turn ≡ after_last_eof seen →
    IsTurn shift c now place bits (record { driven = driven; seen = seen }) turn
at_last_eof_bit stage shift c now place bits driven seen turn e h drives is =
    let at = at_is StageLastEofBit stage shift c now place bits e h in
    let P : AfterBit → Type 0 = λ t. IsTurn shift c now AtLastEofBit [] (recessive_bit seen) t in
    let Q : List Bit → Type 0 = λ l. IsTurn shift c now AtLastEofBit l (recessive_bit seen) turn in
    turn_at shift c now place AtLastEofBit bits driven Recessive seen turn at.0
    (driven_at now place AtLastEofBit bits driven at.0 drives)
    (subst Q (sym at.1) (subst P (sym is) (last_row seen shift c now)))

-- a dominant flag
pub at_dominant_flag : (n : ℕ) (like level driven seen : Level) (shift : Shift) (c now : ContextValue) (bits : List Bit)
    (turn : AfterBit) →
    IsInFlag (flag_level c) n like c bits → IsKept AtFlag c now → driven ≡ flag_level now → level ≡ Dominant →
    level ≡ flag_level now →
    ((shift : Shift) (d e : ContextValue) (bits : List Bit) → flag_level d ≡ Dominant → now.flag ≡ d.flag →
    IsInDominantFlag n d bits → IsTurn shift d e AtFlag bits (dominant_bit seen) turn) →
    IsTurn shift c now AtFlag bits (record { driven = driven; seen = seen }) turn
at_dominant_flag n like level driven seen shift c now bits turn h kept drives dominant same f =
    let here : flag_level now ≡ Dominant = sym same ∙ dominant in
    let there : flag_level c ≡ Dominant = sym (level_kept c now kept.listen kept.flag) ∙ here in
    let P : Level → Type 0 = λ x. IsInFlag x n like c bits in
    turn_at shift c now AtFlag AtFlag bits driven Dominant seen turn refl (drives ∙ here)
    (f shift c now bits there kept.flag (subst P there h))

-- a passive flag
pub at_passive_flag : (n : ℕ) (like level driven seen : Level) (shift : Shift) (c now : ContextValue) (bits : List Bit)
    (turn : AfterBit) →
    IsInFlag (flag_level c) n like c bits → IsKept AtFlag c now → driven ≡ flag_level now → level ≡ Recessive →
    level ≡ flag_level now →
    ((shift : Shift) (c now : ContextValue) (bits : List Bit) → flag_level c ≡ Recessive →
    IsInPassiveFlag n like c bits → IsTurn shift c now AtFlag bits (recessive_bit seen) turn) →
    IsTurn shift c now AtFlag bits (record { driven = driven; seen = seen }) turn
at_passive_flag n like level driven seen shift c now bits turn h kept drives recessive same f =
    let here : flag_level now ≡ Recessive = sym same ∙ recessive in
    let there : flag_level c ≡ Recessive = sym (level_kept c now kept.listen kept.flag) ∙ here in
    let P : Level → Type 0 = λ x. IsInFlag x n like c bits in
    turn_at shift c now AtFlag AtFlag bits driven Recessive seen turn refl (drives ∙ here)
    (f shift c now bits there (subst P there h))

-- a flag
pub at_flag : (n : ℕ) (like : Level) (stage : Stage) (shift : Shift) (c now : ContextValue) (place : Place)
    (bits : List Bit) (driven seen : Level) (turn : AfterBit) →
    stage ≡ StageInFlag n like → At stage shift c now place bits → IsKept place c now → Drives now place bits driven →
    ((shift : Shift) (c : ContextValue) (bits : List Bit) (driven : Level) → IsInFlag (flag_level c) n like c bits →
    IsKept AtFlag c now → driven ≡ flag_level now →
    IsTurn shift c now AtFlag bits (record { driven = driven; seen = seen }) turn) →
    IsTurn shift c now place bits (record { driven = driven; seen = seen }) turn
at_flag n like stage shift c now place bits driven seen turn e h kept drives f =
    let at = at_is (StageInFlag n like) stage shift c now place bits e h in
    let P : Place → Type 0 = λ s. IsKept s c now in
    turn_at shift c now place AtFlag bits driven driven seen turn at.0 refl
    (f shift c bits driven at.1 (subst P at.0 kept) (driven_at now place AtFlag bits driven at.0 drives))

-- the levels after a flag
pub at_delimiter : (d r : ℕ) (stage : Stage) (shift : Shift) (c now : ContextValue) (place : Place) (bits : List Bit)
    (driven seen : Level) (turn : AfterBit) →
    stage ≡ StageInDelimiter d r → At stage shift c now place bits → Drives now place bits driven →
    ((shift : Shift) (c now : ContextValue) (bits : List Bit) → IsInDelimiter d r bits →
    IsTurn shift c now AtDelimiter bits (recessive_bit seen) turn) →
    IsTurn shift c now place bits (record { driven = driven; seen = seen }) turn
at_delimiter d r stage shift c now place bits driven seen turn e h drives f =
    let at = at_is (StageInDelimiter d r) stage shift c now place bits e h in
    turn_at shift c now place AtDelimiter bits driven Recessive seen turn at.0
    (driven_at now place AtDelimiter bits driven at.0 drives) (f shift c now bits at.1)

-- interframe space
pub at_interframe_space : (n : ℕ) (owed : Bool) (stage : Stage) (shift : Shift) (c now : ContextValue) (place : Place)
    (bits : List Bit) (driven seen : Level) (turn : AfterBit) →
    stage ≡ StageInInterframeSpace n → At stage shift c now place bits → IsKept place c now →
    Drives now place bits driven → owed ≡ owes_suspension now →
    ((shift : Shift) (c now : ContextValue) (bits : List Bit) → owed ≡ owes_suspension c →
    IsInInterframeSpace n c bits → IsTurn shift c now AtInterframeSpace bits (recessive_bit seen) turn) →
    IsTurn shift c now place bits (record { driven = driven; seen = seen }) turn
at_interframe_space n owed stage shift c now place bits driven seen turn e h kept drives owes f =
    let at = at_is (StageInInterframeSpace n) stage shift c now place bits e h in
    turn_at shift c now place AtInterframeSpace bits driven Recessive seen turn at.0
    (driven_at now place AtInterframeSpace bits driven at.0 drives)
    (f shift c now bits (owes ∙ kept.owes at.0) at.1)
