-- What one bit, or the end of a piece, may change in the context.
use Rattle.std.proofs.Common.{◌≡◌, ◌%◌, ◌+◌, ◌==◌, ◌&&◌, ◌||◌, ◌⊎◌, not, fold, length, Bool, true, false, Option, Some}
use Rattle.std.proofs.Common.{None, is_some, ℕ, min, ◌-◌, List, [], ◌∷◌, inl, inr, refl, ◌∙◌, if◌then◌else◌}
use Rattle.can_levels.specs.declared.level.Level.{Level}
use Rattle.can_levels.specs.declared.level.Level.TheVariants.{Dominant, Recessive}
use Rattle.can_node_rules.specs.declared.cause.Cause.{Cause}
use Rattle.can_node_rules.specs.declared.cause.Cause.TheVariants.{Bit as BitError, Stuff as StuffError}
use Rattle.can_node_rules.specs.declared.cause.Cause.TheVariants.{Form as FormError}
use Rattle.can_node_rules.specs.declared.cause.Cause.TheVariants.{Crc as CrcError, Ack as AckError}
use Rattle.can_node_rules.specs.declared.fault_site.FaultSite.{FaultSite}
use Rattle.can_node_rules.specs.declared.fault_site.FaultSite.TheVariants.{InTransmission, InReception, InFlag}
use Rattle.can_node_rules.specs.declared.fault_site.FaultSite.TheVariants.{InDelimiter}
use Rattle.can_node_rules.specs.declared.flag_kind.FlagKind.{FlagKind}
use Rattle.can_node_rules.specs.declared.flag_kind.FlagKind.TheVariants.{ActiveError, PassiveError, Overload}
use Rattle.can_node_rules.specs.declared.role.Role.{Role}
use Rattle.can_node_rules.specs.declared.role.Role.TheVariants.{Transmitter, Receiver}
use Rattle.can_node_rules.specs.declared.request.Request.{Request}
use Rattle.can_node_rules.specs.Bits.{Bit, seen_of}
use Rattle.can_node_rules.specs.Context.{ContextValue, is_passive}
use Rattle.can_node_rules.specs.Pieces.{Place, Piece, sent_at}
use Rattle.can_node_rules.specs.Pieces.Place.{AtReset, AtIntegration, AtIdle, AfterSof, AtLastEofBit, AtFlag}
use Rattle.can_node_rules.specs.Pieces.Place.{AtDelimiter}
use Rattle.can_node_rules.specs.Pieces.Place.{AtInterframeSpace}
use Rattle.can_node_rules.specs.Pieces.Piece.{Integration, IdleBit, Reception, Transmission, Fault, LastEofBit, Flag}
use Rattle.can_node_rules.specs.Pieces.Piece.{Delimiter, InterframeSpace, InterframeSpaceWithSof, InterframeSpaceBroken}
use Rattle.can_node_rules.specs.Counting.{at_bit, next_run, ends_eleven, first_bit, frame_bit, lost_by, drop_failed}
use Rattle.can_node_rules.specs.Counting.{if_acknowledged, if_ack_step_owed, delimiter_level, if_eighth, are_dominant}
use Rattle.can_node_rules.specs.Counting.{after_error_flag, more_by}
use Rattle.can_node_rules.specs.Effects.{closed, own_step, transmitter_fault, fault_step, entering}

-- the second context holds no request, or that of the first with its mark
abbrev pub KeepsRequest : ContextValue → ContextValue → Type 0
KeepsRequest c d = (d.held ≡ None) ⊎ ((d.held ≡ c.held) × (d.aborted ≡ c.aborted))

-- what a bit may change: mode, bus-off and flag stay, and so does the request, or it ends
pub record Changes (c d : ContextValue) : Type 0 where
  pub listen : d.listen ≡ c.listen
  pub self_test : d.self_test ≡ c.self_test
  pub off : d.off ≡ c.off
  pub flag : d.flag ≡ c.flag
  pub request : KeepsRequest c d

same : (c : ContextValue) → Changes c c
same c = record { listen = refl; self_test = refl; off = refl; flag = refl; request = inr (refl, refl) }

chosen : (test : Bool) (c d e : ContextValue) → Changes c d → Changes c e → Changes c (if test then d else e)
chosen true c d e h k = h
chosen false c d e h k = k

-- a request that is dropped or not
drops : (held : Option Request) (c d : ContextValue) → Changes c d → Changes c (drop_failed held d)
drops None c d h = h
drops (Some request) c d h =
    chosen (request.single_shot || d.aborted) c (record d { held = None; aborted = false }) d
    (record { listen = h.listen; self_test = h.self_test; off = h.off; flag = h.flag; request = inl refl }) h

-- ---- a bit

-- steps of the counters by the role
steps_by : (role : Role) (t r : ℕ) (c d : ContextValue) → Changes c d → Changes c (more_by role t r d)
steps_by Transmitter t r c d h =
    record { listen = h.listen; self_test = h.self_test; off = h.off; flag = h.flag; request = h.request }
steps_by Receiver t r c d h =
    record { listen = h.listen; self_test = h.self_test; off = h.off; flag = h.flag; request = h.request }

-- arbitration is lost
lost : (held : Option Request) (c : ContextValue) → Changes c (record (drop_failed held c) { role = Receiver })
lost held c =
    let h = drops held c c (same c) in
    record { listen = h.listen; self_test = h.self_test; off = h.off; flag = h.flag; request = h.request }

in_frame : (role : Role) (c : ContextValue) (l : List Level) (b : Bit) → Changes c (frame_bit role c l b)
in_frame Transmitter c l b =
    chosen (is_some (lost_by c.held l b.driven b.seen)) c (record (drop_failed c.held c) { role = Receiver }) c
    (lost c.held c) (same c)
in_frame Receiver c l b = acknowledged b.driven b.seen
  where
    acknowledged : (x y : Level) → Changes c (if_acknowledged x y c)
    acknowledged Dominant Dominant =
        record { listen = refl; self_test = refl; off = refl; flag = refl; request = inr (refl, refl) }
    acknowledged Dominant Recessive = same c
    acknowledged Recessive y = same c

first : (sent : Option Request) (c : ContextValue) → Changes c (first_bit sent c)
first None c = record { listen = refl; self_test = refl; off = refl; flag = refl; request = inr (refl, refl) }
first (Some request) c = record { listen = refl; self_test = refl; off = refl; flag = refl; request = inr (refl, refl) }

in_flag : (x : Level) (c : ContextValue) → Changes c (if_ack_step_owed x c)
in_flag Dominant c =
    chosen c.ack_step_owed c (record c { tec = c.tec + 8; ack_step_owed = false }) c
    (record { listen = refl; self_test = refl; off = refl; flag = refl; request = inr (refl, refl) }) (same c)
in_flag Recessive c = same c

after_flag : (done : List Bit) (role : Role) (flag : FlagKind) (c : ContextValue) →
    Changes c (after_error_flag done role flag c)
after_flag [] Receiver ActiveError c =
    record { listen = refl; self_test = refl; off = refl; flag = refl; request = inr (refl, refl) }
after_flag [] Receiver PassiveError c =
    record { listen = refl; self_test = refl; off = refl; flag = refl; request = inr (refl, refl) }
after_flag [] Receiver Overload c = same c
after_flag [] Transmitter flag c = same c
after_flag (b ∷ done) role flag c = same c

in_delimiter : (x : Level) (done : List Bit) (c : ContextValue) → Changes c (delimiter_level x done c)
in_delimiter Dominant done c =
    let d = after_error_flag done c.role c.flag c in
    let h = after_flag done c.role c.flag c in
    chosen c.listen c c (if_eighth done d) (same c)
    (chosen (are_dominant (seen_of done) && (length done + 1) % 8 == 0) c (more_by d.role 8 8 d) d
    (steps_by d.role 8 8 c d h) h)
in_delimiter Recessive done c = same c

pub bit_changes : (c : ContextValue) (place : Place) (done : List Bit) (b : Bit) → Changes c (at_bit c place done b)
bit_changes c AtReset done b = same c
bit_changes c AtIntegration done b =
    chosen ((c.off && not c.listen) && ends_eleven (fold next_run 0 (seen_of done)) b.seen) c
    (record c { tec = c.tec - 1 }) c
    (record { listen = refl; self_test = refl; off = refl; flag = refl; request = inr (refl, refl) }) (same c)
bit_changes c AtIdle [] b = first (sent_at c AtIdle) c
bit_changes c AtIdle (x ∷ done) b = in_frame c.role c (seen_of (x ∷ done)) b
bit_changes c AfterSof done b = in_frame c.role c (Dominant ∷ seen_of done) b
bit_changes c AtLastEofBit done b = same c
bit_changes c AtFlag done b = in_flag b.seen c
bit_changes c AtDelimiter done b = in_delimiter b.seen done c
bit_changes c AtInterframeSpace done b = same c

-- ---- the request, where several steps follow one another

none_lost : (c : ContextValue) → KeepsRequest c c
none_lost c = inr (refl, refl)

either : (test : Bool) (c d e : ContextValue) → KeepsRequest c d → KeepsRequest c e →
    KeepsRequest c (if test then d else e)
either true c d e h k = h
either false c d e h k = k

drops_failed : (held : Option Request) (c d : ContextValue) → KeepsRequest c d → KeepsRequest c (drop_failed held d)
drops_failed None c d h = h
drops_failed (Some request) c d h =
    either (request.single_shot || d.aborted) c (record d { held = None; aborted = false }) d (inl refl) h

counted_by : (role : Role) (t r : ℕ) (c d : ContextValue) → KeepsRequest c d → KeepsRequest c (more_by role t r d)
counted_by Transmitter t r c d h = h
counted_by Receiver t r c d h = h

pub keeps_both : (c d e : ContextValue) → KeepsRequest c d → KeepsRequest d e → KeepsRequest c e
keeps_both c d e h (inl none) = inl none
keeps_both c d e (inl none) (inr k) = inl (k.0 ∙ none)
keeps_both c d e (inr h) (inr k) = inr (k.0 ∙ h.0, k.1 ∙ h.1)

-- ---- the end of a piece

transmitter_keeps : (cause : Cause) (c : ContextValue) → KeepsRequest c (transmitter_fault cause c)
transmitter_keeps BitError c = none_lost c
transmitter_keeps StuffError c = none_lost c
transmitter_keeps FormError c = none_lost c
transmitter_keeps CrcError c = none_lost c
transmitter_keeps AckError c = either (is_passive c) c (record c { ack_step_owed = true })
    (record c { tec = c.tec + 8 }) (none_lost c) (none_lost c)

fault_keeps : (site : FaultSite) (cause : Cause) (c : ContextValue) → KeepsRequest c (fault_step site cause c)
fault_keeps InTransmission cause c = drops_failed c.held c (transmitter_fault cause c) (transmitter_keeps cause c)
fault_keeps InReception cause c = either c.listen c c (record c { rec = min 255 (c.rec + 1) })
    (none_lost c) (none_lost c)
fault_keeps InFlag cause c = counted_by c.role 8 8 c c (none_lost c)
fault_keeps InDelimiter cause c = either c.listen c c (more_by c.role 8 1 c) (none_lost c)
    (counted_by c.role 8 1 c c (none_lost c))

pub own_keeps : (piece : Piece) (c : ContextValue) → KeepsRequest c (own_step piece c)
own_keeps Integration c = either (c.off && not c.listen) c (record c { tec = 0; rec = 0; off = false }) c (none_lost c)
    (none_lost c)
own_keeps (Transmission request) c = inl refl
own_keeps (Fault site cause segment) c = fault_keeps site cause c
own_keeps Flag c = none_lost c
own_keeps IdleBit c = none_lost c
own_keeps (Reception f) c = none_lost c
own_keeps LastEofBit c = none_lost c
own_keeps Delimiter c = none_lost c
own_keeps InterframeSpace c = none_lost c
own_keeps InterframeSpaceWithSof c = none_lost c
own_keeps InterframeSpaceBroken c = none_lost c

-- what the next place sets is no request
pub enters : (next : Place) (piece : Piece) (before c : ContextValue) →
    ((entering next piece before c).held ≡ c.held) × ((entering next piece before c).aborted ≡ c.aborted)
enters AtFlag piece before c = (refl, refl)
enters AtIdle piece before c = (refl, refl)
enters AfterSof piece before c = (refl, refl)
enters AtReset piece before c = (refl, refl)
enters AtIntegration piece before c = (refl, refl)
enters AtLastEofBit piece before c = (refl, refl)
enters AtDelimiter piece before c = (refl, refl)
enters AtInterframeSpace piece before c = (refl, refl)

-- what the end of a piece leaves
pub end_keeps : (piece : Piece) (next : Place) (c : ContextValue) → KeepsRequest c (closed piece next c)
end_keeps piece next c =
    keeps_both c (own_step piece c) (closed piece next c) (own_keeps piece c)
    (inr (enters next piece c (own_step piece c)))
