-- A frame that begins with the last bit of interframe space.
use Rattle.std.proofs.Common.{◌≡◌, ◌&&◌, ◌||◌, not, Bool, true, false, Option, Some}
use Rattle.std.proofs.Common.{None, [], ◌∷◌, refl, ap, sym, ◌∙◌, if◌then◌else◌}
use Rattle.can_frame.specs.Frame.{IsFrame}
use Rattle.can_levels.specs.declared.level.Level.TheVariants.{Dominant}
use Rattle.can_bits.specs.declared.shift.Shift.{Shift}
use Rattle.can_bits.specs.Shifts.{StandsFor}
use Rattle.can_node_rules.specs.declared.role.Role.{Role}
use Rattle.can_node_rules.specs.declared.role.Role.TheVariants.{Transmitter, Receiver}
use Rattle.can_node_rules.specs.declared.request.Request.{Request}
use Rattle.can_node_rules.specs.Context.{ContextValue, is_held, is_transmitter, owes_suspension}
use Rattle.can_node_rules.specs.Effects.{closed, role_after_sof}
use Rattle.can_node_rules.specs.Pieces.Place.{AfterSof}
use Rattle.can_node_rules.specs.Pieces.Piece.{InterframeSpaceWithSof}
use Rattle.can_node.specs.Stages.{IsReading}
use Rattle.can_node_rules.specs.UnfinishedPieces.{ByRole}
use Rattle.can_node_rules.specs.UnfinishedPieces.IsInFrame.{from_sof}
use Rattle.can_node_rules.proofs.Reception.Beginnings.{receives_after_sof}
use Rattle.can_node_rules.proofs.Transmission.TransmitterFronts.{transmits_after_sof}

-- what makes a node transmitter there
transmitter_if : (held : Option Request) (listen owes : Bool) →
    (if is_held held && not (listen || owes) then Transmitter else Receiver) ≡ Transmitter →
    (request : Request) × (held ≡ Some request) × (listen ≡ false)
transmitter_if None listen owes e = absurd cc
transmitter_if (Some request) true owes e = absurd cc
transmitter_if (Some request) false owes e = (request, refl, refl)

-- by the role
starts_by : (r : Role) (e before : ContextValue) → e.role ≡ r → e ≡ closed InterframeSpaceWithSof AfterSof before →
    ((request : Request) → e.held ≡ Some request → IsFrame request.frame) → ByRole r e e AfterSof []
starts_by Receiver e before role same fits =
    receives_after_sof e (ap (λ r. if is_transmitter r then e.held else None) role)
starts_by Transmitter e before role same fits =
    let was : role_after_sof before ≡ Transmitter = sym (ap (λ (c : ContextValue). c.role) same) ∙ role in
    let parts = transmitter_if before.held before.listen (owes_suspension before) was in
    let held : e.held ≡ Some parts.0 = ap (λ (c : ContextValue). c.held) same ∙ parts.1 in
    let speaks : e.listen ≡ false = ap (λ (c : ContextValue). c.listen) same ∙ parts.2 in
    transmits_after_sof e e parts.0 (fits parts.0 held)
    (ap (λ r. if is_transmitter r then e.held else None) role ∙ held) held speaks

pub starts_frame : (new : Shift) (e before : ContextValue) → e ≡ closed InterframeSpaceWithSof AfterSof before →
    ((request : Request) → e.held ≡ Some request → IsFrame request.frame) → StandsFor new (Dominant ∷ []) →
    IsReading new e e AfterSof []
starts_frame new e before same fits stands = record {
  site = from_sof [];
  stands = stands;
  by_role = starts_by e.role e before refl same fits;
}
