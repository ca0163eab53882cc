-- Frames by their fields.
use Rattle.std.proofs.Common.{◌≡◌}
use Rattle.can_frame.specs.Frame.{FrameValue}

-- a frame is what its five fields say
pub same_frame : (f g : FrameValue) → f.ext ≡ g.ext → f.id ≡ g.id → f.rtr ≡ g.rtr → f.dlc ≡ g.dlc →
    f.bytes ≡ g.bytes → f ≡ g
same_frame f g ext id rtr dlc bytes =
    let all : FrameValue = record { ext = f.ext; id = f.id; rtr = f.rtr; dlc = f.dlc; bytes = f.bytes } in
    let others : FrameValue = record { ext = g.ext; id = g.id; rtr = g.rtr; dlc = g.dlc; bytes = g.bytes } in
    let same : all ≡ others = cc in same
