-- The parts that a transmitter sends.
use Rattle.std.proofs.Common.{◌≡◌, Bool, true, false, Option, Some, None}
use Rattle.std.proofs.Common.{refl, if◌then◌else◌}
use Rattle.can_node_rules.specs.declared.request.Request.{Request}

-- a node that sends holds a request, and doesn't only listen
pub sends_parts : (listen : Bool) (held : Option Request) (request : Request) →
    (if listen then None else held) ≡ Some request →
    (listen ≡ false) × (held ≡ Some request)
sends_parts true held request e = absurd cc
sends_parts false held request e = (refl, e)
