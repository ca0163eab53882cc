-- A bus after a bit, or what was taken before one, that didn't come to its end.
use Rattle.std.proofs.Common.{◌≡◌, ◌≤◌, ℕ, ◌+◌, List, length, Some, arith}
use Rattle.std.specs.Prelude.{Option}
use Rattle.sja_journal.specs.Written.{Room}
use Rattle.sja_journal.specs.declared.bus_fault.BusFault.{BusFault}
use Rattle.sja_bus_rules.specs.Reasons.{room_for}
use Rattle.sja_bus.specs.declared.bus_node.BusNode.{BusNode}
use Rattle.sja_bus.specs.Inside.StrikesByBit.{Scripted}
use Rattle.sja_bus.specs.Inside.Refusing.{HaveRoom}
use Rattle.sja_bus.specs.Inside.Whole.{IsWhole}

-- it is whole with its fault: it has as many nodes, with the room that they had
pub whole_broken : (struck : Scripted) (starts : ℕ) (steps : List ℕ) (run left now less : ℕ) (fault : Option BusFault)
    (f : BusFault) (bus_nodes after : List BusNode) (room : ℕ) → length after ≡ length bus_nodes → run ≤ now →
    now + less ≡ run + left →
    ((n : ℕ → Room) → HaveRoom n bus_nodes → HaveRoom n after) → IsWhole struck starts steps run left fault bus_nodes
    room →
    IsWhole struck starts steps now less (Some f) after room
whole_broken struck starts steps run left now less fault f bus_nodes after room count later all rooms was =
    let few = was.few in let bits = was.bits in let logs = was.logs in let asked = was.asked in record {
      few = omega (arith, few, count);
      bits = omega (arith, all, bits);
      most = was.most;
      asked = omega (arith, asked, later);
      bus = λ wrong. absurd cc;
      begun = λ wrong. absurd cc;
      logs = omega (arith, logs, count);
      rooms = rooms (room_for struck.bits steps) was.rooms;
    }
