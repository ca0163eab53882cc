-- What is wrong with a bit for a transmitter.
use Rattle.std.specs.Prelude.{Bool, if◌then◌else◌, Option, Some, None}
use Rattle.can_levels.specs.declared.level.Level.{Level}
use Rattle.can_levels.specs.declared.level.Level.TheVariants.{Dominant, Recessive}
use Rattle.can_node_rules.specs.declared.cause.Cause.{Cause}
use Rattle.can_node_rules.specs.declared.cause.Cause.TheVariants.{Bit as BitError, Stuff as StuffError, Ack as AckError}
use Rattle.can_node_rules.specs.declared.own_bit.OwnBit.{OwnBit}
use Rattle.can_node_rules.specs.declared.own_bit.OwnBit.TheVariants.{AckSlot, LostArbitration, StuffBeforeRtr, Other}

-- what a bit is: in the ACK slot or not, a stuff bit before RTR or not, and where arbitration is lost or not
abbrev pub kind_of : Bool → Bool → Bool → OwnBit
kind_of slot early lost = if slot then AckSlot else if lost then LostArbitration else if early then StuffBeforeRtr else
    Other

-- a recessive level that is seen: only in the ACK slot that is wrong, where it isn't self test
abbrev pub unacknowledged : OwnBit → Bool → Option Cause
unacknowledged AckSlot self_test = if self_test then None else Some AckError
unacknowledged LostArbitration self_test = None
unacknowledged StuffBeforeRtr self_test = None
unacknowledged Other self_test = None

-- a recessive level that is seen dominant
abbrev pub overdriven : OwnBit → Option Cause
overdriven AckSlot = None
overdriven LostArbitration = None
overdriven StuffBeforeRtr = Some StuffError
overdriven Other = Some BitError

-- what is wrong with these two levels, driven and seen
abbrev pub cause_of_bit : Level → Level → OwnBit → Bool → Option Cause
cause_of_bit Dominant Dominant kind self_test = None
cause_of_bit Dominant Recessive kind self_test = Some BitError
cause_of_bit Recessive Recessive kind self_test = unacknowledged kind self_test
cause_of_bit Recessive Dominant kind self_test = overdriven kind
