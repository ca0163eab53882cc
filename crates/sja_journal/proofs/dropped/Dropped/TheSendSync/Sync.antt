-- What was forgotten owns nothing, so it may be seen from other threads.
use denote.RattleType.{RattleType}
use denote.Param.Send.{IsSend, IsSync, owning_send, part_keyless, sendable}
use Rattle.sja_journal.specs.contracts.dropped.Dropped.{the_row, the_type}

-- it may go to another, whatever the items are
goes : (T : RattleType) → IsSend (the_row T)
goes T = owning_send (the_type T) (search sendable, tt) (λ d. tt) (λ k x w. tt)

pub sync : (T : RattleType) → IsSync T → IsSync (the_row T)
sync T y = record { shared = λ d b o κ q. part_keyless (the_row T) (goes T) q d b o }
