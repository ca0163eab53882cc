-- What was forgotten owns nothing, so it may go to another thread.
use denote.RattleType.{RattleType}
use denote.Param.Send.{IsSend, owning_send, sendable}
use Rattle.sja_journal.specs.contracts.dropped.Dropped.{the_row, the_type}

pub send : (T : RattleType) → IsSend T → IsSend (the_row T)
send T t = owning_send (the_type T) (search sendable, tt) (λ d. tt) (λ k x w. tt)
