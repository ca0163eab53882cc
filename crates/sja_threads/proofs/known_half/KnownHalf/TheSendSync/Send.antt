use denote.RattleType.{RattleType}
use denote.Param.Send.{IsSend}
use Rattle.sja_threads.proofs.Twin.Going.{known_send}
use Rattle.sja_threads.specs.contracts.known_half.KnownHalf.{the_row}

pub send : (V : RattleType) → IsSend (the_row V)
send = known_send
