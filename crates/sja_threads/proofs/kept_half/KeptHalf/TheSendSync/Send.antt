use denote.RattleType.{RattleType}
use denote.Param.Send.{IsSend}
use Rattle.sja_threads.proofs.Twin.Going.{kept_send}
use Rattle.sja_threads.specs.contracts.kept_half.KeptHalf.{the_row}

pub send : (V : RattleType) → IsSend (the_row V)
send = kept_send
