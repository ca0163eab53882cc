use Rattle.std.proofs.Common.{◌≡◌, false, take}
use Rattle.sja_sweep.specs.Nodes.{activation_at}
use Rattle.sja_sweep.specs.Kinds.{is_got_more}
use Rattle.sja_sweep.proofs.gains.some_more.Given as goal

-- none of the messages so far was got more often
abbrev pub invariant-loop-message : goal.invariant-loop-message
invariant-loop-message l =
    is_got_more (activation_at l.activations l.place) (activation_at l.others l.place)
    (take l.message-index l.messages) ≡ false
