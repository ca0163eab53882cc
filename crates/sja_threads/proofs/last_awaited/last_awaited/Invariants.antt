use Rattle.std.proofs.Common.{◌≡◌, take}
use Rattle.sja_thread_promises.specs.Needed.{last_awaited}
use Rattle.sja_threads.proofs.last_awaited.last_awaited.Given as goal

abbrev pub invariant-loop-node : goal.invariant-loop-node
invariant-loop-node l = l.last ≡ last_awaited (take l.node l.plan.nodes)
