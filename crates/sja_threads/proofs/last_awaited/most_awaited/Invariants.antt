use Rattle.std.proofs.Common.{◌≡◌, take}
use Rattle.sja_thread_promises.specs.Needed.{most_awaited}
use Rattle.sja_threads.proofs.last_awaited.most_awaited.Given as goal

abbrev pub invariant-loop-step : goal.invariant-loop-step
invariant-loop-step l = l.most ≡ most_awaited (take l.step-index l.steps)
