use Rattle.std.proofs.Common.{◌≡◌, ◌<◌, ℕ, false}
use Rattle.sja_session.specs.Inside.Risen.{risen}
use Rattle.sja_session.proofs.watching.first_risen.Given as goal

-- none so far
abbrev pub invariant-loop-node : goal.invariant-loop-node
invariant-loop-node l = (k : ℕ) → k < l.node → risen l.watched l.before l.now k ≡ false
