use Rattle.std.proofs.Common.{◌≡◌, true, sym, subst, rules}
use Rattle.std.specs.Prelude.{is_some}
use Rattle.sja_replay.specs.declared.replay.Replay.{Replay}
use Rattle.sja_replay.specs.Silent.{PassesSilently}
use Rattle.sja_replay.proofs.BitTaken.Silent.{silent_both, silent_some, silent_rest}
use Rattle.sja_replay.proofs.replay.Replay.pass_silent.Goals as goal

pub loop-self-preserved-then-count-gt0 : goal.loop-self-preserved-then-count-gt0
loop-self-preserved-then-count-gt0 c =
    let some : is_some c.pass.result ≡ true = search rules in
    let mid = c.pass.new.self in
    let P : Replay → Type 0 = λ r. PassesSilently mid r in
    let rest = subst P (sym c.rest.ensures.new)
    (silent_rest mid c.rest_for-count.result c.rest.result c.rest.ensures.passes) in
    silent_both c.args.self.now c.loop-self.self c.rest.new.self c.loop-self.invariant
    (silent_both c.loop-self.self mid c.rest.new.self
    (silent_some c.loop-self.self mid c.pass.result some c.pass.ensures.passed) rest)

pub loop-self-preserved : goal.loop-self-preserved
loop-self-preserved c =
    let some : is_some c.pass.result ≡ true = search rules in
    silent_both c.args.self.now c.loop-self.self c.pass.new.self c.loop-self.invariant
    (silent_some c.loop-self.self c.pass.new.self c.pass.result some c.pass.ensures.passed)
