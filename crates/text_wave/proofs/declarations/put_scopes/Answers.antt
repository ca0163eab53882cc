use Rattle.std.proofs.Common.{◌≤◌, ◌<◌, length, refl, arith}
use Rattle.text_wave.specs.WaveText.{node_scope}
use Rattle.text_report.proofs.WrittenLines.Written.{numbered_end}
use Rattle.text_wave.proofs.SoFar.Written.{scopes_next}
use Rattle.text_wave.proofs.declarations.put_scopes.Goals as goal

pub loop-number-init : goal.loop-number-init
loop-number-init c = λ bus stories long. refl

pub loop-number-preserved : goal.loop-number-preserved
loop-number-preserved c = λ bus stories long.
    let less : c.loop-number.number < length stories = omega (arith, long) in
    scopes_next bus stories c.loop-number.number _ _ _ less (c.in_ok-put_scope.ensures bus)
    (c.loop-number.invariant bus stories long)

pub returns : goal.returns
returns c = λ bus stories long.
    let past : length stories ≤ c.loop-number.number = omega (arith, long) in
    numbered_end (node_scope bus) stories c.loop-number.number c.loop-number.number _ _ past
    (c.loop-number.invariant bus stories long)
