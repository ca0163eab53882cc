use Rattle.std.proofs.Common.{◌<◌, length, rules}
use Rattle.text_wave.specs.Inside.Probes.{GoesOn}
use Rattle.lemmas.proofs.ChangedInTurn.{part_none, part_next, part_all}
use Rattle.text_wave.proofs.probes.advance_all.Goals as goal

pub loop-k-init : goal.loop-k-init
loop-k-init c = part_none GoesOn c.args.probes.now

pub loop-k-preserved : goal.loop-k-preserved
loop-k-preserved c =
    let here : c.loop-k.k < length c.loop-k.probes = search rules in
    part_next GoesOn c.loop-k.k c.args.probes.now c.loop-k.probes c.index-probes-k.result c.advance.new.self
    c.loop-k.invariant here c.advance.ensures

pub returns : goal.returns
returns c = part_all GoesOn c.loop-k.k c.args.probes.now c.loop-k.probes c.loop-k.invariant (search rules)
