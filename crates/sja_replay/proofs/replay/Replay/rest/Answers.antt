use Rattle.sja_replay.proofs.BitTaken.Rested.{rested_is, rests_on}
use Rattle.sja_replay.proofs.replay.Replay.rest.Goals as goal

pub returns-clause-new : goal.returns-clause-new
returns-clause-new c = rested_is c.args.self.now c.args.count _ _ c.skip_rest_bits.ensures

pub returns-clause-passes : goal.returns-clause-passes
returns-clause-passes c = λ i before early at.
    rests_on c.args.self.now c.args.count i c.short.result before c.requires c.short.ensures early at
