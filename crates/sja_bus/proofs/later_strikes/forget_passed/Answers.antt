use Rattle.std.proofs.Common.{rules}
use Rattle.sja_bus.proofs.WholeBus.Laters.{alike_kept}
use Rattle.sja_bus.proofs.later_strikes.forget_passed.Goals as goal

pub returns : goal.returns
returns c = alike_kept _ _ c.args.from (λ s b g k. search rules) _ _ c.retain.ensures.filtered
