use Rattle.can_levels.proofs.PlaceLaws.{early_means}
use Rattle.can_levels.proofs.laws.an_early_stuff_bit_comes_before_rtr.Goals as goal

pub returns : goal.returns
returns c = early_means
