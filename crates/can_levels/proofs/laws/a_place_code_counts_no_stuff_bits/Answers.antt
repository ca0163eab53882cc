use Rattle.can_levels.proofs.PlaceLaws.{place_means}
use Rattle.can_levels.proofs.laws.a_place_code_counts_no_stuff_bits.Goals as goal

pub returns : goal.returns
returns c = place_means
