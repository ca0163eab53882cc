use Rattle.sja_threads.proofs.Rounds.OnRings.{refused_few, stuck_few}
use Rattle.sja_threads.proofs.laws.a_bus_stops_on_one_of_64_links.Goals as goal

pub returns-clause-refused : goal.returns-clause-refused
returns-clause-refused c = λ counts plan after f bits steps s t. refused_few counts plan after f bits steps s t

pub returns-clause-stuck : goal.returns-clause-stuck
returns-clause-stuck c = λ counts plan after f bits steps s b is. stuck_few counts plan after f bits steps s b is
