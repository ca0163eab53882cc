-- Places at which no bit came yet.
use Rattle.can_node.proofs.Waiting.Flags.{flags_from}
use Rattle.can_node_rules.proofs.Waiting.Delimiters.{delimits_from}
use Rattle.can_node_rules.proofs.Waiting.InterframeSpaces.{interframes_from}

pub ruleset beginnings = (flags_from, delimits_from, interframes_from)
