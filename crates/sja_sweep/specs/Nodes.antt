-- The nodes of a log and their activations, by their numbers (this project's own rule).
use Rattle.std.specs.Prelude.{ℕ, List, [], slice_index_or}
use Rattle.sja_log.specs.Log.{ActivationValue, NodeValue}

-- a node of which nothing is known
abbrev pub no_node : NodeValue
no_node = record { journal = []; txerr = 0; rxerr = 0; done = []; activations = [] }

-- the node of this number, counted from 0
abbrev pub node_at : List NodeValue → ℕ → NodeValue
node_at nodes k = slice_index_or nodes k no_node

-- an activation in which no message came
abbrev pub no_activation : ActivationValue
no_activation = record { released = []; unread = [] }

-- the activation at this place, counted from 0; one that wasn't started has no message
abbrev pub activation_at : List ActivationValue → ℕ → ActivationValue
activation_at activations a = slice_index_or activations a no_activation
