-- A node of a run, with what each of its bits brought (this project's own rule).
use Rattle.std.specs.Prelude.{◌≡◌, List, [], map}
use Rattle.sja_log.specs.Log.{NodeValue}
use Rattle.sja_replay.specs.declared.bit_event.BitEvent.{BitEvent}
use Rattle.sja_replay.specs.Happened.{Happened}

pub record NodeStory : Type 0 where
  pub node : NodeValue
  pub bits : List BitEvent

-- the story of a node has the bit events of its journal, by the cut of its record
pub record IsStory (n : NodeValue) (s : NodeStory) : Type 0 where
  pub node_is : s.node ≡ n
  pub bits_are : Happened [] n.journal s.bits

abbrev pub nodes_of : List NodeStory → List NodeValue
nodes_of stories = map (λ (s : NodeStory). s.node) stories
