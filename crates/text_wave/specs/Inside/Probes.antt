-- The nodes of a run, gone over together bit by bit.
use Rattle.std.specs.Prelude.{◌≡◌, ◌<◌, ◌≤◌, ℕ, zero, suc, List, [], ◌∷◌, ◌++◌}
use Rattle.lemmas.specs.Related.{EachRelated}
use Rattle.sja_log.specs.Log.{NodeValue, RunValue}
use Rattle.sja_replay.specs.declared.bit_event.BitEvent.{BitEvent}
use Rattle.text_wave.specs.declared.meter.Meter.{Meter}
use Rattle.text_wave.specs.declared.probe.Probe.{Probe}
use Rattle.text_wave.specs.Stories.{NodeStory, IsStory, nodes_of}
use Rattle.text_wave.specs.Views.{view_in}
use Rattle.text_wave.specs.WaveText.{first_values, changes_to, changes_of}
use Rattle.text_wave.specs.Inside.Cursors.{advanced, opened, cursor_at}
use Rattle.text_wave.specs.Inside.Meters.{gauges_of, HasRead, IsReading, ReadsOn, ReadsAll}

-- ---- a node

-- before its first bit
pub record Begins (n : NodeValue) (p : Probe) : Type 0 where
  pub cursor : p.cursor ≡ opened n
  pub has : HasRead n.journal 0 p.meter []

-- what the numbers showed a bit before
abbrev pub ShowedBefore : ℕ → Meter → List BitEvent → Type 0
ShowedBefore zero m hs = Unit {0}
ShowedBefore (suc k) m hs = m.showed ≡ gauges_of (view_in k hs)

-- at bit k a probe shows what its node's story has there, and a bit before
pub record Shows (k : ℕ) (p : Probe) (s : NodeStory) : Type 0 where
  pub cursor : p.cursor ≡ cursor_at k s.node
  pub shows : p.meter.shows ≡ gauges_of (view_in k s.bits)
  pub showed : ShowedBefore k p.meter s.bits

-- it stands there, and has read the part of the story that is told
pub record IsAtBit (k : ℕ) (p : Probe) (s : NodeStory) : Type 0 where
  pub shows : Shows k p s
  pub has : HasRead s.node.journal (suc k) p.meter s.bits

-- a node's probe at its first bit
pub record BeginsAt (n : NodeValue) (p : Probe) : Type 0 where
  pub story : NodeStory
  pub node_is : story.node ≡ n
  pub at : IsAtBit 0 p story

-- up to bit k a story shows what its part shows
pub record IsSameTo (k : ℕ) (old new : NodeStory) : Type 0 where
  pub node_is : new.node ≡ old.node
  pub same : (i : ℕ) → i ≤ k → view_in i new.bits ≡ view_in i old.bits

-- ---- it goes on

pub record GoesOn (old new : Probe) : Type 0 where
  pub cursor : new.cursor ≡ advanced old.cursor
  pub meter : ReadsOn old.meter new.meter

abbrev pub Finishes : Probe → Probe → Type 0
Finishes old new = ReadsAll old.meter new.meter

-- each can be read to its end
abbrev pub AreReading : List Probe → Type 0
AreReading [] = Unit {0}
AreReading (p ∷ probes) = IsReading p.meter × AreReading probes

-- ---- all nodes

-- at the first bit
pub record AreFirst (nodes : List NodeValue) (probes : List Probe) : Type 0 where
  pub parts : List NodeStory
  pub nodes_are : nodes_of parts ≡ nodes
  pub at : EachRelated (IsAtBit 0) probes parts

-- whatever stories come of the parts told so far, the text is that of their bits up to k
pub record HaveGone (k : ℕ) (first : List NodeStory) (probes : List Probe) (start text : List ℕ) : Type 0 where
  pub parts : List NodeStory
  pub at : EachRelated (IsAtBit k) probes parts
  pub same : EachRelated (IsSameTo 0) first parts
  pub text_is : (stories : List NodeStory) → EachRelated (IsSameTo k) parts stories →
      text ≡ start ++ changes_to k stories

-- it goes on from one bit to another, before the last one
pub record GoesFurther (last bit next : ℕ) (olds news : List Probe) (old new : List ℕ) : Type 0 where
  pub further : bit < next
  pub within : next ≤ last
  pub gone : (first : List NodeStory) (start : List ℕ) → HaveGone bit first olds start old →
      HaveGone next first news start new

-- the same of all bits
pub record HaveEnded (bits : ℕ) (first : List NodeStory) (probes : List Probe) (start text : List ℕ) : Type 0 where
  pub parts : List NodeStory
  pub at : EachRelated (IsAtBit bits) probes parts
  pub same : EachRelated (IsSameTo 0) first parts
  pub text_is : (stories : List NodeStory) → EachRelated (IsSameTo bits) parts stories →
      text ≡ start ++ changes_of bits stories

-- behind the declarations stand the values of all bits, for stories that the nodes have
pub record ShowsAll (log : RunValue) (start text : List ℕ) : Type 0 where
  pub stories : List NodeStory
  pub are : EachRelated IsStory log.nodes stories
  pub text_is : text ≡ (start ++ first_values stories) ++ changes_of log.bits stories
