-- What holds of the bits of all nodes, however they go on.
use Rattle.std.specs.Prelude.{◌<◌, ◌≤◌, ℕ, List, [], ◌∷◌}
use Rattle.lemmas.specs.Related.{EachRelated}
use Rattle.sja_log.specs.Log.{NodeValue}
use Rattle.sja_replay.specs.declared.bit_event.BitEvent.{BitEvent}
use Rattle.sja_replay.specs.ReplayProgress.{HasCome}
use Rattle.text_trace.specs.declared.node_trace.NodeTrace.{NodeTrace}
use Rattle.text_trace.specs.Telling.{HaveSame}
use Rattle.text_picture.specs.declared.node_rows.NodeRows.{NodeRows}
use Rattle.text_picture.specs.declared.page.Page.{Page}
use Rattle.text_picture.specs.declared.span.Span.{Span}
use Rattle.text_picture.specs.Pages.{IsDrawn}

-- after so many bits the node trace of a node has told these bit events
abbrev pub HasBits : NodeValue → ℕ → NodeTrace → List BitEvent → Type 0
HasBits n bits t hs = HasCome t.bits.over n.journal bits t.bits.replay hs

-- those of all nodes
abbrev pub HaveBits : ℕ → List NodeValue → List NodeTrace → List (List BitEvent) → Type 0
HaveBits bits [] [] [] = Unit {0}
HaveBits bits [] [] (s ∷ stories) = ⊥
HaveBits bits [] (t ∷ node_traces) stories = ⊥
HaveBits bits (n ∷ nodes) [] stories = ⊥
HaveBits bits (n ∷ nodes) (t ∷ node_traces) [] = ⊥
HaveBits bits (n ∷ nodes) (t ∷ node_traces) (s ∷ stories) = HasBits n bits t s × HaveBits bits nodes node_traces stories

-- these begin as those do that were told
abbrev pub Begin : ℕ → List (List BitEvent) → List (List BitEvent) → Type 0
Begin bits stories told = EachRelated (HaveSame bits) stories told

-- the node traces are before this bit, and G holds of all that begins as they told
pub record Knows (nodes : List NodeValue) (bit : ℕ) (ts : List NodeTrace) (G : List (List BitEvent) → Type 0) : Type 0
  where
    pub stories : List (List BitEvent)
    pub have : HaveBits bit nodes ts stories
    pub holds : (told : List (List BitEvent)) → Begin bit stories told → G told

-- a picture goes on from one bit to another
pub record GoesOn (span : Span) (bit next : ℕ) (olds news : List NodeTrace) (were are : List NodeRows)
    (old new : Page) :
    Type 0 where
  pub further : bit < next
  pub within : next ≤ span.end
  pub draws : (nodes : List NodeValue) → Knows nodes bit olds (IsDrawn span bit old were) →
      Knows nodes next news (IsDrawn span next new are)
