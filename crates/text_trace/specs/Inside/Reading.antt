-- Nodes that receive a frame and have read just the same of it, told by one reader: a node trace stays behind it, and
-- the one that it stands for has gone on.
use Rattle.std.specs.Prelude.{◌≡◌, ◌+◌, ℕ, suc, Bool, true, false, if◌then◌else◌, List, [], ◌++◌, map}
use Rattle.can_levels.specs.declared.level.Level.{Level}
use Rattle.can_levels.specs.declared.level.Level.TheVariants.{Recessive}
use Rattle.can_bits.specs.declared.shift.Shift.{Shift}
use Rattle.can_node.specs.Stands.{shown_counters}
use Rattle.lemmas.specs.Related.{EachRelated}
use Rattle.sja_replay.specs.Reading.{Receives, Hears, HearsOn, reading}
use Rattle.text_report.specs.ReportLines.{numbered}
use Rattle.text_trace.specs.declared.node_trace.NodeTrace.{NodeTrace}
use Rattle.text_trace.specs.Telling.{at_hand}
use Rattle.text_trace.specs.TraceText.{steps_due}
use Rattle.text_trace.specs.TraceProgress.{HasSameSteps}
use Rattle.text_trace.specs.Hands.{counters_of, driven_of}
use Rattle.text_trace.specs.Passing.{NodeTracePasses, told_lines, hands_text}

-- ---- one node

-- a node trace whose node receives a frame, and one in its place whose node has gone on to where this reader is
pub record IsBehind (reader : Shift) (t v : NodeTrace) : Type 0 where
  pub receives : Receives t.bits.replay
  pub under : t.bits.over ≡ false
  pub alike : counters_of t.short (at_hand t.bits) ≡ shown_counters t.bits.replay.node
  pub steps : v.steps ≡ t.steps
  pub left : counters_of v.short (at_hand v.bits) ≡ counters_of t.short (at_hand t.bits)
  pub bits : v.bits ≡ record t.bits { replay = reading reader t.bits.replay }

-- so it is with one that is marked; any other stands for itself
pub record Stands (reader : Shift) (t v : NodeTrace) : Type 0 where
  pub behind : t.reads ≡ true → IsBehind reader t v
  pub own : t.reads ≡ false → v ≡ record t { reads = v.reads }

-- it was marked, or isn't behind the reader
abbrev pub Marks : Shift → NodeTrace → NodeTrace → Type 0
Marks reader t marked = Stands reader marked t

-- one that isn't marked went on past a bit
pub record OtherPasses (old new : NodeTrace) : Type 0 where
  pub reads : new.reads ≡ old.reads
  pub passes : old.reads ≡ false → NodeTracePasses old new
  pub kept : old.reads ≡ true → new ≡ old

-- of one that is marked the next bit has this level, and no step stands right before it
pub record HearsNext (bus : Level) (bit : ℕ) (t : NodeTrace) : Type 0 where
  pub hears : Hears t.bits.replay bus
  pub quiet : (node : ℕ) → steps_due false bit node 1 t.steps.steps.now t.steps.done.now ≡ []

abbrev pub MayHear : Level → ℕ → NodeTrace → Type 0
MayHear bus bit t = t.reads ≡ true → HearsNext bus bit t

-- it went on past that bit, but for the reader of its node
pub record HasHeard (old new : NodeTrace) : Type 0 where
  pub reads : new.reads ≡ old.reads
  pub same : HasSameSteps old.steps new.steps
  pub short : new.short ≡ old.short
  pub over : new.bits.over ≡ old.bits.over
  pub hand : at_hand new.bits ≡ at_hand old.bits
  pub hears : HearsOn old.bits.replay new.bits.replay

pub record HearsOne (old new : NodeTrace) : Type 0 where
  pub heard : old.reads ≡ true → HasHeard old new
  pub kept : old.reads ≡ false → new ≡ old

-- one that is marked went on to where the reader is, and past a bit
pub record PassesFrom (reader : Shift) (old new : NodeTrace) : Type 0 where
  pub passes : old.reads ≡ true →
      NodeTracePasses (record old { bits = record old.bits { replay = reading reader old.bits.replay } }) new
  pub kept : old.reads ≡ false → new ≡ old

-- ---- all nodes

-- the level that a node drives; one that is marked receives, and drives recessive
abbrev pub other_driven : NodeTrace → Level
other_driven t = if t.reads then Recessive else driven_of t.short (at_hand t.bits)

abbrev pub others_driven : List NodeTrace → List Level
others_driven node_traces = map (λ (t : NodeTrace). other_driven t) node_traces

-- the lines of those that aren't marked
abbrev pub other_line : Level → ℕ → ℕ → NodeTrace → List ℕ
other_line bus bit node t = if t.reads then [] else told_lines bus bit node t

abbrev pub other_lines : Level → ℕ → List NodeTrace → List ℕ
other_lines bus bit node_traces = numbered (other_line bus bit) 0 node_traces

-- ---- bits

-- past one bit the node traces in the place of others went on, and its lines were written. They stand for those that
-- are behind the reader still; or none is behind it
abbrev pub RowGoesOn : ℕ → List NodeTrace → List ℕ → Bool → Shift → List NodeTrace → List ℕ → Type 0
RowGoesOn bit vs old true reader now new =
    (ws : List NodeTrace) × EachRelated NodeTracePasses vs ws × EachRelated (Stands reader) now ws
    × (new ≡ old ++ hands_text bit ws)
RowGoesOn bit vs old false reader now new =
    EachRelated NodeTracePasses vs now × (new ≡ old ++ hands_text bit now)

-- they went on past so many bits from this one on, one behind the other, and the lines of each were written
pub data TellsBits (bit : ℕ) (was : List NodeTrace) (begun : List ℕ) : ℕ → List NodeTrace → List ℕ → Type 0 where
  none : TellsBits bit was begun 0 was begun
  one_more : (n : ℕ) (mid now : List NodeTrace) (old new : List ℕ) → TellsBits bit was begun n mid old →
      EachRelated NodeTracePasses mid now → new ≡ old ++ hands_text (bit + n) now →
      TellsBits bit was begun (suc n) now new

-- so far: others may stand in the node traces' place
abbrev pub HaveToldBits : ℕ → List NodeTrace → List ℕ → ℕ → Bool → Shift → List NodeTrace → List ℕ → Type 0
HaveToldBits bit was begun n true reader now text =
    (vs : List NodeTrace) × TellsBits bit was begun n vs text × EachRelated (Stands reader) now vs
HaveToldBits bit was begun n false reader now text = TellsBits bit was begun n now text
