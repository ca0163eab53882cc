-- Nodes that read one frame together: one of them sends it, and another one has read just what the sender has, and
-- receives or sends what is the same so far. So one reader does for both while the frame's stuffed part goes on, and
-- for a node in reset, to which no level matters (this project's own rule).
use Rattle.std.specs.Prelude.{◌≡◌, ◌+◌, ◌⊎◌, ◌&&◌, ℕ, Bool, true, false, List, [], ◌∷◌, ◌++◌}
use Rattle.can_levels.specs.declared.level.Level.{Level}
use Rattle.can_levels.specs.declared.level.Level.TheVariants.{Recessive}
use Rattle.can_bits.specs.declared.shift.Shift.{Shift}
use Rattle.can_bits.specs.declared.sent_body.SentBody.{SentBody}
use Rattle.can_bits.specs.Sending.{AgreeFor, TakesInside, next_level, place_of}
use Rattle.can_bits.specs.Shifts.{StandsFor}
use Rattle.can_levels.specs.Streaming.{IsRightInside}
use Rattle.can_node.specs.declared.node.Node.{Node}
use Rattle.can_node_rules.specs.declared.role.Role.TheVariants.{Receiver}
use Rattle.can_node.specs.declared.stage.Stage.{Stage}
use Rattle.can_node.specs.declared.stage.Stage.TheVariants.{InFrame}
use Rattle.can_node_rules.specs.Context.{is_transmitter}
use Rattle.can_node.specs.Stands.{InReset, Samples, ShowsSame, is_receiving}
use Rattle.can_node_rules.specs.Outcomes.{nothing}

-- ---- what a node shows, at whatever record it stands

-- the reader of the frame that is on the bus, or came last
abbrev pub reader_of : Node → Shift
reader_of node = node.shift

-- the level that it keeps to be driven in the next bit
abbrev pub kept_level : Node → Level
kept_level node = node.next

-- the packed body of its own frame, or of the last one
abbrev pub body_of : Node → SentBody
body_of node = node.body

-- the same node with another reader
abbrev pub reading_as : Node → Shift → Node
reading_as node reader = record node { shift = reader }

-- whether it is in a frame
abbrev pub is_in_frame : Stage → Bool
is_in_frame InFrame = true
is_in_frame _ = false

-- whether it sends the frame that it is in
abbrev pub is_sending : Node → Bool
is_sending node = is_in_frame node.stage && is_transmitter node.context.role

-- a node that sends, with another reader: it drives next what comes next of its own frame
abbrev pub sending_as : Node → Shift → Node
sending_as node reader = record node { shift = reader; next = next_level reader node.body }

-- it receives a frame, drives recessive next, and has read just what this reader has
pub record HasReadAs (node : Node) (reader : Shift) : Type 0 where
  pub in_frame : node.stage ≡ InFrame
  pub receives : node.context.role ≡ Receiver
  pub drives : kept_level node ≡ Recessive
  pub same : reader_of node ≡ reader

-- it sends a frame too, has read just what the other sender has, drives the same, and the bodies of both frames have
-- the same levels from SOF on to so many places past those that are gathered: so at least the next n bits are the same,
-- since a stuff bit takes no place
pub record SendsAlike (sender : Node) (n : ℕ) (node : Node) : Type 0 where
  pub sends : is_sending node ≡ true
  pub same : reader_of node ≡ reader_of sender
  pub drives : kept_level node ≡ kept_level sender
  pub agree : AgreeFor (place_of (reader_of sender) + n) (body_of sender) (body_of node)

-- it is in reset, and drives recessive
pub record IsApart (node : Node) : Type 0 where
  pub reset : InReset node
  pub drives : kept_level node ≡ Recessive

-- for so many bits it goes on with a node that sends: it receives that frame, sends one that is alike so far, or is in
-- reset
pub data GoesWith (sender : Node) (n : ℕ) (node : Node) : Type 0 where
  receives : HasReadAs node (reader_of sender) → GoesWith sender n node
  sends : SendsAlike sender n node → GoesWith sender n node
  rests : IsApart node → GoesWith sender n node

-- the same node once another's reader has taken some bits for both, and it has that reader: a sender drives next what
-- comes next of its own frame, any other what it drove
abbrev pub gone_on : Bool → Node → Shift → Node
gone_on true node reader = sending_as node reader
gone_on false node reader = reading_as node reader

abbrev pub following : Node → Shift → Node
following node reader = gone_on (is_sending node) node reader

-- ---- the bits of the stuffed part

-- one bit of a node that sends: it sees what it drives, and nothing happens that it shows
pub record SendsBit (old : Node) (x : Level) (new : Node) : Type 0 where
  pub drives : kept_level old ≡ x
  pub samples : Samples old new x (nothing (is_receiving old))
  pub shows : ShowsSame old new
  pub takes : TakesInside (reader_of old) x (reader_of new)
  pub sends : is_sending old ≡ true

-- as many as these levels, one after the other
pub data SendsBits (old : Node) : List Level → Node → Type 0 where
  no_bit : SendsBits old [] old
  one_more : (mid new : Node) (xs : List Level) (x : Level) → SendsBits old xs mid → SendsBit mid x new →
      SendsBits old (xs ++ x ∷ []) new

-- one bit of a node that drives recessive: nothing happens that it shows, and it goes on to drive recessive
pub record ReadsBit (old : Node) (x : Level) (new : Node) : Type 0 where
  pub drives : kept_level old ≡ Recessive
  pub samples : Samples old new x (nothing (is_receiving old))
  pub shows : ShowsSame old new
  pub stays : kept_level new ≡ Recessive

-- as many as these levels, one after the other
pub data ReadsBits (old : Node) : List Level → Node → Type 0 where
  no_level : ReadsBits old [] old
  level_more : (mid new : Node) (xs : List Level) (x : Level) → ReadsBits old xs mid → ReadsBit mid x new →
      ReadsBits old (xs ++ x ∷ []) new

-- a reader takes these levels of the stuffed part, one after the other
pub data TakesBits (old : Shift) : List Level → Shift → Type 0 where
  takes_none : TakesBits old [] old
  takes_more : (mid new : Shift) (xs : List Level) (x : Level) → TakesBits old xs mid → TakesInside mid x new →
      TakesBits old (xs ++ x ∷ []) new

-- of two readers one can't take this level
abbrev pub NotBoth : Shift → Shift → Level → Type 0
NotBoth one other x =
    (l m : List Level) → StandsFor one l → StandsFor other m → (¬ IsRightInside l x) ⊎ (¬ IsRightInside m x)
