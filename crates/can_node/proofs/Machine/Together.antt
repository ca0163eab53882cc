-- Nodes that read one frame together: what one reader takes is a bit of each of them.
use Rattle.std.proofs.Common.{◌≡◌, ◌&&◌, Bool, true, List, [], ◌∷◌, ◌++◌, refl, sym, ap, ◌∙◌, subst}
use Rattle.std.proofs.lemmas.Bool.{and_parts}
use Rattle.can_levels.specs.declared.level.Level.{Level}
use Rattle.can_bits.specs.declared.shift.Shift.{Shift}
use Rattle.can_bits.specs.Sending.{TakesInside}
use Rattle.can_bits.proofs.PackedLevels.{IsNextOf}
use Rattle.can_node.specs.declared.node.Node.{Node}
use Rattle.can_node_rules.specs.declared.role.Role.{Role}
use Rattle.can_node_rules.specs.declared.role.Role.TheVariants.{Receiver, Transmitter}
use Rattle.can_node.specs.declared.stage.Stage.{Stage}
use Rattle.can_node.specs.declared.stage.Stage.TheVariants.{InReset, Integrating, BusIdle, InFrame, LastEofBit, InFlag}
use Rattle.can_node.specs.declared.stage.Stage.TheVariants.{InDelimiter, InInterframeSpace}
use Rattle.can_node_rules.specs.Bits.{Bit}
use Rattle.can_node_rules.specs.Context.{ContextValue, is_transmitter}
use Rattle.can_node_rules.specs.Pieces.{Place}
use Rattle.can_node.specs.Stands.{Samples, ShowsSame, is_receiving}
use Rattle.can_node_rules.specs.Outcomes.{nothing}
use Rattle.can_node.specs.Together.{IsApart, ReadsBit, SendsBit, is_in_frame, is_sending, kept_level, reader_of}
use Rattle.can_node.specs.Together.{reading_as}
use Rattle.can_node.specs.Inside.Quiet.{IsQuietTurn, is_outside}
use Rattle.can_node.specs.Stages.{At}
use Rattle.can_node.specs.Standing.{context_of}
use Rattle.can_node.proofs.Machine.Ats.{at_is}
use Rattle.can_node.proofs.Machine.Quiet.{quietly}
use Rattle.can_node.proofs.Machine.QuietOutside.{outside_drives}
use Rattle.can_node.proofs.Machine.QuietPlaces.{resets_quietly}
use Rattle.can_node.proofs.Machine.QuietReceiver.{receives_inside}
use Rattle.can_node.proofs.Machine.QuietTransmitter.{transmits_inside}

pub sending_by : (node : Node) → node.stage ≡ InFrame → node.context.role ≡ Transmitter → is_sending node ≡ true
sending_by node stage transmitter =
    ap (λ (s : Stage). is_in_frame s && is_transmitter node.context.role) stage
    ∙ ap (λ (r : Role). true && is_transmitter r) transmitter

in_frame_by : (s : Stage) (b : Bool) → (is_in_frame s && b) ≡ true → s ≡ InFrame
in_frame_by InReset b e = absurd cc
in_frame_by (Integrating left run) b e = absurd cc
in_frame_by BusIdle b e = absurd cc
in_frame_by InFrame b e = refl
in_frame_by LastEofBit b e = absurd cc
in_frame_by (InFlag bits last) b e = absurd cc
in_frame_by (InDelimiter dominant recessive) b e = absurd cc
in_frame_by (InInterframeSpace bits) b e = absurd cc

pub sends_in_frame : (node : Node) → is_sending node ≡ true → node.stage ≡ InFrame
sends_in_frame node e = in_frame_by node.stage (is_transmitter node.context.role) e

pub sends_as : (node : Node) → is_sending node ≡ true → node.context.role ≡ Transmitter
sends_as node e =
    transmits node.context.role (and_parts (is_in_frame node.stage) (is_transmitter node.context.role) e).1
  where
    transmits : (r : Role) → is_transmitter r ≡ true → r ≡ Transmitter
    transmits Receiver e = absurd cc
    transmits Transmitter e = refl

-- the sender's bit
pub sends_one : (old : Node) (shift : Shift) (next : Level) → old.stage ≡ InFrame → old.context.role ≡ Transmitter →
    TakesInside (reader_of old) (kept_level old) shift → IsNextOf shift old.body next →
    SendsBit old (kept_level old) (record old { shift = shift; next = next })
sends_one old shift next stage transmitter takes next_of = record {
  drives = refl;
  samples = quietly old (record old { shift = shift; next = next }) old.next refl refl
      (transmits_inside old shift next old.next stage transmitter refl takes.right takes.stands takes.inside next_of);
  shows = record { counters = refl; phase = refl; receiving = refl; holds = refl };
  takes = takes;
  sends = sending_by old stage transmitter;
}

-- the same bit of one that has read just what the sender has
pub reads_one : (old : Node) (x : Level) (reader : Shift) → old.stage ≡ InFrame → old.context.role ≡ Receiver →
    TakesInside (reader_of old) x reader → Samples old (reading_as old reader) x (nothing (is_receiving old))
reads_one old x reader stage receiver takes =
    quietly old (reading_as old reader) x refl refl
    (receives_inside old reader x stage receiver takes.right takes.stands takes.inside)

pub reads_same : (old : Node) (reader : Shift) → ShowsSame old (reading_as old reader)
reads_same old reader = record { counters = refl; phase = refl; receiving = refl; holds = refl }

-- any bit of one in reset, whatever its reader
rests_there : (stage : Stage) (shift reader : Shift) (c now : ContextValue) (place : Place) (bits : List Bit)
    (b : Bit) → stage ≡ InReset → At stage shift c now place bits → IsQuietTurn stage reader c now place bits b
rests_there stage shift reader c now place bits b e at =
    let P : Stage → Type 0 = λ s. IsQuietTurn s reader c now place bits b in
    subst P (sym e) (resets_quietly InReset reader c now place bits b refl
    (at_is InReset stage shift c now place bits e at))

pub rests_one : (old : Node) (x : Level) (reader : Shift) → IsApart old → ReadsBit old x (reading_as old reader)
rests_one old x reader apart = record {
  drives = apart.drives;
  samples = quietly old (reading_as old reader) x refl refl
      (λ c place bits at kept body drives.
      let now = context_of old.context in let b : Bit = record { driven = old.next; seen = x } in record {
        turn = rests_there old.stage old.shift reader c now place bits b apart.reset at;
        next = outside_drives old.stage old.shift c now place bits (bits ++ b ∷ []) old.next
            (ap is_outside apart.reset) at drives;
      });
  shows = reads_same old reader;
  stays = apart.drives;
}
