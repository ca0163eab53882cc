-- The error frames of SocketCAN (Linux, include/uapi/linux/can/error.h, whose names stand behind the numbers), as
-- Linux's driver of the SJA1000 makes them with berr-reporting on (drivers/net/can/sja1000/sja1000.c of 6.1,
-- sja1000_err).
use Rattle.std.specs.Prelude.{◌+◌, ◌||◌, ℕ, Bool, true, false, nat_le, min, Option, Some, None, is_some}
use Rattle.std.specs.Prelude.{List, [], ◌∷◌, ◌++◌}
use Rattle.can_levels.specs.Segments.{code_of}
use Rattle.can_node_rules.specs.declared.cause.Cause.{Cause}
use Rattle.can_node_rules.specs.declared.cause.Cause.TheVariants.{Bit, Stuff, Form, Crc, Ack}
use Rattle.can_node_rules.specs.declared.counters.Counters.{Counters}
use Rattle.can_notation.specs.Text.{hash, identifier_text, data_text}
use Rattle.text_candump.specs.declared.bus_error.BusError.{BusError}
use Rattle.text_candump.specs.declared.controller_state.ControllerState.{ControllerState}
use Rattle.text_candump.specs.declared.controller_state.ControllerState.TheVariants.{Active, Warning, Passive}
use Rattle.text_candump.specs.declared.error_frame.ErrorFrame.{ErrorFrame}
use Rattle.text_candump.specs.declared.error_frame.ErrorFrame.TheVariants.{Told, BusOff, Restarted}
use Rattle.text_candump.specs.declared.interrupt.Interrupt.{Interrupt}

-- these bits where the test holds, and else none
abbrev pub bit_if : Bool → ℕ → ℕ
bit_if true bits = bits
bit_if false bits = 0

-- ---- the identifier: the flag of error frames (CAN_ERR_FLAG, linux/can.h), and the classes of what is told

abbrev pub error_flag : ℕ
error_flag = 0x20000000

-- the controller tells of itself: a message was overrun, or its state is a new one
abbrev pub is_of_controller : Interrupt → Bool
is_of_controller i = i.overrun || is_some i.change

-- there is an error frame: some class stands in it
abbrev pub tells : Interrupt → Bool
tells i = is_some i.lost || is_of_controller i || is_some i.bus_error

-- CAN_ERR_CNT, which says that the counters are in the data; CAN_ERR_LOSTARB, CAN_ERR_CRTL, and CAN_ERR_PROT with
-- CAN_ERR_BUSERROR
abbrev pub class_bits : Bool → Bool → Bool → ℕ
class_bits lost controller bus_error =
    0x200 + bit_if lost 0x002 + bit_if controller 0x004 + bit_if bus_error 0x088

abbrev pub interrupt_classes : Interrupt → ℕ
interrupt_classes i = class_bits (is_some i.lost) (is_of_controller i) (is_some i.bus_error)

abbrev pub classes : ErrorFrame → ℕ
classes (Told i) = interrupt_classes i
classes BusOff = 0x040  -- CAN_ERR_BUSOFF
classes Restarted = 0x100  -- CAN_ERR_RESTARTED

abbrev pub error_identifier : ErrorFrame → ℕ
error_identifier e = error_flag + classes e

-- ---- data[0]: in which bit arbitration was lost, as the arbitration lost capture reads (SJA1000 data sheet, 6.4.8)

abbrev pub lost_byte : Option ℕ → ℕ
lost_byte None = 0
lost_byte (Some code) = code

-- ---- data[1]: the status of the controller. A new state is told of the counter that is greater, and of both where
-- they are equal

abbrev pub greater_status : ℕ → ℕ → Counters → ℕ
greater_status transmit receive k = bit_if (nat_le k.rec k.tec) transmit + bit_if (nat_le k.tec k.rec) receive

abbrev pub change_status : Option ControllerState → Counters → ℕ
change_status None k = 0
change_status (Some Active) k = 0x40  -- CAN_ERR_CRTL_ACTIVE
change_status (Some Warning) k = greater_status 0x08 0x04 k  -- CAN_ERR_CRTL_TX_WARNING, CAN_ERR_CRTL_RX_WARNING
change_status (Some Passive) k = greater_status 0x20 0x10 k  -- CAN_ERR_CRTL_TX_PASSIVE, CAN_ERR_CRTL_RX_PASSIVE

-- CAN_ERR_CRTL_RX_OVERFLOW where a message was overrun
abbrev pub status_byte : Interrupt → ℕ
status_byte i = bit_if i.overrun 0x01 + change_status i.change i.counters

-- ---- data[2] and data[3]: what is wrong in the protocol, and the segment, as the error code capture reads (6.4.9)

abbrev pub kind_bits : Cause → ℕ
kind_bits Bit = 0x01  -- CAN_ERR_PROT_BIT
kind_bits Form = 0x02  -- CAN_ERR_PROT_FORM
kind_bits Stuff = 0x04  -- CAN_ERR_PROT_STUFF
kind_bits Crc = 0x00  -- CAN_ERR_PROT_UNSPEC: the capture calls it "other"
kind_bits Ack = 0x00

-- CAN_ERR_PROT_TX where the node doesn't receive
abbrev pub direction_bit : Bool → ℕ
direction_bit true = 0x00
direction_bit false = 0x80

abbrev pub violation : BusError → ℕ
violation b = kind_bits b.cause + direction_bit b.receiving

abbrev pub violation_byte : Option BusError → ℕ
violation_byte None = 0
violation_byte (Some b) = violation b

abbrev pub segment_byte : Option BusError → ℕ
segment_byte None = 0
segment_byte (Some b) = code_of b.segment

-- ---- data[6] and data[7]: TEC and REC

-- an error counter in a byte
abbrev pub counter_byte : ℕ → ℕ
counter_byte counter = min counter 255

-- ---- the eight data bytes

abbrev pub interrupt_bytes : Interrupt → List ℕ
interrupt_bytes i =
    lost_byte i.lost ∷ status_byte i ∷ violation_byte i.bus_error ∷ segment_byte i.bus_error ∷ 0 ∷ 0
    ∷ counter_byte i.counters.tec ∷ i.counters.rec ∷ []

abbrev pub no_bytes : List ℕ
no_bytes = 0 ∷ 0 ∷ 0 ∷ 0 ∷ 0 ∷ 0 ∷ 0 ∷ 0 ∷ []

abbrev pub error_bytes : ErrorFrame → List ℕ
error_bytes (Told i) = interrupt_bytes i
error_bytes BusOff = no_bytes
error_bytes Restarted = no_bytes

-- ---- the text: that of an extended frame with this identifier and these bytes, as candump prints error frames

abbrev pub error_text : ErrorFrame → List ℕ
error_text e = identifier_text true (error_identifier e) ++ hash ∷ data_text (error_bytes e)
