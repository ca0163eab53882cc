-- What the error code capture register ECC says of a fault (SJA1000 data sheet, 6.4.9).
use Rattle.std.specs.Prelude.{◌+◌, ◌*◌, ℕ, Bool}
use Rattle.can_levels.specs.declared.segment.Segment.{Segment}
use Rattle.can_levels.specs.Segments.{code_of}
use Rattle.can_frame.specs.Message.{bit}
use Rattle.can_node_rules.specs.declared.cause.Cause.{Cause}
use Rattle.can_node_rules.specs.declared.cause.Cause.TheVariants.{Bit, Stuff, Form, Crc, Ack}

-- bits 7 and 6 of ECC: bit error 0, form error 1, stuff error 2, other errors 3. That CRC errors and acknowledgement
-- errors are "other" is this project's own rule
abbrev pub kind_of : Cause → ℕ
kind_of Bit = 0
kind_of Form = 1
kind_of Stuff = 2
kind_of Crc = 3
kind_of Ack = 3

-- ECC: the kind of error in bits 7 and 6, bit 5 at 1 for a receiver, and the segment in bits 4 to 0
abbrev pub error_code : Cause → Segment → Bool → ℕ
error_code cause segment receiving = 64 * kind_of cause + 32 * bit receiving + code_of segment
