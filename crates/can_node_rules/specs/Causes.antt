-- The causes of the faults of a line.
use Rattle.can_levels.specs.declared.line_fault.LineFault.{LineFault}
use Rattle.can_levels.specs.declared.line_fault.LineFault.TheVariants.{Stuff as StuffFault, Form as FormFault}
use Rattle.can_levels.specs.declared.line_fault.LineFault.TheVariants.{Crc as CheckFault, NoAck, Truncated, Trailing}
use Rattle.can_node_rules.specs.declared.cause.Cause.{Cause}
use Rattle.can_node_rules.specs.declared.cause.Cause.TheVariants.{Stuff as StuffError, Form as FormError}
use Rattle.can_node_rules.specs.declared.cause.Cause.TheVariants.{Crc as CheckError}

-- the cause of a receiver's fault; level by level none of the last three is told while a frame goes on
abbrev pub cause_by : LineFault → Cause
cause_by (StuffFault at) = StuffError
cause_by CheckFault = CheckError
cause_by (FormFault at) = FormError
cause_by NoAck = FormError
cause_by Truncated = FormError
cause_by (Trailing at) = FormError
