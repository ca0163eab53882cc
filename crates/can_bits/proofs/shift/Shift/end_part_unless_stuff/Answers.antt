use Rattle.can_bits.proofs.Reader.Take.{whole_here}
use Rattle.can_bits.proofs.shift.Shift.end_part_unless_stuff.Goals as goal

pub returns-then-self-ne-RUN-clause-stands : goal.returns-then-self-ne-RUN-clause-stands
returns-then-self-ne-RUN-clause-stands c l w h g count full = whole_here h c.if-self-ne-RUN.true full g count
