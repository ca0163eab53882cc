use Rattle.text_wave.proofs.BitByBit.PastBits.{bit_taken}
use Rattle.text_wave.proofs.cursor.Cursor.take_bit.Goals as goal

pub returns-in-Some-clause-taken : goal.returns-in-Some-clause-taken
returns-in-Some-clause-taken c = λ same.
    bit_taken c.args.self.now c.next_bit.new.self c.in-Some.driven c.in-Some.seen c.in-Some.ensures.bit
