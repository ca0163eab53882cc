use Rattle.std.proofs.Common.{arith}
use Rattle.std.specs.Simd.Lanes.{zip2}
use Rattle.sja_journal.specs.Inside.Codes.{code_of}
use Rattle.sja_journal.proofs.JournalEntries.Decoding.{decoded_length}
use Rattle.sja_journal.proofs.JournalEntries.Filling.{whole_bits, decoded_bits}
use Rattle.sja_journal.proofs.JournalEntries.Writing.{bits_have_none, bits_decoded}
use Rattle.sja_journal.proofs.recorder.Recorder.enter_bits_reserved.Goals as goal

pub push_bits-requires-clause-free : goal.push_bits-requires-clause-free
push_bits-requires-clause-free c =
    let free = rw (← c.self.view_is) at c.requires.free in
    let n = decoded_length _ _ c.self.invariant.0 in omega (arith, free, n)

pub invariant_of-self : goal.invariant_of-self
invariant_of-self c =
    let f = c.self.inside in let driven = c.args.driven.now in let seen = c.args.seen.now in (
      rw c.push_bits.ensures.items
          (whole_bits (zip2 code_of driven seen) f.codes.items _ (bits_have_none driven seen) c.self.invariant.0),
      c.self.invariant.1,
      rw c.push_bits.ensures.room c.self.invariant.2,
    )

pub returns-clause-entries : goal.returns-clause-entries
returns-clause-entries c =
    let driven = c.args.driven.now in let seen = c.args.seen.now in
    rw (← c.self.view_is, c.push_bits.ensures.items)
    (decoded_bits (zip2 code_of driven seen) c.self.inside.codes.items _ _ (bits_decoded driven seen)
    c.self.invariant.0)
