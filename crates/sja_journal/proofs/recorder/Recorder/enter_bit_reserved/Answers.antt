use Rattle.std.proofs.Common.{arith}
use Rattle.std.specs.Prelude.{[], ◌∷◌}
use Rattle.sja_journal.proofs.JournalEntries.Decoding.{decoded_length}
use Rattle.sja_journal.proofs.JournalEntries.Filling.{whole_bits, decoded_bits}
use Rattle.sja_journal.proofs.recorder.Recorder.enter_bit_reserved.Goals as goal

pub push-requires : goal.push-requires
push-requires c =
    let room = rw (← c.self.view_is) at c.requires.free in
    let n = decoded_length _ _ c.self.invariant.0 in omega (arith, room, n)

pub invariant_of-self : goal.invariant_of-self
invariant_of-self c =
    let f = c.self.inside in (
      rw c.push.ensures.items
          (whole_bits (c.of_bit.result ∷ []) f.codes.items f.others.items
          (let none = c.of_bit.ensures.alone in omega (arith, none)) c.self.invariant.0),
      c.self.invariant.1,
      rw c.push.ensures.room c.self.invariant.2,
    )

pub returns-clause-entries : goal.returns-clause-entries
returns-clause-entries c =
    let f = c.self.inside in
    rw (← c.self.view_is, c.push.ensures.items)
    (decoded_bits (c.of_bit.result ∷ []) f.codes.items f.others.items _ c.of_bit.ensures.bit c.self.invariant.0)
