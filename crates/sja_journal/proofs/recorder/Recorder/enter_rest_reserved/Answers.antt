use Rattle.std.proofs.Common.{replicate, arith}
use Rattle.sja_journal.specs.declared.code.Code.TheVariants.{RecessiveAsDriven}
use Rattle.sja_journal.proofs.JournalEntries.Decoding.{decoded_length}
use Rattle.sja_journal.proofs.JournalEntries.Filling.{rest_has_none, rest_decoded, whole_bits, decoded_bits}
use Rattle.sja_journal.proofs.recorder.Recorder.enter_rest_reserved.Goals as goal

pub push_copies-requires : goal.push_copies-requires
push_copies-requires c =
    let free = rw (← c.self.view_is) at c.requires.free in
    let n = decoded_length _ _ c.self.invariant.0 in omega (arith, free, n)

pub invariant_of-self : goal.invariant_of-self
invariant_of-self c =
    let f = c.self.inside in let n = c.args.count in (
      rw c.push_copies.ensures.items
          (whole_bits (replicate n RecessiveAsDriven) f.codes.items _ (rest_has_none n) c.self.invariant.0),
      c.self.invariant.1,
      rw c.push_copies.ensures.room c.self.invariant.2,
    )

pub returns-clause-entries : goal.returns-clause-entries
returns-clause-entries c =
    let n = c.args.count in
    rw (← c.self.view_is, c.push_copies.ensures.items)
    (decoded_bits (replicate n RecessiveAsDriven) c.self.inside.codes.items _ _ (rest_decoded n)
    c.self.invariant.0)
