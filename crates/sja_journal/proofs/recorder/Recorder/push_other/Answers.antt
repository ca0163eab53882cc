use Rattle.std.proofs.Common.{ap, arith}
use Rattle.std.specs.Prelude.{[], ◌∷◌, length}
use Rattle.std.proofs.lemmas.List.{length-append}
use Rattle.sja_journal.specs.declared.code.Code.TheVariants.{Other}
use Rattle.sja_journal.specs.Inside.Codes.{decoded}
use Rattle.sja_journal.proofs.JournalEntries.Decoding.{decoded_length, decoded_both, between_decoded, whole_other}
use Rattle.sja_journal.proofs.JournalEntries.Rooms.{other_more}
use Rattle.sja_journal.proofs.recorder.Recorder.push_other.Goals as goal

pub push-requires : goal.push-requires
push-requires c =
    let f = c.self.inside in let room = rw (← c.self.view_is) at c.requires.room.others in
    let own = ap length (between_decoded f.codes.items f.others.items c.self.invariant.0) in
    let more = other_more (decoded f.codes.items f.others.items) c.args.entry c.requires.other in
    omega (arith, room, own, more)

pub push-requires-2 : goal.push-requires-2
push-requires-2 c =
    let f = c.self.inside in let room = rw (← c.self.view_is) at c.requires.room.all in
    let n = decoded_length f.codes.items f.others.items c.self.invariant.0 in
    let more = length-append (decoded f.codes.items f.others.items) (c.args.entry ∷ []) in
    omega (arith, room, n, more)

pub invariant_of-self : goal.invariant_of-self
invariant_of-self c =
    let f = c.self.inside in let room = rw (← c.self.view_is) at c.requires.room.others in (
      rw (c.push-2.ensures.items, c.push.ensures.items)
          (whole_other f.codes.items f.others.items c.args.entry c.self.invariant.0 c.requires.other),
      rw (c.push.ensures.items, c.push.ensures.room)
          (let own = ap length (between_decoded f.codes.items f.others.items c.self.invariant.0) in
          let more = other_more (decoded f.codes.items f.others.items) c.args.entry c.requires.other in
          let one = length-append f.others.items (c.args.entry ∷ []) in omega (arith, room, own, more, one)),
      rw (c.push.ensures.room, c.push-2.ensures.room) c.self.invariant.2,
    )

pub returns-clause-entries : goal.returns-clause-entries
returns-clause-entries c =
    let f = c.self.inside in
    rw (← c.self.view_is, c.push-2.ensures.items, c.push.ensures.items)
    (decoded_both f.codes.items (Other ∷ []) f.others.items (c.args.entry ∷ []) c.self.invariant.0)
