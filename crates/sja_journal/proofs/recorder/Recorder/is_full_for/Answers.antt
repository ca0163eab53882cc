use Rattle.std.proofs.Common.{◌≤◌, ◌<◌, [], ◌∷◌, ◌++◌, length, sym, ap, subst, arith}
use Rattle.sja_journal.specs.declared.entry.Entry.{Entry}
use Rattle.sja_journal.specs.Between.{between_bits}
use Rattle.sja_journal.specs.Written.{Written, Fits}
use Rattle.sja_journal.proofs.JournalEntries.Decoding.{between_decoded}
use Rattle.sja_journal.proofs.JournalEntries.Rooms.{fits_bit, fits_more, full_of_others, is_other}
use Rattle.sja_journal.proofs.recorder.Recorder.is_full_for.Goals as goal

pub returns-in-Bit-clause-room : goal.returns-in-Bit-clause-room
returns-in-Bit-clause-room c = λ t.
    let f = c.self.inside in let own = ap length (between_decoded f.codes.items f.others.items c.self.invariant.0) in
    let most = c.self.invariant.1 in let now = c.args.self.now in
    let V : Written → Type 0 = λ w. length (between_bits w.entries) ≤ w.room.others in
    let few : V now = subst V c.self.view_is (omega (arith, own, most)) in
    let P : Entry → Type 0 = λ e. Fits now.room (now.entries ++ e ∷ []) in
    subst P (sym c.in-Bit.is)
    (fits_bit now.room now.entries c.in-Bit.field-0 c.in-Bit.field-1 few (c.is_full.ensures.room t))

pub returns-else-is_full : goal.returns-else-is_full
returns-else-is_full c =
    let f = c.self.inside in let own = ap length (between_decoded f.codes.items f.others.items c.self.invariant.0) in
    let now = c.args.self.now in
    let V : Written → Type 0 = λ w. w.room.others ≤ length (between_bits w.entries) in
    let W : Written → Type 0 = λ w. length (between_bits w.entries) < w.room.others in
    record {
      full = λ t.
          let used = c.is_full-else-is_full.ensures.full t in
          full_of_others now.room now.entries c.args.entry.now (is_other c.args.entry.now c.in_default.not-Bit)
          (subst V c.self.view_is (omega (arith, own, used)));
      room = λ t.
          let free = c.is_full-else-is_full.ensures.free t in
          fits_more now.room now.entries c.args.entry.now (subst W c.self.view_is (omega (arith, own, free)))
          (c.is_full-in_default.ensures.room c.if-is_full.false);
    }
