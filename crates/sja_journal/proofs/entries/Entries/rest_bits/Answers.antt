use Rattle.std.proofs.Common.{◌≡◌, take, sym, ap, ◌∙◌, arith, rules}
use Rattle.sja_journal.specs.RestBits.{rest_before}
use Rattle.sja_journal.specs.Inside.Codes.{is_rest, leading}
use Rattle.sja_journal.proofs.JournalEntries.RestBits.{rest_front, rest_are}
use Rattle.sja_journal.proofs.entries.Entries.rest_bits.Goals as goal

pub returns-in-Some-clause-rest : goal.returns-in-Some-clause-rest
returns-in-Some-clause-rest c =
    let codes = c.self.inside.codes.now in
    let front = rest_front c.args.most codes in
    let within = front.within in
    let is : rest_before c.args.self.now ≡ leading is_rest codes =
    sym (ap rest_before c.self.view_is) ∙ rest_are codes _ c.self.invariant in
    let cut : c.in-Some.front.now ≡ take c.args.most codes = search rules in
    let count = c.leading_rest.ensures.count ∙ ap (leading is_rest) cut in
    omega (arith, within, is, count)

pub returns-in-None-clause-rest : goal.returns-in-None-clause-rest
returns-in-None-clause-rest c =
    let codes = c.self.inside.codes.now in
    let is : rest_before c.args.self.now ≡ leading is_rest codes =
    sym (ap rest_before c.self.view_is) ∙ rest_are codes _ c.self.invariant in
    omega (arith, is, c.leading_rest-in-None.ensures.count)
