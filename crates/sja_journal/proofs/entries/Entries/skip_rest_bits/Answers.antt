use Rattle.std.proofs.Common.{◌≡◌, ◌≤◌, length, sym, ap, ◌∙◌, arith, rules}
use Rattle.std.proofs.lemmas.List.{take_rest}
use Rattle.sja_journal.specs.RestBits.{rest_before}
use Rattle.sja_journal.specs.Inside.Codes.{is_rest, leading}
use Rattle.sja_journal.proofs.JournalEntries.RestBits.{rest_are, skips_rest}
use Rattle.sja_journal.proofs.entries.Entries.skip_rest_bits.Goals as goal

pub slice_bounds-self-count : goal.slice_bounds-self-count
slice_bounds-self-count c =
    let codes = c.self.inside.codes.now in
    let is : rest_before c.args.self.now ≡ leading is_rest codes =
    sym (ap rest_before c.self.view_is) ∙ rest_are codes _ c.self.invariant in
    (skips_rest c.args.count codes _ c.self.invariant (omega (arith, is, c.requires))).few

pub slice_bounds-self-start : goal.slice_bounds-self-start
slice_bounds-self-start c =
    let few : c.args.count ≤ length c.self.inside.codes.now = slice_bounds-self-count c in search (rules, few)

pub invariant_of-self : goal.invariant_of-self
invariant_of-self c =
    let codes = c.self.inside.codes.now in
    let is : rest_before c.args.self.now ≡ leading is_rest codes =
    sym (ap rest_before c.self.view_is) ∙ rest_are codes _ c.self.invariant in
    let s = skips_rest c.args.count codes _ c.self.invariant (omega (arith, is, c.requires)) in
    rw (take_rest codes) s.whole

pub returns : goal.returns
returns c =
    let codes = c.self.inside.codes.now in
    let is : rest_before c.args.self.now ≡ leading is_rest codes =
    sym (ap rest_before c.self.view_is) ∙ rest_are codes _ c.self.invariant in
    let s = skips_rest c.args.count codes _ c.self.invariant (omega (arith, is, c.requires)) in
    rw (← c.self.view_is, take_rest codes) s.entries
