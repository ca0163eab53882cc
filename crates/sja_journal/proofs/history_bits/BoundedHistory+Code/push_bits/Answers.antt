use Rattle.std.proofs.Common.{List, ◌≡◌, ◌-◌, ◌++◌, ◌∙◌, length, take, drop, replicate, ap, sym, append_assoc, arith}
use Rattle.std.specs.Prelude.{is_ok}
use Rattle.std.specs.Simd.Lanes.{zip2}
use borrow.Rule.Slice.PartMut.{put_mid}
use Rattle.std.proofs.lemmas.List.{length-append, length-replicate}
use Rattle.std.proofs.lemmas.Simd.{length-zip2}
use Rattle.sja_journal.specs.declared.code.Code.{Code}
use Rattle.sja_journal.specs.declared.code.Code.TheVariants.{RecessiveAsDriven}
use Rattle.sja_journal.specs.Inside.Codes.{code_of}
use Rattle.sja_journal.proofs.JournalEntries.Filling.{filled_up}
use Rattle.sja_journal.proofs.JournalEntries.Writing.{part_length, written}
use Rattle.sja_journal.proofs.history_bits.BoundedHistory+Code.push_bits.Goals.{After-as_mut_slice, After-write_bits}
use Rattle.sja_journal.proofs.history_bits.BoundedHistory+Code.push_bits.Goals as goal

-- the codes were filled up
filled : (c : After-as_mut_slice) → c.resize.new.self.items ≡ c.self.inside.items.items
    ++ replicate (length c.args.seen.now) RecessiveAsDriven
filled c =
    let f = c.self.inside in let n = length c.args.seen.now in
    let fits = c.self.invariant.reserved in let free = c.self.invariant.fits in
    let few = c.if-seen-self.false in let ok = f.items.ok.0 in let used = c.len-used.ensures in
    filled_up RecessiveAsDriven f.items.items c.resize.new.self.items (is_ok c.resize.result) c.len-used.result
    f.items.len n (c.resize.ensures.succeeds (omega (arith, fits, free, few, ok, used))) used ok
    c.resize.ensures.items

part : (c : After-as_mut_slice) → length c.args.seen.now ≡ length (take (length c.as_mut_slice.result.now
    - c.len-used.result) (drop c.len-used.result c.as_mut_slice.result.now))
part c =
    let n = length c.args.seen.now in
    part_length RecessiveAsDriven c.self.inside.items.items c.resize.new.self.items c.as_mut_slice.result.now
    c.len-used.result n (filled c) c.as_mut_slice.ensures.value (c.len-used.ensures ∙ c.self.inside.items.ok.0)
    (length-replicate n RecessiveAsDriven)

pub write_bits-requires-clause-driven : goal.write_bits-requires-clause-driven
write_bits-requires-clause-driven c =
    c.requires.each ∙ part (goal.at.write_bits-requires-clause-driven c).After-as_mut_slice

pub write_bits-requires-clause-seen : goal.write_bits-requires-clause-seen
write_bits-requires-clause-seen c = part (goal.at.write_bits-requires-clause-seen c).After-as_mut_slice

-- the codes are those before, and those of the bits
codes_are : (c : After-write_bits) → c.resize.new.self.items ≡ c.self.inside.items.items
    ++ replicate (length c.args.seen.now) RecessiveAsDriven → take c.resize.new.self.len
    (put_mid c.len-used.result (length c.as_mut_slice.result.now - c.len-used.result) c.as_mut_slice.result.now
    c.write_bits.new.codes
    ++ drop (length (put_mid c.len-used.result (length c.as_mut_slice.result.now - c.len-used.result)
    c.as_mut_slice.result.now c.write_bits.new.codes)) c.resize.new.self.items)
    ≡ c.self.inside.items.items ++ zip2 code_of c.args.driven.now c.args.seen.now
codes_are c before =
    let n = length c.args.seen.now in let each = c.requires.each in
    let size = length-zip2 code_of c.args.driven.now c.args.seen.now each in
    let now = ap (λ (l : List Code). length l) c.write_bits.ensures in
    written RecessiveAsDriven c.self.inside.items.items c.resize.new.self.items c.as_mut_slice.result.now
    c.write_bits.new.codes c.len-used.result c.resize.new.self.len n
    before
    c.as_mut_slice.ensures.value (c.len-used.ensures ∙ c.self.inside.items.ok.0) c.resize.new.self.ok.0
    (length-replicate n RecessiveAsDriven) (omega (arith, size, now, each))
    ∙ ap (λ l. c.self.inside.items.items ++ l) c.write_bits.ensures

pub invariant_of-self : goal.invariant_of-self
invariant_of-self c =
    let at = goal.at.invariant_of-self c in
    let is = codes_are at.After-write_bits (filled at.After-as_mut_slice) in
    let f = c.self.inside in let capacity = c.resize.ensures.capacity in let v = c.self.invariant in
    let each = c.requires.each in let size = length-zip2 code_of c.args.driven.now c.args.seen.now each in
    let both = length-append f.items.items (zip2 code_of c.args.driven.now c.args.seen.now) in
    let few = c.if-seen-self.false in let ok = f.items.ok.0 in let used = c.len-used.ensures in
    let fits = v.fits in let reserved = v.reserved in rw is (record {
      fits = omega (arith, both, size, each, few, ok, used, fits);
      reserved = omega (arith, reserved, capacity);
      within = v.within;
      counted = v.counted;
      spare = v.spare;
      last = λ none. v.last (omega (arith, none, both));
      none = v.none;
      whole = v.whole;
    })

pub returns-clause-items : goal.returns-clause-items
returns-clause-items c =
    let at = goal.at.returns-clause-items c in
    let is = codes_are at.After-write_bits (filled at.After-as_mut_slice) in
    let f = c.self.inside in
    rw (← c.self.view_is, is) (sym (append_assoc f.dropped.items f.items.items _))
