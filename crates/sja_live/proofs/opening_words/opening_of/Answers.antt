use Rattle.std.proofs.Common.{ℕ, subst}
use Rattle.sja_live.specs.Opening.{least_bits}
use Rattle.sja_plan_reading.specs.Words.{SpellsWithin}
use Rattle.sja_live.proofs.opening_words.opening_of.Goals as goal

-- ---- a number isn't one of those that there may be

pub returns-in_default-clause-err : goal.returns-in_default-clause-err
returns-in_default-clause-err c = λ line readable is.
    let v = c.args.version.now in
    let no = subst (λ (m : ℕ). (k : ℕ) → ¬ SpellsWithin 1 m v k) c.from.ensures c.in_default.ensures.err.1 in
    (readable, v, c.args.bits.now, c.args.nodes.now, is, no)

pub returns-in_default-number_within-clause-err : goal.returns-in_default-number_within-clause-err
returns-in_default-number_within-clause-err c = λ line readable is.
    let v = c.args.version.now in let b = c.args.bits.now in
    let version = subst (λ (m : ℕ). SpellsWithin 1 m v c.in-Ok.version) c.from.ensures c.in-Ok.ensures.ok in
    let no = subst (λ (m : ℕ). (k : ℕ) → ¬ SpellsWithin (least_bits c.in-Ok.version) m b k) c.most_bits.ensures.value
    (subst (λ (l : ℕ). (k : ℕ) → ¬ SpellsWithin l c.most_bits.result b k) c.least_bits.ensures
    c.in_default-number_within.ensures.err.1) in
    (readable, v, b, c.args.nodes.now, c.in-Ok.version, is, version, no)

pub returns-in_default-number_within-2-clause-err : goal.returns-in_default-number_within-2-clause-err
returns-in_default-number_within-2-clause-err c = λ line readable is.
    let v = c.args.version.now in let b = c.args.bits.now in let n = c.args.nodes.now in
    let version = subst (λ (m : ℕ). SpellsWithin 1 m v c.in-Ok.version) c.from.ensures c.in-Ok.ensures.ok in
    let bits = subst (λ (m : ℕ). SpellsWithin (least_bits c.in-Ok.version) m b c.in-Ok-number_within.bits)
    c.most_bits.ensures.value (subst (λ (l : ℕ). SpellsWithin l c.most_bits.result b c.in-Ok-number_within.bits)
    c.least_bits.ensures c.in-Ok-number_within.ensures.ok) in
    let no = subst (λ (m : ℕ). (k : ℕ) → ¬ SpellsWithin 1 m n k) c.from-2.ensures
    c.in_default-number_within-2.ensures.err.1 in
    (readable, v, b, n, c.in-Ok.version, c.in-Ok-number_within.bits, is, version, bits, no)

-- ---- all three are

pub returns-clause-ok : goal.returns-clause-ok
returns-clause-ok c = λ line is. record {
  v = c.args.version.now;
  b = c.args.bits.now;
  n = c.args.nodes.now;
  is = is;
  version = subst (λ (m : ℕ). SpellsWithin 1 m c.args.version.now c.in-Ok.version) c.from.ensures c.in-Ok.ensures.ok;
  bits = subst (λ (m : ℕ). SpellsWithin (least_bits c.in-Ok.version) m c.args.bits.now c.in-Ok-number_within.bits)
      c.most_bits.ensures.value (subst (λ (l : ℕ). SpellsWithin l c.most_bits.result c.args.bits.now
      c.in-Ok-number_within.bits) c.least_bits.ensures c.in-Ok-number_within.ensures.ok);
  nodes = subst (λ (m : ℕ). SpellsWithin 1 m c.args.nodes.now c.in-Ok-number_within-2.nodes) c.from-2.ensures
      c.in-Ok-number_within-2.ensures.ok;
}
