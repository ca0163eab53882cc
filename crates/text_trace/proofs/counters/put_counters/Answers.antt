use Rattle.std.proofs.Common.{◌≡◌, ◌==◌, ◌&&◌, ◌++◌, ◌∙◌, not, ℕ, Bool, List, codes, decimal, sym, ap, ap₂, arith}
use Rattle.can_node_rules.specs.declared.counters.Counters.{Counters}
use Rattle.text_trace.specs.BitEvents.{have_same, counters_text}
use Rattle.text_trace.proofs.BitSaid.Sayings.{tells_not, tells_if}
use Rattle.text_trace.proofs.counters.put_counters.Goals as goal

-- the counters that are compared, and told, are those after the bit
compared : (same : Bool) (old new : Counters) (tec rec : ℕ) → same ≡ ((old.tec == tec) && (old.rec == rec)) →
    tec ≡ new.tec → rec ≡ new.rec → same ≡ have_same old new
compared same old new tec rec is t r = is ∙ ap₂ (λ x y. (old.tec == x) && (old.rec == y)) t r

told : (was now : List ℕ) (new : Counters) (tec rec : ℕ) →
    now ≡ was ++ (codes "tec " ++ (decimal tec ++ (codes " rec " ++ decimal rec))) → tec ≡ new.tec → rec ≡ new.rec →
    now ≡ was ++ counters_text new
told was now new tec rec wrote t r =
    wrote ∙ ap₂ (λ x y. was ++ (codes "tec " ++ (decimal x ++ (codes " rec " ++ decimal y)))) t r

pub returns-then-have_same : goal.returns-then-have_same
returns-then-have_same c =
    let h = c.args.bit.now in
    let same = compared _ h.before.counters h.after.counters _ _ c.have_same.ensures (omega arith) (omega arith) in
    tells_not _ _ _ (ap not (sym same ∙ c.if-have_same.true))

pub returns : goal.returns
returns c =
    let h = c.args.bit.now in
    let same = compared _ h.before.counters h.after.counters _ _ c.have_same.ensures (omega arith) (omega arith) in
    tells_if _ _ _ _ _ (ap not (sym same ∙ c.if-have_same.false)) c.in_ok-begin.ensures.text
    (told _ _ h.after.counters _ _ c.in_ok-write.ensures.bytes (omega arith) (omega arith)) c.in_ok-begin.ensures.begun
