use Rattle.std.proofs.Common.{refl, subst, List, [], ◌∷◌}
use Rattle.sja_journal.specs.declared.entry.Entry.{Entry}
use Rattle.sja_replay.specs.declared.replay.Replay.{Replay}
use Rattle.sja_replay.specs.Happened.{Happened}
use Rattle.sja_replay.specs.Replaying.{left_of, IsAt, GoesOn}
use Rattle.text_wave.proofs.BitByBit.Reading.{over_on, bit_on, none_on}
use Rattle.text_wave.proofs.BitByBit.Short.{short_on}
use Rattle.text_wave.proofs.meter.Meter.advance.Goals as goal

pub returns-then-self : goal.returns-then-self
returns-then-self c = over_on _ _ c.if-self.true c.if-self.true refl refl refl

pub returns-in-Some : goal.returns-in-Some
returns-in-Some c =
    short_on _ _ c.in-Some.bit c.if-self.false c.if-self.false refl c.by-self.ensures c.in-Some.ensures.passed
    (λ before p. c.gauges_after-self.ensures c.args.self.now.replay before p)

pub returns-in-Some-next : goal.returns-in-Some-next
returns-in-Some-next c =
    let h = c.in-Some-next.bit in
    bit_on _ _ h c.if-self.false c.if-self.false refl c.of-self.ensures c.of-self-in-Some-next.ensures
    (subst (λ (r : Replay). (before : List Entry) → IsAt r before → GoesOn r c.next.new.self before (h ∷ []))
    (c.pass.ensures.none c.in_default.is) c.in-Some-next.ensures.some)

pub returns-in-None : goal.returns-in-None
returns-in-None c =
    none_on _ _ c.if-self.false refl refl refl refl
    (subst (λ (r : Replay). (before : List Entry) → IsAt r before → Happened before (left_of r) [])
    (c.pass.ensures.none c.in_default.is) c.in-None.ensures.none)
