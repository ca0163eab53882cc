use Rattle.std.proofs.Common.{ℕ, List, length, ap, sym, subst, arith}
use Rattle.sja_serial.specs.Serial.{Setup, StandsBy, all_acts}
use Rattle.sja_serial.proofs.AllNodes.Several.{at_own, by_own, from_own}
use Rattle.sja_session.specs.Lines.{Looks}
use Rattle.sja_session.specs.Sessions.{SessionValue, session_of, IsAt, plan_with}
use Rattle.sja_session.proofs.BitsDone.Looked.{looks, still_at}
use Rattle.sja_session.proofs.BitsDone.AfterBits.{session_at}
use Rattle.sja_session.proofs.WrittenPlan.OneMore.{listed}
use Rattle.sja_session.proofs.session.Session.irq.Goals as goal

pub irq-requires : goal.irq-requires
irq-requires c =
    let inv = c.self.invariant.0 in let near = c.if-from-nodes.false in let n = c.nodes.ensures.value in
    let many = inv.at.stands.stands.count.drivers in let count = inv.at.count in
    let all = inv.at.stands.stands.may.nodes in let steps = ap (λ (l : List ℕ). length l) inv.at.stands.stands.steps in
    ((all_acts inv.step_runs, at_own inv.at.stands.stands), omega (arith, near, n, count, all, steps))

-- a look at the run is one at the session
pub returns-clause-line : goal.returns-clause-line
returns-clause-line c = λ step_runs h.
    let b = c.self.inside in
    let own = subst (λ (s : SessionValue). IsAt s step_runs) (sym c.self.view_is) h in
    subst (λ (s : SessionValue). Looks s (session_of b.room c.irq.new.self (plan_with b.plan b.bits b.struck.items)
    (listed b.steps.items) b.turns.items)
    c.args.node c.irq.result step_runs) c.self.view_is
    (looks (plan_with b.plan b.bits b.struck.items) b.run c.irq.new.self (listed b.steps.items) b.turns.items
    c.irq.ensures.bits
    (λ l stands. from_own (λ (x : Setup). StandsBy x c.irq.new.self l) stands.stands
    (c.irq.ensures.by l (by_own stands))) c.args.node c.irq.result
    step_runs own c.irq.ensures.bus c.irq.ensures.ports (λ m d less. c.irq.ensures.kept m d
    (let k = own.stands.stands.count.drivers in omega (arith, less, k)))
    (c.irq.ensures.line (all_acts step_runs) (at_own own.stands.stands)))

pub invariant_of-self : goal.invariant_of-self
invariant_of-self c =
    let b = c.self.inside in let inv = c.self.invariant.0 in (
      session_at c.irq.new.self (plan_with b.plan b.bits b.struck.items).strikes inv
          (still_at (plan_with b.plan b.bits b.struck.items) b.run c.irq.new.self (listed b.steps.items) b.turns.items
          c.irq.ensures.bits
          (λ l stands. from_own (λ (x : Setup). StandsBy x c.irq.new.self l) stands.stands
          (c.irq.ensures.by l (by_own stands))) inv.step_runs inv.at),
      c.self.invariant.1,
    )
