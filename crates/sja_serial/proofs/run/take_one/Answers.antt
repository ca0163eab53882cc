use Rattle.std.proofs.Common.{rules, ℕ, true, refl, length, sym, subst}
use Rattle.sja_plan.specs.Plan.{NamesNode}
use Rattle.sja_plan.specs.declared.turn.Turn.{Turn}
use Rattle.sja_serial.specs.Bits.{TakesBusTurn, TakesRest}
use Rattle.sja_serial.specs.Inside.Rounds.{TakesIrq}
use Rattle.sja_serial.specs.Ending.{setup_of}
use Rattle.sja_serial.specs.Inside.Turning.{TakesOne}
use Rattle.sja_serial.specs.Serial.{Setup, all_acts}
use Rattle.sja_serial.proofs.AllNodes.Several.{at_own, by_own, from_own}
use Rattle.sja_serial.proofs.run.take_one.Goals as goal

pub take_steps-requires-clause-node : goal.take_steps-requires-clause-node
take_steps-requires-clause-node c =
    subst (λ (t : Turn). NamesNode (length c.args.plan.now.nodes) t) c.in-Node.is c.requires.names

pub bus_turn-requires : goal.bus_turn-requires
bus_turn-requires c = let h = c.requires.run in (all_acts h.0, at_own h.1.by.stands)

pub rest_turn-requires : goal.rest_turn-requires
rest_turn-requires c = let h = c.requires.run in (all_acts h.0, at_own h.1.by.stands)

pub returns-in-Node : goal.returns-in-Node
returns-in-Node c = λ step_runs h.
    subst (λ (t : Turn). TakesOne c.args.plan.now step_runs c.args.run.now c.take_steps.new.run t true)
    (sym c.in-Node.is)
    (c.take_steps.ensures step_runs h, refl)

pub returns-in-Bus : goal.returns-in-Bus
returns-in-Bus c = λ step_runs h.
    let acts = all_acts step_runs in
    let now = c.bus_turn.new.self in
    subst (λ (t : Turn). TakesOne c.args.plan.now step_runs c.args.run.now now t c.bus_turn.result) (sym c.in-Bus.is)
    (from_own (λ (s : Setup). TakesBusTurn s acts c.args.run.now now c.in-Bus.count c.bus_turn.result) h.by.stands
    (c.bus_turn.ensures.turn acts (at_own h.by.stands)))

pub returns-in-Rest : goal.returns-in-Rest
returns-in-Rest c = λ step_runs h.
    let acts = all_acts step_runs in
    let now = c.rest_turn.new.self in
    subst (λ (t : Turn). TakesOne c.args.plan.now step_runs c.args.run.now now t c.rest_turn.result) (sym c.in-Rest.is)
    (subst (λ (n : ℕ). TakesRest (setup_of c.args.plan.now) acts c.args.run.now now n c.rest_turn.result)
    c.bits.ensures.value
    (from_own (λ (s : Setup). TakesRest s acts c.args.run.now now c.bits.result c.rest_turn.result) h.by.stands
    (c.rest_turn.ensures.turn acts (at_own h.by.stands))))

pub irq_turn-requires : goal.irq_turn-requires
irq_turn-requires c =
    let h = c.requires.run in (
      (h.0, by_own h.1.by),
      search rules,
    )

pub returns-in-Irq : goal.returns-in-Irq
returns-in-Irq c = λ step_runs h.
    let now = c.irq_turn.new.self in
    subst (λ (t : Turn). TakesOne c.args.plan.now step_runs c.args.run.now now t c.irq_turn.result) (sym c.in-Irq.is)
    (from_own (λ (s : Setup). TakesIrq s step_runs c.in-Irq.node c.in-Irq.count c.args.run.now now c.irq_turn.result)
    h.by.stands (c.irq_turn.ensures step_runs (by_own h.by)))
