use Rattle.std.proofs.Common.{[], ◌∷◌, sym, ap, ◌∙◌, subst}
use Rattle.std.specs.Prelude.{slice_index_or}
use Rattle.sja_regs.specs.Registers.{at_power_on}
use Rattle.sja_driver.specs.TypedActs.{acts_at, with_acts}
use Rattle.sja_bus_rules.specs.Wire.{journal_at}
use Rattle.sja_driver.specs.Written.{written_then}
use Rattle.sja_serial.specs.Serial.{all_acts}
use Rattle.sja_driver.specs.WriteLists.{IsPromptIf, listed}
use Rattle.sja_steps.specs.declared.step.Step.{Step}
use Rattle.std.specs.Prelude.{Option}
use Rattle.sja_serial.proofs.TypedActs.StepRun.{never_waits}
use Rattle.sja_serial.proofs.TypedActs.Parts.{fits, one_act_more}
use Rattle.sja_serial.proofs.serial_run.SerialRun.part.Goals as goal

pub unreachable-requires : goal.unreachable-requires
unreachable-requires g c =
    let left = c.requires.1 in
    never_waits (slice_index_or c.act.new.self.ports c.args.node (at_power_on 1))
    (journal_at c.act.new.self.bus.journals c.args.node) (acts_at left.acts c.args.node) c.in-Some.step
    (subst (λ (o : Option Step). IsPromptIf o) c.in-Some.is c.requires.0)
    ((c.act.ensures.waits c.in-None.is left.acts left.stands left.left).why (at_power_on 1))

pub returns : goal.returns
returns g c = λ was step_runs more h does few.
    let there = c.requires.1.there in
    let d = c.in-Some-act.ensures.done (with_acts (all_acts step_runs) c.args.node more) does.stands
    (fits there h does few) in
    record {
      acts = d.act ∷ [];
      steps = ap (λ (t : Step). t ∷ []) d.step_is ∙ ap listed (sym c.in-Some.is);
      does = one_act_more there h does d;
      left = c.answered.ensures ∙ ap (written_then c.args.on) (sym d.answer_is);
    }
