use Rattle.std.proofs.Common.{◌≡◌, ℕ, List, ap, sym, subst, length, arith}
use Rattle.std.specs.Prelude.{None}
use Rattle.std.proofs.lemmas.Result.{IfOk-weaker}
use Rattle.sja_steps.specs.declared.strike.Strike.{Strike}
use Rattle.sja_bus_rules.specs.Lawful.{IsBusRun}
use Rattle.sja_serial.specs.Serial.{SerialValue, all_acts}
use Rattle.sja_serial.proofs.AllNodes.Several.{by_own}
use Rattle.sja_serial.proofs.WholeRun.RowsAdded.{all_rows}
use Rattle.sja_serial.proofs.registers.run_registers.Goals as goal

pub rows_of-requires : goal.rows_of-requires
rows_of-requires c =
    let t = c.take_turns.ensures in let s = t.stands.by.stands in
    let n = c.nodes.ensures.value in let few = c.nodes.ensures.few in
    let steps = ap (λ (l : List ℕ). length l) s.steps in let all = s.may.nodes in
    ((t.step_runs, by_own t.stands.by), omega (arith, n, few, steps, all))

pub returns : goal.returns
returns c =
    let t = c.take_turns.ensures in let r = c.take_turns.new.run in let s = t.stands.by.stands in
    let n = c.nodes.ensures.value in let few = c.nodes.ensures.few in let plan = c.args.plan.now in
    let right = subst (λ (x : SerialValue). x.bus.fault ≡ None) (sym c.run.view_is) s.right in
    let lawful = subst (λ (x : SerialValue). IsBusRun x.bus.script x.bus.run x.bus.journals) c.run.view_is
    (c.bits_run.ensures.lawful right) in
    IfOk-weaker c.rows_of.result _ _ (λ rows told. record {
      run = r;
      step_runs = t.step_runs;
      by = t.stands.by;
      first = t.stands.first;
      end = c.take_turns.result;
      turns = t.turns;
      wire = subst (λ (l : List Strike). IsBusRun l r.bits r.bus.journals) s.script
          (subst (λ (k : ℕ). IsBusRun r.bus.script k r.bus.journals) (sym s.bits) lawful);
      told = all_rows r (all_acts t.step_runs) c.nodes.result (length plan.nodes) rows.items
          (told t.step_runs (by_own t.stands.by)) (omega (arith, n, few));
    }) c.rows_of.ensures
