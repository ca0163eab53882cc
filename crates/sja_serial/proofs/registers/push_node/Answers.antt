use Rattle.std.proofs.Common.{rules, ◌≡◌, ◌++◌, ◌<◌, ℕ, List, length, ap, ◌∙◌, sym, arith}
use Rattle.std.specs.Prelude.{slice_index_or}
use Rattle.std.proofs.lemmas.List.{get_or_default}
use Rattle.std.proofs.lemmas.Result.{on_ok_weaker}
use Rattle.sja_regs.specs.Registers.{at_power_on}
use Rattle.sja_regs.specs.declared.registers.Registers.{Registers}
use Rattle.sja_driver.specs.StepRuns.{StepRun}
use Rattle.sja_driver.specs.LoggedDrivers.{kept_of}
use Rattle.sja_driver.specs.declared.unmodelled_registers.UnmodelledRegisters.{UnmodelledRegisters}
use Rattle.sja_serial.specs.Registers.{kept_in, node_rows}
use Rattle.sja_serial.specs.Serial.{StandsBy, all_acts}
use Rattle.sja_serial.proofs.WholeRun.RowsAdded.{kept_is}
use Rattle.sja_serial.proofs.registers.push_node.Given.{Over}
use Rattle.sja_serial.proofs.registers.push_node.Goals.{After-push_registers}
use Rattle.sja_serial.proofs.registers.push_node.Goals as goal

place_is : {g : Over} (c : After-push_registers g) → c.from-place.result ≡ c.args.node
place_is c = search rules

-- the port is that of the run before the look
port_is : {g : Over} (c : After-push_registers g) →
    c.index-2.result.now ≡ slice_index_or c.args.run.now.ports c.args.node (at_power_on 1)
port_is c =
    let ports = c.run.inside.board.ports.items in let p = c.index-2.result.now in
    let within : c.from-place.result < length ports = search rules in
    c.index-2.ensures ∙ get_or_default ports c.from-place.result p (at_power_on 1) within
    ∙ (λ t. slice_index_or (c.run.view_is t).ports (place_is c t) (at_power_on 1))
    ∙ ap (λ (l : List Registers). slice_index_or l c.args.node (at_power_on 1)) c.seen-seen.ensures.ports

-- and so are the kept bytes
bytes_are : {g : Over} (c : After-push_registers g) → c.args.node < length c.args.run.now.drivers →
    c.kept-kept.result ≡ kept_in c.args.run.now c.args.node
bytes_are c within =
    let d = c.index.result.now in
    c.kept-kept.ensures ∙ ap kept_of c.index.ensures
    ∙ (λ t. kept_of (slice_index_or (c.run.view_is t).drivers (place_is c t) d))
    ∙ c.seen-seen.ensures.kept c.args.node d within
    ∙ sym (kept_is c.args.run.now c.args.node d within)

pub returns : goal.returns
returns g c =
    let at = (goal.at.returns g c).After-push_registers in let look = c.seen-seen.ensures in
    on_ok_weaker c.push_registers.result (λ is step_runs h. record {
      by = look.by step_runs h;
      alike = record { bus = look.bus; ports = look.ports; kept = look.kept };
      rows = let many = h.stands.count.drivers in let less = c.requires.1 in
          let bytes = bytes_are at (omega (arith, many, less)) in let seen = look.seen (all_acts step_runs) h.stands in
          is ∙ (λ t. c.args.rows.now.items ++ node_rows c.args.node (port_is at t) (bytes t) (seen t));
    }) c.push_registers.ensures
