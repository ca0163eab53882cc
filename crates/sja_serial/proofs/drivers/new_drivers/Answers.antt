use Rattle.std.proofs.Common.{rules, ◌≡◌, ◌≤◌, ℕ, List, ◌+◌, sym, subst}
use Rattle.std.specs.Prelude.{slice_index_or}
use Rattle.sja_driver.specs.declared.logged_driver.LoggedDriver.{LoggedDriver}
use Rattle.sja_driver.specs.declared.work_log.WorkLog.{WorkLog}
use Rattle.sja_driver.specs.Logs.{IsEmpty, IsMadeFor}
use Rattle.sja_promises.specs.NewDrivers.{IsNewDriver, AreNew}
use Rattle.sja_promises.proofs.OneNode.Newly.{new_push}
use Rattle.sja_serial.proofs.drivers.new_drivers.Goals as goal

pub loop-node-preserved : goal.loop-node-preserved
loop-node-preserved c =
    let inv = c.loop-node.invariant in
    let x = c.new-in-loop-node.result in
    let node = c.loop-node.node in
    let own : c.new-in-loop-node.result.node ≡ node = c.new-in-loop-node.ensures.node in
    let steps : ℕ = slice_index_or c.args.steps.now node 0 in
    let size : ℕ = slice_index_or c.args.acts.now node 0 in
    let is : IsNewDriver c.args.version node steps size x = record {
      own = own;
      empty = subst (λ (l : WorkLog). IsEmpty l) (sym c.new-in-loop-node.ensures.log) c.in_ok-log.ensures.empty;
      made_for = subst (λ (l : WorkLog). IsMadeFor c.args.version steps size l) (sym c.new-in-loop-node.ensures.log)
          c.in_ok-log.ensures.made;
      kept = c.new-in-loop-node.ensures.kept;
      reset = c.new-in-loop-node.ensures.reset;
      lawful = c.new-in-loop-node.ensures.lawful;
      traces = c.new-in-loop-node.ensures.traces;
    } in
    record {
      count = search rules;
      room = search rules;
      new = subst (λ (l : List LoggedDriver). AreNew c.args.version c.args.steps.now c.args.acts.now (node + 1) l)
          (sym c.push_reserved.ensures.items)
          (new_push c.args.version c.args.steps.now c.args.acts.now node c.loop-node.drivers.items x inv.count
          inv.new is);
    }
