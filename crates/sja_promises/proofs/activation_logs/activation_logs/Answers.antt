use Rattle.std.proofs.Common.{rules, ◌+◌, List, sym, subst}
use Rattle.sja_link.specs.Deques.{left_on}
use Rattle.sja_log.specs.Log.{ActivationValue}
use Rattle.sja_promises.specs.Finishing.{AreActivations}
use Rattle.sja_promises.proofs.NodeLog.Logging.{activations_push}
use Rattle.sja_promises.proofs.activation_logs.activation_logs.Goals as goal

pub loop-ended-preserved : goal.loop-ended-preserved
loop-ended-preserved c =
    let inv = c.loop-ended.invariant in
    let driver = c.args.driver.now in
    let left = c.args.left_down.now in
    let n = c.loop-ended.ended in
    record {
      room = search rules;
      all = inv.all;
      each = subst (λ (l : List ActivationValue). AreActivations driver (λ a. left_on left a) (n + 1) l)
          (sym c.push_reserved.ensures.items)
          (activations_push driver (λ a. left_on left a) n c.loop-ended.logs.items c.in_ok-activation_log.field-0
          inv.each c.in_ok-activation_log.ensures);
    }
