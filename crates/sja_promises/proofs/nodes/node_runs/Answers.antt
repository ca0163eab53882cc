use Rattle.std.proofs.Common.{rules, ◌≡◌, ◌∷◌, ◌+◌, ◌<◌, List, [], length, drop, sym, ◌∙◌, subst, arith}
use Rattle.std.specs.Prelude.{slice_index_or}
use Rattle.std.specs.Vec.Iter.{into_iter_items}
use Rattle.std.proofs.lemmas.List.{get_or_default}
use Rattle.sja_link.specs.declared.older_down.OlderDown.{OlderDown}
use Rattle.sja_link.specs.Deques.{left_on}
use Rattle.sja_bus_rules.specs.declared.node_log.NodeLog.{NodeLog}
use Rattle.sja_driver.specs.declared.logged_driver.LoggedDriver.{LoggedDriver}
use Rattle.sja_log.specs.Log.{NodeValue}
use Rattle.sja_promises.specs.Finishing.{IsNodeEnd, AreNodeEnds}
use Rattle.sja_promises.specs.LeftDown.{left_of}
use Rattle.sja_promises.proofs.NodeLog.Logging.{nodes_push, keeps_push, next_of}
use Rattle.sja_promises.proofs.nodes.node_runs.Goals as goal

pub loop-log-preserved : goal.loop-log-preserved
loop-log-preserved c =
    let inv = c.loop-log.invariant in
    let logs = c.args.logs.items in
    let drivers = c.args.drivers.now in
    let lists = c.args.lists.now in
    let n = c.loop-log.node in
    let left = into_iter_items c.next.new.self in
    let e : drop n logs ≡ c.in-Some.log ∷ left = sym inv.rest ∙ c.in-Some.ensures.steps.0 in
    let next = next_of logs left n c.in-Some.log c.in-Some.log e in
    let x = c.in_ok-node_run.field-0 in
    let less : n < length drivers = let there = next.2 in let many = c.requires.drivers in omega (arith, there, many) in
    let many : n < length lists = let there = next.2 in let same = c.requires.lists in omega (arith, there, same) in
    let down : List OlderDown = slice_index_or lists n [] in
    let left_is : c.index-lists-node.result ≡ down =
    c.index-lists-node.is ∙ get_or_default lists n c.index-lists-node.result [] many in
    let is : (g : NodeLog) (d : LoggedDriver) → IsNodeEnd (slice_index_or logs n g) (slice_index_or drivers n d)
    (λ a. left_on down a) x = λ g d.
    subst (λ (l : NodeLog). IsNodeEnd l (slice_index_or drivers n d) (λ a. left_on down a) x) (sym
    (next_of logs left n c.in-Some.log g e).0)
    (subst (λ (v : LoggedDriver). IsNodeEnd c.in-Some.log v (λ a. left_on down a) x) (c.index-drivers-node.is
    ∙ get_or_default drivers n c.index-drivers-node.result d less)
    (subst (λ (l : List OlderDown). IsNodeEnd c.in-Some.log c.index-drivers-node.result (λ a. left_on l a) x) left_is
    c.in_ok-node_run.ensures.node)) in
    record {
      room = search rules;
      few = omega (arith, less);
      rest = sym next.1;
      kept = keeps_push drivers n c.index-drivers-node.result (λ d. c.index-drivers-node.is
          ∙ get_or_default drivers n c.index-drivers-node.result d less) c.in_ok-node_run.ensures.kept inv.kept;
      each = subst (λ (l : List NodeValue). AreNodeEnds logs drivers (λ k a. left_of lists k a) (n + 1) l)
          (sym c.push_reserved.ensures.items)
          (nodes_push logs drivers (λ k a. left_of lists k a) n c.loop-log.runs.items x inv.each is);
    }
