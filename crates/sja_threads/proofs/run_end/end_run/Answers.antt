use Rattle.std.proofs.Common.{rules, ◌≡◌, ℕ, List, length, map, sym, ap, subst, arith}
use Rattle.std.specs.Prelude.{◌⊎◌, IfErr}
use Rattle.lemmas.proofs.Lists.{some_of}
use Rattle.sja_driver.specs.TypedActs.{TypedAct}
use Rattle.sja_log.specs.declared.run_fault.RunFault.TheVariants.{Memory, Unsettled}
use Rattle.sja_promises.specs.Runs.{IsRun}
use Rattle.sja_thread_promises.specs.Accessing.{Work, acts_done}
use Rattle.sja_threads.specs.Inside.Boards.{turns_in}
use Rattle.sja_threads.specs.Inside.EndsInOrder.{AreInOrder}
use Rattle.sja_threads.specs.Inside.Ended.{IsOver}
use Rattle.sja_threads.specs.Inside.Settling.{IsSettledLog, SomeUnsettled, all_ends}
use Rattle.sja_threads.proofs.End.EndsJoined.{stopped_after}
use Rattle.sja_thread_promises.specs.Asking.{AtNode, IsLet}
use Rattle.sja_threads.proofs.End.Unsettled.{fault_of, unsettled_run}
use Rattle.sja_threads.proofs.End.ThreadedRun.{threaded, if_both, let_by}
use Rattle.sja_threads.proofs.run_end.end_run.Goals as goal

pub settled_log-requires-clause-over : goal.settled_log-requires-clause-over
settled_log-requires-clause-over g c =
    let ending = c.requires.ending in
    let t = c.rounds_after_drivers.new.self in
    let acts : List (List TypedAct) = map (λ (w : Work). acts_done w) ending.works in (
      acts,
      subst (λ l. IsOver c.args.plan.now t.bus t.links.items l acts) (sym c.compare_all.ensures.workeds)
          (ending.over t c.in-Ok.ensures.ends.on),
    )

pub compare_all-requires-clause-told : goal.compare_all-requires-clause-told
compare_all-requires-clause-told g c =
    let many = c.requires.order.many in
    let kept = c.rounds_after_drivers.ensures.ports in
    let nodes = c.nodes.ensures.value in omega (arith, many, kept, nodes)

pub returns-in-Ok-clause-run : goal.returns-in-Ok-clause-run
returns-in-Ok-clause-run g c =
    let plan = c.args.plan.now in
    let t = c.rounds_after_drivers.new.self in
    let same = c.compare_all.ensures.workeds in
    if_both c.settled_log.result
    (λ log run is. threaded g.G.Gate.QUITS g.G.Gate.answered c.args.asked.value.items plan c.args.joined t
    c.in-Ok.end log c.requires.ending c.in-Ok.ensures.ends
    (subst (λ l. (acts : List (List TypedAct)) → IsOver plan t.bus t.links.items l acts → IsRun plan log acts) same run)
    (subst (λ l. IsSettledLog t.bus l c.in-Ok.end log) same is)
    (turns_in c.rounds_after_drivers.new.board.told.items) (c.in-Ok.ensures.told c.requires.order.told)
    (c.in-Ok.ensures.closed c.requires.order.closed)
    (subst (λ (v : ℕ). AreInOrder v (length plan.nodes) (turns_in c.rounds_after_drivers.new.board.told.items)
    c.args.joined.workeds.items) c.requires.version
    (subst (λ (n : ℕ). AreInOrder g.N.Order.version n (turns_in c.rounds_after_drivers.new.board.told.items)
    c.args.joined.workeds.items) c.nodes.ensures.value c.compare_all.ensures.order)))
    c.settled_log.ensures.run c.settled_log.ensures.log

pub returns-in-Ok-clause-let_by : goal.returns-in-Ok-clause-let_by
returns-in-Ok-clause-let_by g c =
    let plan = c.args.plan.now in
    let t = c.rounds_after_drivers.new.self in
    let same = c.compare_all.ensures.workeds in
    if_both c.settled_log.result
    (λ log run is. let_by g.G.Gate.QUITS g.G.Gate.answered c.args.asked.value.items plan c.args.joined t
    c.in-Ok.end log c.requires.ending c.in-Ok.ensures.ends
    (subst (λ l. (acts : List (List TypedAct)) → IsOver plan t.bus t.links.items l acts → IsRun plan log acts) same run)
    (subst (λ l. IsSettledLog t.bus l c.in-Ok.end log) same is)
    (turns_in c.rounds_after_drivers.new.board.told.items) (c.in-Ok.ensures.told c.requires.order.told)
    (c.in-Ok.ensures.closed c.requires.order.closed)
    (subst (λ (v : ℕ). AreInOrder v (length plan.nodes) (turns_in c.rounds_after_drivers.new.board.told.items)
    c.args.joined.workeds.items) c.requires.version
    (subst (λ (n : ℕ). AreInOrder g.N.Order.version n (turns_in c.rounds_after_drivers.new.board.told.items)
    c.args.joined.workeds.items) c.nodes.ensures.value c.compare_all.ensures.order)))
    c.settled_log.ensures.run c.settled_log.ensures.log

pub returns-in-Ok-clause-fault : goal.returns-in-Ok-clause-fault
returns-in-Ok-clause-fault g c =
    let plan = c.args.plan.now in
    let ending = c.requires.ending in
    let on = c.in-Ok.ensures.ends.on in
    fault_of plan (unsettled_run plan c.rounds_after_drivers.new.self.links.items c.args.joined.workeds.items
    ending.works on.way.ends (ending.joined _ on.sames) ending.given
    (λ node few.
    let count = (ending.joined _ on.sames).workeds_count in
    let w = some_of c.args.joined.workeds.items 0 (omega (arith, few, count)) in (ending.followed node w few).follows))
    c.settled_log.result
    (subst (λ l. IfErr c.settled_log.result (λ f. (f ≡ Memory) ⊎ ((f ≡ Unsettled)
    × SomeUnsettled c.rounds_after_drivers.new.self.links.items (all_ends l)))) c.compare_all.ensures.workeds
    c.settled_log.ensures.fault)

pub stopped-requires : goal.stopped-requires
stopped-requires g c = (
  c.args.plan.now,
  stopped_after (AtNode (IsLet g.G.Gate.QUITS g.G.Gate.answered) c.args.asked.value.items) c.args.plan.now
      c.args.joined c.rounds_after_drivers.new.self c.in-Err.stop
      c.requires.ending c.in-Err.ensures.fault,
)

pub returns-clause-fault : goal.returns-clause-fault
returns-clause-fault g c =
    c.stopped.ensures c.args.plan.now
    (stopped_after (AtNode (IsLet g.G.Gate.QUITS g.G.Gate.answered) c.args.asked.value.items) c.args.plan.now
    c.args.joined c.rounds_after_drivers.new.self c.in-Err.stop
    c.requires.ending c.in-Err.ensures.fault)
