use Rattle.std.proofs.Common.{rules, ◌≡◌, ◌<◌, ℕ, true, inl, inr, sym, ap, ◌∙◌, subst, arith}
use Rattle.std.specs.Prelude.{List, length}
use Rattle.std.proofs.lemmas.Bool.{cases_eq}
use Rattle.sja_journal.specs.Carried.{bits_of}
use Rattle.sja_plan.specs.Plan.{steps_at}
use Rattle.sja_steps.specs.declared.step.Step.{Step}
use Rattle.sja_bus_rules.specs.Wire.{journal_at}
use Rattle.sja_thread_promises.specs.Needed.{most_awaited}
use Rattle.sja_thread_promises.specs.Ordering.{HasBegun}
use Rattle.sja_threads.specs.Inside.Boards.{turns_at, turns_in}
use Rattle.sja_threads.proofs.Twin.Boards.{ended_at}
use Rattle.sja_threads.proofs.bus_thread.all_begun.Goals as goal

pub loop-node-preserved : goal.loop-node-preserved
loop-node-preserved g c = λ node less.
    let n = c.loop-node.node in
    let plan = c.args.plan.now in
    let told = c.args.board.now.told.items in
    let turns = turns_in told in
    let journals = c.args.bus.now.journals in
    let right = c.requires.right in
    let ports = c.requires.ports in
    let nodes = c.requires.nodes in
    let test = c.loop-node-test.true in
    let last = c.nodes-node-end.ensures.value in
    let begun : c.has_begun.result ≡ true = search rules in
    let count = (c.bits_run-run.ensures.lawful right).wired.count n (omega (arith, test, last, nodes)) in
    let here : HasBegun (steps_at plan n) (journal_at journals n) (turns_at turns n) =
    elim (c.has_begun.ensures begun) [
      | inl started ↦ inl (c.started.ensures.yes right started).1
      | inr (inl ended) ↦ inr (inl (ended_at told n c.index-told.result.now (omega (arith, test, last, ports))
          c.index-told.ensures ended))
      | inr (inr waits) ↦ inr (inr (
          let later = c.waits_for_later-waits.ensures waits in
          let run = c.bits_run-run.ensures.value in
          let these = ap (λ (l : List Step). most_awaited l) c.steps.ensures.value in
          omega (arith, count, later, run, these)))
    ] in
    elim (cases_eq node n) [
      | inl is ↦ subst (λ k. HasBegun (steps_at plan k) (journal_at journals k) (turns_at turns k)) (sym is) here
      | inr other ↦ c.loop-node.invariant node (omega (arith, less, other))
    ]

pub returns : goal.returns
returns g c = λ is node few.
    let nodes = c.requires.nodes in
    let last = c.nodes-node-end.ensures.value in
    let over = c.loop-node-test.false in
    c.loop-node.invariant node (omega (arith, few, nodes, last, over))
