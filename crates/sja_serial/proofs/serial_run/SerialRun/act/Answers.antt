use Rattle.std.proofs.Common.{rules, ◌≡◌, ◌<◌, List, length, arith}
use Rattle.std.specs.Prelude.{IfSome, None, Option, Some, slice_index_or, slice_set}
use Rattle.std.specs.Vec.{with_items}
use Rattle.std.proofs.lemmas.List.{length-set, with_items_is}
use Rattle.sja_driver.specs.TypedActs.{TypedAct, acts_at}
use Rattle.sja_steps.specs.declared.step_answer.StepAnswer.{StepAnswer}
use Rattle.sja_bus_rules.specs.Lawful.{IsBusRun}
use Rattle.sja_serial.specs.Serial.{StandsAt}
use Rattle.sja_serial.specs.Inside.SerialProgress.{run_now}
use Rattle.sja_serial.proofs.OneNode.NextStep.{tried_at, at_port, own_links, may_step, ends_given, links_given}
use Rattle.sja_serial.proofs.OneNode.NextStep.{none_refused}
use Rattle.sja_serial.proofs.OneNode.NextStep.{is_tried, is_tried_quietly}
use Rattle.sja_serial.proofs.OneNode.Tried.{IsTried}
use Rattle.sja_serial.proofs.serial_run.SerialRun.act.Given.{Over}
use Rattle.sja_serial.proofs.serial_run.SerialRun.act.Goals.{After-from-index, After-step-answer, In-Ok}
use Rattle.sja_serial.proofs.serial_run.SerialRun.act.Goals.{Then-gave_nothing}
use Rattle.sja_serial.proofs.serial_run.SerialRun.act.Goals as goal

-- ---- the node, and that there is room for one act more of it

node_is : {g : Over} (c : After-from-index g) → c.from-index.result ≡ c.args.node
node_is c = search rules

module _ {g : Over} (c : After-from-index g) {acts : List (List TypedAct)} (h : StandsAt g.setup c.args.self.now acts)
  where
    there : c.from-index.result < g.setup.nodes
    there = let e = node_is c in let l = c.requires.there in omega (arith, e, l)

    left : length (acts_at acts c.args.node) < slice_index_or g.setup.steps c.args.node 0 →
        length (acts_at acts c.from-index.result) < slice_index_or g.setup.steps c.from-index.result 0
    left few = rw (node_is c) few

-- the port is as it was lent, where the step is tried
as_lent : {g : Over} (c : After-step-answer g) → tried_at c.step-answer.ensures.steps ≡ c.index_mut-port.result.now
as_lent c = grind arith

pub step-answer-requires : goal.step-answer-requires
step-answer-requires g c =
    let at = (goal.at.step-answer-requires g c).After-from-index in let h = c.requires.stands in
    may_step c.as_mut_slice-links.ensures.value c.self.view_is h (there at h) c.index_mut-driver.ensures.value
    c.index_mut-port.ensures.value (own_links c.as_mut_slice-links.ensures.value c.self.view_is h (there at h)
    c.index-links-index.result) (left at h c.requires.left)

pub gather-requires : goal.gather-requires
gather-requires g c =
    let at = goal.at.gather-requires g c in let h = c.requires.stands in
    record {
      ends = ends_given c.as_mut_slice-links.ensures.value c.self.view_is h (there at.After-from-index h)
          c.index_mut-driver.ensures.value c.index_mut-port.ensures.value
          (own_links c.as_mut_slice-links.ensures.value c.self.view_is h (there at.After-from-index h)
          c.index-links-index.result) c.step-answer.ensures.stays;
      links = links_given c.as_mut_slice-links.ensures.value c.self.view_is h (there at.After-from-index h)
          c.index_mut-driver.ensures.value c.index_mut-port.ensures.value
          (own_links c.as_mut_slice-links.ensures.value c.self.view_is h (there at.After-from-index h)
          c.index-links-index.result) c.step-answer.ensures.stays;
    }

pub unreachable-requires : goal.unreachable-requires
unreachable-requires g c =
    let at = goal.at.unreachable-requires g c in let h = c.requires.stands in
    let same = as_lent at.After-step-answer in
    none_refused c.as_mut_slice-links.ensures.value c.self.view_is h (there at.After-from-index h)
    c.index_mut-driver.ensures.value c.index_mut-port.ensures.value
    (own_links c.as_mut_slice-links.ensures.value c.self.view_is h (there at.After-from-index h)
    c.index-links-index.result)
    c.gather.ensures.lawful (left at.After-from-index h c.requires.left)
    (at_port same c.step-answer.ensures.steps) c.step-answer.ensures.stays c.gather.new.self.journals
    c.gather.new.links c.in-Err.field-0 c.in-Err.ensures.reason

-- ---- what the step did

-- what is said of its answer, if it has one, of all acts
each_some : (P : StepAnswer → List (List TypedAct) → Type 0) (N H F : List (List TypedAct) → Type 0)
    (answer : Option StepAnswer) →
    ((a : StepAnswer) (acts : List (List TypedAct)) → H acts → F acts → IfSome answer (λ x. P x acts) × N acts) →
    IfSome answer (λ x. (acts : List (List TypedAct)) → H acts → F acts → P x acts)
each_some P N H F None f = tt
each_some P N H F (Some a) f = λ acts h few. (f a acts h few).0

module _ {g : Over} {acts : List (List TypedAct)} where
  did : (c : In-Ok g) (same : tried_at c.step-answer.ensures.steps ≡ c.index_mut-port.result.now) →
      StandsAt g.setup c.args.self.now acts → c.from-index.result < g.setup.nodes →
      length (acts_at acts c.from-index.result) < slice_index_or g.setup.steps c.from-index.result 0 →
      c.from-index.result ≡ c.args.node →
      let b = c.self.inside in let i = c.from-index.result in IsTried g.setup c.args.self.now
      (run_now c.gather.new.self (slice_set b.drivers.items i c.step-answer.new.self)
      (slice_set b.board.ports.items i c.step-answer.new.port)
      (with_items b.links c.gather.new.links).items b.bits) c.args.node c.args.step.now acts c.step-answer.result
  did c same stands inside few node =
      let links = c.self.inside.links in let r = c.gather.ensures in let ok = c.in-Ok.ensures in
      is_tried c.as_mut_slice-links.ensures.value c.self.view_is stands inside c.index_mut-driver.ensures.value
      c.index_mut-port.ensures.value (own_links c.as_mut_slice-links.ensures.value c.self.view_is stands inside
      c.index-links-index.result) c.gather.ensures.lawful few
      (at_port same c.step-answer.ensures.steps) c.step-answer.ensures.stays node
      (with_items_is links c.gather.new.links
      (omega (
        arith,
        c.gather.auto.links,
        length-set c.as_mut_slice-links.result.now c.from-index.result c.step-answer.new.end,
        c.as_mut_slice-links.ensures.len,
      ))) c.gather.new.self
      ok.right r.bits.0 r.script r.starts r.steps r.bits.1 r.nodes ok.kept ok.items ok.untold ok.dry r.sames

  -- where it gives nothing, nothing was taken
  did_quietly : (c : Then-gave_nothing g) (same : tried_at c.step-answer.ensures.steps ≡ c.index_mut-port.result.now)
      (laws : (let b = c.self.inside.bus in b.fault ≡ None → IsBusRun b.script b.run b.journals)) →
      StandsAt g.setup c.args.self.now acts → c.from-index.result < g.setup.nodes →
      length (acts_at acts c.from-index.result) < slice_index_or g.setup.steps c.from-index.result 0 →
      c.from-index.result ≡ c.args.node →
      let b = c.self.inside in let i = c.from-index.result in IsTried g.setup c.args.self.now
      (run_now b.bus (slice_set b.drivers.items i c.step-answer.new.self)
      (slice_set b.board.ports.items i c.step-answer.new.port)
      (with_items b.links (slice_set c.as_mut_slice-links.result.now i c.step-answer.new.end)).items b.bits) c.args.node
      c.args.step.now acts c.step-answer.result
  did_quietly c same laws stands inside few node =
      let links = c.self.inside.links in
      is_tried_quietly c.as_mut_slice-links.ensures.value c.self.view_is stands inside
      c.index_mut-driver.ensures.value c.index_mut-port.ensures.value
      (own_links c.as_mut_slice-links.ensures.value c.self.view_is stands inside c.index-links-index.result) laws few
      (at_port same c.step-answer.ensures.steps) c.step-answer.ensures.stays
      node (with_items_is links (slice_set c.as_mut_slice-links.result.now c.from-index.result c.step-answer.new.end)
      (omega (
        arith,
        length-set c.as_mut_slice-links.result.now c.from-index.result c.step-answer.new.end,
        c.as_mut_slice-links.ensures.len,
      ))) (c.gave_nothing.ensures c.if-gave_nothing.true)

pub returns-then-gave_nothing-clause-done : goal.returns-then-gave_nothing-clause-done
returns-then-gave_nothing-clause-done g c =
    let same : tried_at c.step-answer.ensures.steps ≡ c.index_mut-port.result.now = grind arith in
    let a = goal.at.returns-then-gave_nothing-clause-done g c in let at = a.After-from-index in
    each_some _ _ _ _ c.step-answer.result (λ answer acts h few. did_quietly a.Then-gave_nothing same
    c.bits_run.ensures.lawful h
    (there at h) (left at h few) (node_is at))

pub returns-then-gave_nothing-clause-waits : goal.returns-then-gave_nothing-clause-waits
returns-then-gave_nothing-clause-waits g c =
    let same : tried_at c.step-answer.ensures.steps ≡ c.index_mut-port.result.now = grind arith in λ no acts h few.
    let a = goal.at.returns-then-gave_nothing-clause-waits g c in let at = a.After-from-index in
    (did_quietly a.Then-gave_nothing same c.bits_run.ensures.lawful h (there at h) (left at h few)
    (node_is at)).1 no

pub returns-clause-done : goal.returns-clause-done
returns-clause-done g c =
    let a = goal.at.returns-clause-done g c in let at = a.After-from-index in
    each_some _ _ _ _ c.step-answer.result (λ answer acts h few. did a.In-Ok (as_lent a.After-step-answer) h
    (there at h)
    (left at h few) (node_is at))

pub returns-clause-waits : goal.returns-clause-waits
returns-clause-waits g c = λ no acts h few.
    let a = goal.at.returns-clause-waits g c in let at = a.After-from-index in
    (did a.In-Ok (as_lent a.After-step-answer) h (there at h) (left at h few) (node_is at)).1 no
