use Rattle.std.proofs.Common.{rules, ◌≡◌, ◌<◌, ℕ, List, length, refl, sym, ap, ◌∙◌, subst, arith}
use Rattle.std.specs.Prelude.{slice_index_or, slice_set}
use Rattle.sja_journal.specs.declared.entry.Entry.{Entry}
use Rattle.sja_regs.specs.declared.registers.Registers.{Registers}
use Rattle.sja_regs.specs.Registers.{at_power_on}
use Rattle.sja_steps.specs.declared.step_record.StepRecord.{StepRecord}
use Rattle.sja_driver.specs.declared.unmodelled_registers.UnmodelledRegisters.{UnmodelledRegisters}
use Rattle.sja_driver.specs.declared.logged_driver.LoggedDriver.{LoggedDriver}
use Rattle.sja_driver.specs.StepRuns.{StepRun}
use Rattle.sja_driver.specs.TypedActs.{TypedAct, acts_at, is_active}
use Rattle.sja_driver.specs.LoggedDrivers.{IsLawful, kept_of, log_of}
use Rattle.sja_journal.specs.BoundedHistories.{HistoryValue}
use Rattle.sja_promises.specs.Registering.{StepRunsLeadTo, seen_now}
use Rattle.sja_bus_rules.specs.Wire.{journal_at}
use Rattle.sja_serial.specs.Serial.{SerialValue, StandsAt, StandsBy, HasStepRuns, all_acts}
use Rattle.sja_serial.specs.Inside.SerialProgress.{run_now}
use Rattle.sja_serial.proofs.AllNodes.Several.{each_as, some_links}
use Rattle.sja_serial.proofs.ManyBits.Borrowed.{run_is, stands_there}
use Rattle.sja_serial.proofs.OneNode.Observed.{stands, seen_is}
use Rattle.sja_serial.proofs.OneNode.Standing.{same_node}
use Rattle.sja_serial.proofs.serial_run.SerialRun.seen.Given.{Over}
use Rattle.sja_serial.proofs.serial_run.SerialRun.seen.Goals.{After-seen}
use Rattle.sja_serial.proofs.serial_run.SerialRun.seen.Goals as goal

-- ---- the node

node_is : {g : Over} (c : After-seen g) → c.from-index.result ≡ c.args.node
node_is c = search rules

there : {g : Over} (c : After-seen g) → c.from-index.result < g.setup.nodes
there c = let e = node_is c in let l = c.requires.1 in omega (arith, e, l)

-- ---- that it may look

pub seen-requires : goal.seen-requires
seen-requires g c =
    let i = c.from-index.result in
    let h = stands_there refl c.self.view_is g.setup c.requires.0.0 c.requires.0.1 in
    let e : i ≡ c.args.node = search rules in let l = c.requires.1 in
    let less : i < g.setup.nodes = omega (arith, e, l) in
    let n = h.nodes i c.index_mut.result.now (at_power_on 1) some_links less in
    record {
      lawful = subst (λ (d : LoggedDriver). IsLawful d) (sym c.index_mut.ensures.value) n.traced.lawful;
      own = same_node h less c.index_mut.ensures.value c.index_mut-end.ensures.value;
    }

-- ---- what comes of it

-- what is said of the steps of a node hangs on its driver's list of them and on its kept bytes
has_step_runs_as : {version room : ℕ} {j : List Entry} {step_runs : List StepRun} {p : Registers}
    (was now : LoggedDriver) → (log_of now).done ≡ (log_of was).done → kept_of now ≡ kept_of was →
    HasStepRuns version room j step_runs was p → HasStepRuns version room j step_runs now p
has_step_runs_as {version} {room} {j} {step_runs} {p} was now done kept h = record {
  led = subst (λ (k : UnmodelledRegisters). StepRunsLeadTo version j step_runs k p) (sym kept) h.led;
  done = h.done ∙ ap (λ v. v.items) (sym done);
  room = ap (λ (v : HistoryValue StepRecord). v.room) done ∙ h.room;
}

-- it stands at the same acts
same_acts : {g : Over} (c : After-seen g) {acts : List (List TypedAct)} → StandsAt g.setup c.args.self.now acts →
    let b = c.self.inside in StandsAt g.setup (run_now b.bus
    (slice_set b.drivers.items c.from-index.result c.seen.new.self) b.board.ports.items
    (slice_set b.links.items c.from-index.result c.seen.new.end) b.bits) acts
same_acts {g} c {acts} h =
    let at = c in
    stands (stands_there refl c.self.view_is g.setup acts h) (there at) c.index_mut.ensures.value
    c.index_mut-end.ensures.value c.seen.ensures.looked c.seen.ensures.stays

pub returns-clause-stands : goal.returns-clause-stands
returns-clause-stands g c = λ acts h. same_acts (goal.at.returns-clause-stands g c).After-seen h

pub returns-clause-by : goal.returns-clause-by
returns-clause-by g c = λ step_runs h.
    let at = (goal.at.returns-clause-by g c).After-seen in let b = c.self.inside in
    let i = c.from-index.result in let drivers = b.drivers.items in let now = c.seen.new.self in
    let own = stands_there refl c.self.view_is g.setup (all_acts step_runs) h.stands in
    let many : i < length drivers = let k = own.count.drivers in let t = there at in omega (arith, k, t) in
    let here = subst (λ (r : SerialValue). StandsBy g.setup r step_runs) (sym c.self.view_is) h in
    record {
      stands = same_acts at h.stands;
      nodes = λ m d p less. has_step_runs_as (slice_index_or drivers m d) (slice_index_or (slice_set drivers i now) m d)
          (each_as (λ (x : LoggedDriver). (log_of x).done) drivers i now c.index_mut.result.now m d many
          (c.seen.ensures.stays.done ∙ ap (λ x. (log_of x).done) c.index_mut.ensures.value))
          (each_as kept_of drivers i now c.index_mut.result.now m d many
          (c.seen.ensures.stays.kept ∙ ap kept_of c.index_mut.ensures.value)) (here.nodes m d p less);
    }

pub returns-clause-kept : goal.returns-clause-kept
returns-clause-kept g c = λ m d less.
    let at = (goal.at.returns-clause-kept g c).After-seen in let b = c.self.inside in
    let i = c.from-index.result in let drivers = b.drivers.items in
    let own = stands_there refl c.self.view_is g.setup c.requires.0.0 c.requires.0.1 in
    let many : i < length drivers = let k = own.count.drivers in let t = there at in omega (arith, k, t) in
    each_as kept_of drivers i c.seen.new.self c.index_mut.result.now m d many
    (c.seen.ensures.stays.kept ∙ ap kept_of c.index_mut.ensures.value)
    ∙ ap (λ (r : SerialValue). kept_of (slice_index_or r.drivers m d)) c.self.view_is

pub returns-clause-seen : goal.returns-clause-seen
returns-clause-seen g c = λ acts h.
    let at = (goal.at.returns-clause-seen g c).After-seen in let ports = c.self.inside.board.ports.items in
    let own = stands_there refl c.self.view_is g.setup acts h in
    let run = run_is refl c.self.view_is in
    c.seen.ensures.seen
    ∙ seen_is own (there at) c.index_mut.ensures.value c.index_mut-end.ensures.value c.seen.ensures.looked
    c.seen.ensures.stays (c.bits_run.ensures.lawful own.right)
    (slice_index_or ports c.from-index.result (at_power_on 1))
    ∙ (λ t. seen_now (is_active (acts_at acts (node_is at t))) (journal_at (run t).bus.journals (node_is at t))
    (acts_at acts (node_is at t)))
