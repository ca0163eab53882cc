use Rattle.std.proofs.Common.{◌≡◌, ◌++◌, ℕ, false, Some, None, List, [], ◌∷◌, length, sym, ap, ◌∙◌, subst, arith}
use Rattle.sja_journal.specs.Lists.{on, is_on, same_on}
use Rattle.sja_regs.specs.declared.registers.Registers.{Registers}
use Rattle.sja_regs.specs.DriverSettings.{HasSettings}
use Rattle.sja_driver.specs.AnyDrivers.{link_used}
use Rattle.sja_driver.specs.LoggedDrivers.{driver_of, MayStep}
use Rattle.sja_thread_promises.specs.declared.port_act.PortAct.{PortAct}
use Rattle.sja_thread_promises.specs.Ordering.{LedBy, active_by, done_in_order}
use Rattle.sja_threads.specs.Inside.Names.{IsNamed}
use Rattle.sja_threads.specs.Inside.Ordered.{set_after}
use Rattle.sja_threads.proofs.Twin.TypedActs.{has_done, same_done}
use Rattle.sja_threads.proofs.Twin.Led.{led_act, led_none, led_version, set_push}
use Rattle.sja_threads.proofs.locked_port.LockedPort.try_act.Goals as goal

-- the port is of the version of the driver's list
pub step-requires : goal.step-requires
step-requires g c =
    let may = c.requires.may in
    subst (λ (v : ℕ). MayStep g.D.DriverEnd.node v c.args.driver.now c.args.end.now)
    (c.args.done.now.version_is
    ∙ sym (led_version g.N.Order.version c.self.inside.turns.list c.self.inside.acts.list c.self.inside.port
    c.self.invariant.led)) may

pub invariant_of-self : goal.invariant_of-self
invariant_of-self g c =
    let inv = c.self.invariant in
    let same = c.agree.ensures.kept in
    let steps = c.step.ensures.steps in
    let e = g.D.DriverEnd in
    let used = link_used (driver_of c.args.driver.now) in record {
      turns = inv.turns;
      acts = subst (λ (n : ℕ). IsNamed g.N.Order.acts c.self.inside.node n) (sym (ap (λ k. k.name) same)) inv.acts;
      bits = inv.bits;
      led = subst (λ (l : List PortAct). LedBy g.N.Order.version c.self.inside.turns.list l c.step.new.port)
          (sym (ap (λ k. k.list) same))
          (led_none (same_on e.same e.stands used) (on e.stands used) (is_on e.dry used) (is_on e.full used) _ _
          c.self.inside.port c.step.new.port c.args.act.now (driver_of c.args.driver.now) (driver_of c.step.new.self)
          g.N.Order.version c.self.inside.turns.list
          c.self.inside.acts.list steps.tried inv.led steps.acts (sym steps.met ∙ c.in_default.is));
    }

pub returns-in_default-clause-has : goal.returns-in_default-clause-has
returns-in_default-clause-has g c =
    subst (λ (p : Registers). HasSettings p (set_after c.args.done.now.version c.args.done.now.known.list))
    (ap (λ v. v.registers) c.self.view_is)
    (has_done c.args.done.now c.self.inside.turns.list c.self.inside.acts.list c.self.inside.port c.self.invariant.led
    c.agree.ensures.same)

pub returns-in_default-clause-waits : goal.returns-in_default-clause-waits
returns-in_default-clause-waits g c = same_done c.args.done.now c.agree.new.known c.agree.ensures.known _ _

pub invariant_of-self-2 : goal.invariant_of-self-2
invariant_of-self-2 g c =
    let inv = c.self.invariant in
    let same = c.agree.ensures.kept in
    let steps = c.step.ensures.steps in
    let e = g.D.DriverEnd in
    let a = c.add.ensures in
    let one : PortAct =
    record { step = c.copy.result; answer = c.copy-2.result; set = c.settings.result; bits = c.self.inside.bits } in
    let used = link_used (driver_of c.args.driver.now) in record {
      turns = inv.turns;
      acts = subst (λ (n : ℕ). IsNamed g.N.Order.acts c.self.inside.node n)
          (sym (a.kept_name ∙ ap (λ k. k.name) same)) inv.acts;
      bits = inv.bits;
      led = subst (λ (l : List PortAct). LedBy g.N.Order.version c.self.inside.turns.list l c.step.new.port)
          (sym (a.kept ∙ ap (λ k. k.list ++ one ∷ []) same))
          (led_act (same_on e.same e.stands used) (on e.stands used) (is_on e.dry used) (is_on e.full used) _ _
          c.self.inside.port c.step.new.port c.args.act.now (driver_of c.args.driver.now) (driver_of c.step.new.self)
          g.N.Order.version c.self.inside.turns.list
          c.self.inside.acts.list steps.tried one inv.led
          (ap (λ (l : List PortAct). active_by false (done_in_order l)) c.agree.ensures.same ∙ c.requires.active)
          steps.acts (sym steps.met ∙ c.in-Some.is ∙ ap Some (sym c.copy-2.ensures)) c.copy.ensures
          c.settings.ensures inv.bits);
    }

pub returns-clause-has : goal.returns-clause-has
returns-clause-has g c =
    subst (λ (p : Registers). HasSettings p (set_after c.args.done.now.version c.args.done.now.known.list))
    (ap (λ v. v.registers) c.self.view_is)
    (has_done c.args.done.now c.self.inside.turns.list c.self.inside.acts.list c.self.inside.port c.self.invariant.led
    c.agree.ensures.same)

pub returns-clause-set : goal.returns-clause-set
returns-clause-set g c =
    let one : PortAct =
    record { step = c.copy.result; answer = c.copy-2.result; set = c.settings.result; bits = c.self.inside.bits } in
    ap (λ l. set_after c.args.done.now.version l) c.add.ensures.known
    ∙ set_push c.args.done.now.version c.agree.new.known.list one ∙ c.settings.ensures
