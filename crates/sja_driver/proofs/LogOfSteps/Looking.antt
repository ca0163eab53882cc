-- A look at the present link: log and links go on with no act.
use Rattle.std.proofs.Common.{◌≡◌, ◌+◌, ℕ, List, [], length, refl, sym, ap, ◌∙◌, subst, append-nil, arith}
use Rattle.std.specs.Prelude.{false, None}
use Rattle.sja_link.specs.declared.link_id.LinkId.{LinkId}
use Rattle.sja_journal.specs.Lists.{Lists, on, OthersStand}
use Rattle.sja_regs.specs.declared.registers.Registers.{Registers}
use Rattle.sja_regs.specs.Registers.{at_power_on}
use Rattle.sja_steps.specs.declared.step.Step.TheVariants.{Sent}
use Rattle.sja_driver.specs.declared.active.Active.{Active}
use Rattle.sja_driver.specs.declared.any_driver.AnyDriver.{AnyDriver}
use Rattle.sja_driver.specs.declared.any_driver.AnyDriver.TheVariants.{InReset, InActive}
use Rattle.sja_driver.specs.declared.driver.Driver.{Driver}
use Rattle.sja_driver.specs.declared.logged_driver.LoggedDriver.{LoggedDriver}
use Rattle.sja_driver.specs.declared.work_log.WorkLog.{WorkLog}
use Rattle.sja_driver.specs.Acting.{ActsOn}
use Rattle.sja_driver.specs.AnyDrivers.{IsDriverOf, link_used}
use Rattle.sja_driver.specs.Calls.{TakesIn}
use Rattle.sja_driver.specs.TypedActs.{TypedAct}
use Rattle.sja_driver.specs.Drivers.{activation_in, held_in, off_in}
use Rattle.sja_driver.specs.Holding.{Goes, HoldsBy}
use Rattle.sja_driver.specs.Logs.{Traces, left_in}
use Rattle.sja_driver.specs.LoggedDrivers.{node_of, driver_of, log_of, kept_of, ended_of, IsLawful, StaysLawful}
use Rattle.sja_driver.specs.Observing.{Observes, Looked}
use Rattle.sja_driver.specs.Tries.Tried.{Unmet}
use Rattle.sja_driver.proofs.Step.Came.{goes_step}
use Rattle.sja_driver.proofs.Step.Observed.{place_kept, opened_kept}
use Rattle.sja_driver.proofs.Step.Releasing.{does_pull}

-- out of reset a look is what a wait does that isn't met: at registers with TBS 0, over an end of which nothing more is
-- asked
abbrev waiting : ℕ → Registers
waiting version = record (at_power_on version) { tbs = false }

waits_as : {E : Type 0} (version : ℕ) (stands : E → ℕ → Lists → Type 0) (dry : E → ℕ → Type 0) (old new : E)
    (was now : Driver Active) → TakesIn stands dry old new was now → OthersStand stands (activation_in was) old new →
    ActsOn (λ a b. Unit {0}) stands dry (λ e n. Unit {0}) old new (waiting version) (waiting version) Sent
    (InActive was) (InActive now) Unmet
waits_as version stands dry old new was now t others = record {
  does = does_pull (on stands (activation_in was)) old new (held_in was) (held_in now) (off_in was) (off_in now) t.got;
  still = tt;
  port = refl;
  fits = tt;
  sees = tt;
  tells = tt;
  looks = tt;
  waits = (refl, refl, record { at = new; same = (tt, others); pulls = t.got; all = t.all });
  kind = tt;
  out = refl;
  opens = ap (λ (l : LinkId). l.activation) t.link;
  place = λ node n h. t.link ∙ h ∙ ap (λ m. record { node = node; activation = m + 1 }) (omega arith);
  quiet = tt;
}

-- with no act more nothing changes
goes_still : {E : Type 0} (version : ℕ) (stands : E → ℕ → Lists → Type 0) (was : AnyDriver) (log : WorkLog) (end : E) →
    Goes stands version was was log log end end []
goes_still version stands was log end = record {
  traces = λ t h. subst (λ (ds : List TypedAct). Traces version was log ds) (sym (append-nil t)) h;
  holds = λ t j h k. subst (λ (ds : List TypedAct). HoldsBy stands ds was log j end) (sym (append-nil t)) k;
}

goes_look : {E : Type 0} (version : ℕ) (stands : E → ℕ → Lists → Type 0) (dry : E → ℕ → Type 0) (was now : AnyDriver)
    (log : WorkLog) (old new : E) (node : ℕ) → IsDriverOf node (length (left_in log)) was →
    Observes stands dry old new was now → OthersStand stands (link_used was) old new →
    Goes stands version was now log log old new []
goes_look version stands dry (InReset was) now log old new node own o others =
    rw (o.0, o.1) (goes_still version stands (InReset was) log old)
goes_look version stands dry (InActive was) (InReset now) log old new node own o others = absurd o
goes_look version stands dry (InActive was) (InActive now) log old new node own o others =
    goes_step (λ a b. Unit {0}) stands dry (λ e n. Unit {0}) (InActive was) (InActive now) log log node 0
    (waiting version) (waiting version) Sent old new Unmet (record {
      own = own;
      acts = waits_as version stands dry old new was now o others;
      others = others;
      released = sym (append-nil _);
      left = sym (append-nil _);
    })

-- a look at the present link
pub looked_by : {E : Type 0} (stands : E → ℕ → Lists → Type 0) (dry : E → ℕ → Type 0) (was now : LoggedDriver)
    (old new : E) → IsLawful was → log_of now ≡ log_of was →
    Observes stands dry old new (driver_of was) (driver_of now) →
    OthersStand stands (link_used (driver_of was)) old new → Looked stands dry was now old new
looked_by stands dry was now old new lawful log o others = record {
  observes = o;
  log = log;
  goes = λ version. rw log (goes_look version stands dry (driver_of was) (driver_of now) (log_of was) old new
      (node_of was) lawful.own o others);
}

-- and all stays in order
pub stays_looked : {E : Type 0} (alike : E → E → Type 0) (stands : E → ℕ → Lists → Type 0) (dry : E → ℕ → Type 0)
    (was now : LoggedDriver) (old new : E) → IsLawful was → node_of now ≡ node_of was → kept_of now ≡ kept_of was →
    log_of now ≡ log_of was → alike old new → OthersStand stands (link_used (driver_of was)) old new →
    Observes stands dry old new (driver_of was) (driver_of now) → StaysLawful alike stands was now old new None
stays_looked alike stands dry was now old new lawful owner kept log same others o = record {
  same = same;
  others = others;
  node = owner;
  lawful = record {
    own = rw (owner, log) (place_kept stands dry old new (driver_of was) (driver_of now) (node_of was) (ended_of was) o
        lawful.own);
    few = rw (opened_kept stands dry old new (driver_of was) (driver_of now) o, log) lawful.few;
  };
  room = λ version n room. rw log (record {
    releases = let h = room.releases in omega (arith, h);
    left = room.left;
  });
  done = ap (λ l. l.done) log;
  kept = kept;
  waits = λ waited version n room. rw log room;
}
