-- The headline of a run at any moment, by what its bus promises of all journals.
use Rattle.std.proofs.Common.{◌≡◌, ℕ, suc, ◌+◌, ◌<◌, List, ◌++◌, length, ap, ◌∙◌, arith}
use Rattle.std.specs.Prelude.{slice_index_or}
use Rattle.sja_journal.specs.declared.entry.Entry.{Entry}
use Rattle.sja_journal.specs.Accounts.{Account}
use Rattle.sja_link.specs.Deques.{Deques, down_on}
use Rattle.sja_journal.specs.Places.{place_of}
use Rattle.sja_journal.specs.Verdicts.{IsLawful}
use Rattle.sja_regs.specs.declared.registers.Registers.{Registers}
use Rattle.sja_regs.specs.Registers.{at_power_on}
use Rattle.sja_steps.specs.declared.strike.Strike.{Strike}
use Rattle.sja_bus_rules.specs.Lawful.{IsBusRun}
use Rattle.sja_bus_rules.specs.Wire.{journal_at}
use Rattle.sja_driver.specs.declared.logged_driver.LoggedDriver.{LoggedDriver}
use Rattle.sja_driver.specs.AnyDrivers.{opened_of}
use Rattle.sja_driver.specs.TypedActs.{TypedAct, given_in, acts_of, acts_at}
use Rattle.sja_driver.specs.LoggedDrivers.{driver_of, log_of}
use Rattle.sja_driver.specs.Logs.{releases_in, released_of}
use Rattle.sja_promises.specs.Finishing.{held_after, activation_after}
use Rattle.sja_promises.specs.Nodes.{IsNode}
use Rattle.sja_promises.specs.Settling.{IsSettled}
use Rattle.sja_promises.proofs.Account.Accounts.{headline_of}
use Rattle.sja_promises.proofs.Trace.Windows.{settled_kept}
use Rattle.sja_serial.specs.Accounts.{IsAccountNow, AreAccountsNow}
use Rattle.sja_serial.specs.Serial.{Setup, SerialValue, StandsAt}

-- ---- one node

module _ (version size : ℕ) (j : List Entry) (acts : List TypedAct) (driver : LoggedDriver) (port : Registers)
    (links : Deques) (h : IsNode version size j acts driver port links) where
  -- what it released in an activation, what it holds and what lies on the link are those of the journal's part
  pub settled_now : (a : ℕ) → IsSettled j (a + 1) (activation_after driver (down_on links (a + 1)) a)
  settled_now a =
      let holds = h.linked.holds in
      let accounts : ℕ → Account = λ b. record { got = holds.got b; given = given_in (acts_of acts (suc b)) } in
      let one : suc a ≡ a + 1 = omega arith in
      let told = holds.told a
      ∙ ap (λ n. released_of (releases_in (log_of driver)) n ++ held_after driver a) one in
      settled_kept j links accounts holds.kept a (released_of (releases_in (log_of driver)) (a + 1))
      (held_after driver a) h.linked.taken told

  begun : (place_of j).activation ≡ opened_of (driver_of driver)
  begun = h.linked.level.begun ∙ h.traced.traces.opened

  account_now : IsLawful j → IsAccountNow j driver links
  account_now lawful = record {
    found = lawful.found;
    cut = lawful.cut;
    begun = begun;
    headline = λ others a cut less.
        let o = begun in
        headline_of others j (a + 1) (activation_after driver (down_on links (a + 1)) a)
        (lawful.verdicts others cut) (omega arith) (omega (arith, o, less)) (settled_now a);
  }

-- ---- all nodes

pub accounts_now : (setup : Setup) (r : SerialValue) (acts : List (List TypedAct)) (script : List Strike) (run : ℕ) →
    StandsAt setup r acts → IsBusRun script run r.bus.journals → AreAccountsNow r
accounts_now setup r acts script run h bus = λ node d l less.
    let drivers = h.count.drivers in let journals = h.count.journals in
    account_now setup.version (slice_index_or setup.steps node 0) (journal_at r.bus.journals node)
    (acts_at acts node) (slice_index_or r.drivers node d) (slice_index_or r.ports node (at_power_on 1))
    (slice_index_or r.links node l) (h.nodes node d (at_power_on 1) l (omega (arith, drivers, less)))
    (bus.lawful node (omega (arith, drivers, journals, less)))
