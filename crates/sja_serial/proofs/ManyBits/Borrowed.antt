-- A run whose links a call has as a slice.
use Rattle.std.proofs.Common.{◌≡◌, ℕ, ◌<◌, List, sym, ◌∙◌, subst}
use Rattle.sja_link.specs.Deques.{Deques}
use Rattle.sja_regs.specs.declared.registers.Registers.{Registers}
use Rattle.sja_bus_rules.specs.Buses.{BusValue}
use Rattle.sja_bus_rules.specs.Lawful.{IsBusRun}
use Rattle.sja_driver.specs.declared.logged_driver.LoggedDriver.{LoggedDriver}
use Rattle.sja_driver.specs.TypedActs.{TypedAct}
use Rattle.sja_serial.specs.Serial.{Setup, SerialValue, StandsAt}
use Rattle.sja_serial.specs.Inside.SerialProgress.{run_now}

module _ {bus : BusValue} {drivers : List LoggedDriver} {ports : List Registers}
    {slice links : List Deques} {bits : ℕ} {r : SerialValue} (same : slice ≡ links)
    (view : run_now bus drivers ports links bits ≡ r) where
  -- it is that run
  pub run_is : run_now bus drivers ports slice bits ≡ r
  run_is = (λ i. run_now bus drivers ports (same i) bits) ∙ view

  -- it stands where that run does, and has bits left where that has
  pub stands_there : (setup : Setup) (acts : List (List TypedAct)) → StandsAt setup r acts →
      StandsAt setup (run_now bus drivers ports slice bits) acts
  stands_there setup acts = subst (λ (x : SerialValue). StandsAt setup x acts) (sym run_is)

  pub left_there : (setup : Setup) → r.bits < setup.bits → bits < setup.bits
  left_there setup = subst (λ (x : SerialValue). x.bits < setup.bits) (sym run_is)

  -- and its bus has its laws where that of the run has
  pub lawful_there : IsBusRun r.bus.script r.bus.run r.bus.journals → IsBusRun bus.script bus.run bus.journals
  lawful_there = subst (λ (x : SerialValue). IsBusRun x.bus.script x.bus.run x.bus.journals) (sym view)

  -- what comes of it is what comes of that run, whose links are put back
  pub put_back : (P : SerialValue → SerialValue → Type 0) (now : BusValue) (drivers_now : List LoggedDriver)
      (ports_now : List Registers) (after back : List Deques) (bits_now : ℕ) →
      back ≡ after → P (run_now bus drivers ports slice bits)
      (run_now now drivers_now ports_now after bits_now) →
      P r (run_now now drivers_now ports_now back bits_now)
  put_back P now drivers_now ports_now after back bits_now is h =
      subst (λ (l : List Deques). P r (run_now now drivers_now ports_now l bits_now)) (sym is)
      (subst (λ (x : SerialValue). P x (run_now now drivers_now ports_now after bits_now)) run_is h)
