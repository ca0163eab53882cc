-- Why bits up to the first that a port is told of ended.
use Rattle.std.proofs.Common.{◌≡◌, ◌+◌, ℕ, false, List, inl, inr, subst, arith}
use Rattle.std.specs.Prelude.{◌⊎◌}
use Rattle.sja_link.specs.Deques.{Deques}
use Rattle.sja_bus.specs.Boards.{HasOrders}
use Rattle.sja_bus.specs.UntilTold.{EndsUntilTold as EndsOnBus}
use Rattle.sja_bus.specs.UntilTold.EndsUntilTold.{no_more as none_on_bus, told as told_on_bus}
use Rattle.sja_bus.proofs.AllNodes.UntilTold.{held_of, none_of}
use Rattle.sja_driver.specs.declared.logged_driver.LoggedDriver.{LoggedDriver}
use Rattle.sja_driver.specs.TypedActs.{TypedAct}
use Rattle.sja_serial.specs.Serial.{Setup, SerialValue, StandsAt, IsRunOf}
use Rattle.sja_serial.specs.Inside.SerialProgress.{run_now}
use Rattle.sja_serial.specs.UntilTold.{EndsUntilTold, TakesUntilTold, NoneTold}
use Rattle.sja_serial.specs.UntilTold.EndsUntilTold.{no_more, told, alone}
use Rattle.sja_serial.proofs.ManyBits.ManyBits.{SerialMoment, ports}
use Rattle.sja_serial.proofs.ManyBits.Telling.{run_told}
use Rattle.sja_serial.proofs.WholeRun.GoingOn.{bits_run}

-- as those of the bus did
pub ended_told : (count n : ℕ) (was now : SerialMoment) (drivers : List LoggedDriver)
    (links back : List Deques) (bits run : ℕ) (r : SerialValue) →
    run_now was.bus drivers was.board.ports.items links bits ≡ r →
    EndsOnBus ports false count was n now → EndsUntilTold count r n
    (run_now now.bus drivers now.board.ports.items back run)
ended_told count n was now drivers links back bits run r view ends =
    subst (λ (x : SerialValue). EndsUntilTold count x n
    (run_now now.bus drivers now.board.ports.items back run)) view (by_bus ends)
  where
    by_bus : EndsOnBus ports false count was n now → EndsUntilTold count
        (run_now was.bus drivers was.board.ports.items links bits) n
        (run_now now.bus drivers now.board.ports.items back run)
    by_bus (none_on_bus why) = no_more why
    by_bus (told_on_bus node turn few is last) = told node turn few is last

-- ---- of as many as are left of those that were asked for

module _ {setup : Setup} {was : SerialValue} (run : IsRunOf setup was) (most count : ℕ) where
  left_there : (most ≡ count) ⊎ (was.bits + most ≡ setup.bits) → (most ≡ count) ⊎ (most ≡ was.bus.left)
  left_there (inl all) = inl all
  left_there (inr few) = let left = run.1.all_bits in let bits = run.1.bits in inr (omega (arith, few, left, bits))

  pub ended_of : {now : SerialValue} {n : ℕ} → (most ≡ count) ⊎ (was.bits + most ≡ setup.bits) →
      ((acts : List (List TypedAct)) → StandsAt setup was acts → TakesUntilTold setup acts was n now) →
      EndsUntilTold most was n now → EndsUntilTold count was n now
  ended_of {now} {n} which bits (no_more why) =
      no_more (none_of false most count n now.bus (left_now (left_there which)) why)
    where
      left_now : (most ≡ count) ⊎ (most ≡ was.bus.left) → (most ≡ count) ⊎ (most ≡ now.bus.left + n)
      left_now (inl all) = inl all
      left_now (inr few) =
          let before = run.1 in let after = (run_told run bits).1 in
          let more = bits_run setup run.0 (NoneTold was) was now n (bits run.0 run.1) in
          let a = before.all_bits in let b = before.bits in let c = after.all_bits in let d = after.bits in
          inr (omega (arith, few, more, a, b, c, d))
  ended_of which bits (told node turn few is last) = told node turn few is last
  ended_of which bits (alone one why) =
      alone one (held_of (HasOrders was.ports) false most count was.bus (left_there which) why)
