-- Bits of a run up to the first that a port is told of, and one alone where none was run.
use Rattle.std.proofs.Common.{◌≡◌, ◌<◌, ℕ, List, refl, sym, subst, arith}
use Rattle.sja_bus_rules.specs.Lawful.{IsBusRun}
use Rattle.sja_bus.specs.UntilTold.HasBitsMore.{none as none_more}
use Rattle.sja_driver.specs.TypedActs.{TypedAct}
use Rattle.sja_serial.specs.Bits.{TakesBit, TakesBits}
use Rattle.sja_serial.specs.Bits.TakesBits.{no_bit, one_more}
use Rattle.sja_serial.specs.Serial.{Setup, SerialValue, StandsAt, IsRunOf}
use Rattle.sja_serial.specs.UntilTold.{NoneTold, TakesUntilTold}
use Rattle.sja_serial.proofs.ManyBits.SomeBits.{just_one}
use Rattle.sja_serial.proofs.WholeRun.GoingOn.{stands_bits}

-- where none was run it is the same run
none_ran : (setup : Setup) (acts : List (List TypedAct)) (Before : SerialValue → Type 0) (r m : SerialValue) (run : ℕ) →
    TakesBits setup acts Before r run m → run ≡ 0 → m ≡ r
none_ran setup acts Before r m run (no_bit _) is_none = refl
none_ran setup acts Before r m run (one_more _ mid _ k bits holds bit) is_none = absurd (omega (arith, is_none))

-- ---- bits up to the first that a port is told of, and one alone where none was run

module _ {setup : Setup} {was mid : SerialValue} {n : ℕ} (run : IsRunOf setup was)
    (bits : (acts : List (List TypedAct)) → StandsAt setup was acts → TakesUntilTold setup acts was n mid) where
  pub run_told : IsRunOf setup mid
  run_told = (run.0, stands_bits setup run.0 (NoneTold was) was mid n (bits run.0 run.1) run.1)

  module _ (none : n ≡ 0) where
    still : mid ≡ was
    still = none_ran setup run.0 (NoneTold was) was mid n (bits run.0 run.1) none

    pub lawful_still : IsBusRun was.bus.script was.bus.run was.bus.journals →
        IsBusRun mid.bus.script mid.bus.run mid.bus.journals
    lawful_still = subst (λ (x : SerialValue). IsBusRun x.bus.script x.bus.run x.bus.journals) (sym still)

    pub left_still : was.bits < setup.bits → mid.bits < setup.bits
    left_still = subst (λ (x : SerialValue). x.bits < setup.bits) (sym still)

    module _ {now : SerialValue}
        (one : (acts : List (List TypedAct)) → StandsAt setup mid acts → TakesBit setup acts mid now) where
      told : (acts : List (List TypedAct)) → StandsAt setup was acts → TakesBit setup acts was now
      told = subst (λ (x : SerialValue). (acts : List (List TypedAct)) → StandsAt setup x acts →
          TakesBit setup acts x now)
          still one

      pub one_told : (acts : List (List TypedAct)) → StandsAt setup was acts →
          TakesUntilTold setup acts was 1 now
      one_told acts h = just_one setup acts (NoneTold was) was now
          (record { ports = refl; journals = λ k less. none_more }) (told acts h)

      pub run_one : IsRunOf setup now
      run_one = (run.0, (told run.0 run.1).stands)
