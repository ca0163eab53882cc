-- Bits that a bus ran one after another: each of them is a bit of the run.
use Rattle.std.proofs.Common.{◌≡◌, ℕ, ◌+◌, ◌≤◌, Bool, true, false, List, length, refl, sym, ap, ◌∙◌, subst, arith}
use Rattle.std.specs.Prelude.{None}
use Rattle.sja_link.specs.Deques.{Deques}
use Rattle.sja_bus.specs.declared.board.Board.{Ghosts as Ports}
use Rattle.sja_journal.specs.declared.bus_fault.BusFault.{BusFault}
use Rattle.sja_bus.specs.declared.serial_board.SerialBoard.{SerialBoard}
use Rattle.sja_bus.specs.Boards.{HasOrders, HasFacts, ShowsTurn, WasTold, WasClosed, WasKept}
use Rattle.sja_bus_rules.specs.Lawful.{IsBusRun}
use Rattle.sja_bus_rules.specs.Buses.{BusValue}
use Rattle.sja_bus.specs.Moment.{Moment, OneBit, moment}
use Rattle.sja_bus.specs.Several.{BitInOrder, AreBits, WorksIf, BreaksOff}
use Rattle.sja_bus.specs.Several.AreBits.{no_bit as none_run, one_more as one_run}
use Rattle.sja_bus.specs.UntilTold.{WorksUntold}
use Rattle.sja_driver.specs.declared.logged_driver.LoggedDriver.{LoggedDriver}
use Rattle.sja_driver.specs.TypedActs.{TypedAct}
use Rattle.sja_serial.specs.Bits.{TakesBit, TakesBits, SomeWorks}
use Rattle.sja_serial.specs.Serial.{Setup, SerialValue, StandsAt, IsRunOf}
use Rattle.sja_serial.specs.Inside.SerialProgress.{run_now}
use Rattle.sja_serial.specs.UntilTold.{NoneTold}
use Rattle.sja_serial.specs.Bits.TakesBits.{no_bit, one_more}
use Rattle.sja_link.proofs.QueuedLinks.Ends.{ends}
use Rattle.sja_serial.proofs.ManyBits.BitRun.{cuts_of, takes_bit}
use Rattle.sja_serial.proofs.WholeRun.GoingOn.{bits_run}
use Rattle.sja_serial.proofs.ManyBits.Borrowed.{run_is, lawful_there}
use Rattle.sja_serial.proofs.ManyBits.SomeBits.{some_works}
use Rattle.sja_serial.proofs.ManyBits.Unstopped.{never_stops}

-- a moment of a bus in one thread
abbrev pub SerialMoment : Type 0
SerialMoment = Moment Deques SerialBoard

-- its ports
abbrev pub ports : Ports SerialBoard
ports = record {
  ports = λ (b : SerialBoard). length b.ports.items;
  orders_are = λ (b : SerialBoard). HasOrders b.ports.items;
  shows = λ (b : SerialBoard). ShowsTurn b.ports.items;
  told = λ (a b : SerialBoard). WasTold a.ports.items b.ports.items;
  shut = λ (a b : SerialBoard). WasClosed a.ports.items b.ports.items;
  kept = λ (a b : SerialBoard). WasKept a.ports.items b.ports.items;
  facts = λ (b : SerialBoard). HasFacts b.ports.items;
}

-- the bit of this number of one call
abbrev pub NthBit : ℕ → SerialMoment → SerialMoment → Type 0
NthBit = BitInOrder ends ports

-- the run with these drivers at that moment
abbrev pub run_then : List LoggedDriver → SerialMoment → SerialValue
run_then drivers m = run_now m.bus drivers m.board.ports.items m.links m.bus.run

-- ---- kinds of bits

-- each is a bit of the bus, and what holds of the bus before it, since the first, holds of the run
pub record IsKind (setup : Setup) (One : ℕ → SerialMoment → SerialMoment → Type 0)
    (Before : SerialMoment → SerialMoment → Type 0) (After : SerialValue → SerialValue → Type 0) : Type 0 where
  pub bit : (k : ℕ) (was now : SerialMoment) → One k was now → OneBit ends ports was now
  pub holds : (acts : List (List TypedAct)) (drivers : List LoggedDriver) (first m : SerialMoment) →
      StandsAt setup (run_then drivers m) acts → Before first m → After (run_then drivers first) (run_then drivers m)

-- whether a call ends at rest, as a number
abbrev pub ends_at_rest : Bool → ℕ
ends_at_rest false = 0
ends_at_rest true = 1

rests : (to_rest : Bool) → ends_at_rest to_rest ≡ 1 → to_rest ≡ true
rests false some = absurd (omega (arith, some))
rests true some = refl

-- those before which some node works, where that is asked for
pub busy : (setup : Setup) (to_rest : Bool) → ends_at_rest to_rest ≡ 1 →
    IsKind setup NthBit (λ first. WorksIf to_rest) (λ first. SomeWorks setup)
busy setup to_rest asked = record {
  bit = λ k was now one. one.bit;
  holds = λ acts drivers first m stands works.
      some_works setup (run_then drivers m) acts stands (works (rests to_rest asked));
}

-- those of a call, whether it ends at rest or not
pub either : (setup : Setup) (to_rest : Bool) → IsKind setup NthBit (λ first. WorksIf to_rest) (λ first r. Unit {0})
either setup to_rest = record { bit = λ k was now one. one.bit; holds = λ acts drivers first m stands works. tt }

-- whether the call that ran these ends at rest
abbrev pub asked_in : {E B : Type 0} {One : ℕ → Moment E B → Moment E B → Type 0} (to_rest : Bool)
    {was now : Moment E B} {n : ℕ} → AreBits One (WorksIf to_rest) was n now → Bool
asked_in to_rest bits = to_rest

-- those before which no port was told anything since the first
pub untold : (setup : Setup) → IsKind setup (λ k. OneBit ends ports) (WorksUntold false) NoneTold
untold setup = record {
  bit = λ k was now one. one;
  holds = λ acts drivers first m stands both. record {
    ports = ap (λ (b : SerialBoard). b.ports.items) both.1.board;
    journals = both.1.journals;
  };
}

module _ (setup : Setup) (acts : List (List TypedAct)) (drivers : List LoggedDriver) where
  -- a run stands there, and its bus has its laws
  pub record IsThere (m : SerialMoment) : Type 0 where
    pub stands : StandsAt setup (run_then drivers m) acts
    pub lawful : IsBusRun m.bus.script m.bus.run m.bus.journals

  one_bit : (was now : SerialMoment) → IsThere was → OneBit ends ports was now →
      TakesBit setup acts (run_then drivers was) (run_then drivers now)
  one_bit was now t b =
      takes_bit setup (run_then drivers was) (run_then drivers now) acts t.stands b.right b.keeps.script
      b.keeps.starts b.keeps.steps b.run b.left b.keeps.nodes refl b.run b.keeps.others.0 b.kept b.keeps.sames
      b.bit (cuts_of t.lawful) b.lawful

  module _ {One : ℕ → SerialMoment → SerialMoment → Type 0} {Before : SerialMoment → SerialMoment → Type 0}
      {After : SerialValue → SerialValue → Type 0} (kind : IsKind setup One Before After) (first : SerialMoment) where
    there_still : (was now : SerialMoment) (n : ℕ) → AreBits One (Before first) was n now → IsThere was → IsThere now
    there_still was now n (none_run _) t = t
    there_still was now n (one_run _ mid _ k bits before one) t = let b = kind.bit k mid now one in record {
      stands = (one_bit mid now (there_still was mid k bits t) b).stands;
      lawful = b.lawful;
    }

    -- each of them is a bit of the run
    takes_bits : (was now : SerialMoment) (n : ℕ) → AreBits One (Before first) was n now → IsThere was →
        TakesBits setup acts (After (run_then drivers first)) (run_then drivers was) n (run_then drivers now)
    takes_bits was now n (none_run _) t = no_bit (run_then drivers was)
    takes_bits was now n (one_run _ mid _ k bits before one) t =
        let m = there_still was mid k bits t in
        one_more (run_then drivers was) (run_then drivers mid) (run_then drivers now) k (takes_bits was mid k bits t)
        (kind.holds acts drivers first mid m.stands before) (one_bit mid now m (kind.bit k mid now one))

    many_run : (was now : SerialMoment) (n : ℕ) → AreBits One (Before first) was n now → IsThere was →
        now.bus.run ≡ was.bus.run + n
    many_run was now n bits t = let After_first = After (run_then drivers first) in
        bits_run setup acts After_first (run_then drivers was) (run_then drivers now) n
        (takes_bits was now n bits t)

    -- none of them broke off, where no more were asked for than are left
    never_breaks : (was now : SerialMoment) (count : ℕ) (f : BusFault) → IsThere was →
        was.bus.run + count ≤ setup.bits →
        BreaksOff ends ports.orders_are One (Before first) count was now f → ⊥
    never_breaks was now count f t few b =
        let m = there_still was b.mid b.run b.bits t in
        let run = many_run was b.mid b.run b.bits t in
        let early = b.early in
        never_stops setup (run_then drivers b.mid) acts m.stands (omega (arith, run, early, few)) m.lawful
        (HasOrders b.mid.board.ports.items) now.bus now.links f b.stops

-- ---- a call that runs them, over a slice of the links of a run that has so many left

module _ (bus : BusValue) (drivers : List LoggedDriver) (board : SerialBoard) (slice links : List Deques) (bits : ℕ)
    (r : SerialValue) (same : slice ≡ links) (view : run_now bus drivers board.ports.items links
    bits ≡ r)
    (setup : Setup) (run : IsRunOf setup r) (lawful : IsBusRun r.bus.script r.bus.run r.bus.journals) (most : ℕ)
    (few : r.bits + most ≤ setup.bits) {One : ℕ → SerialMoment → SerialMoment → Type 0}
    {Before : SerialMoment → SerialMoment → Type 0} {After : SerialValue → SerialValue → Type 0}
    (kind : IsKind setup One Before After) where
  abbrev was : SerialMoment
  was = moment bus slice board

  bits_are : bits ≡ bus.run
  bits_are = subst (λ (x : SerialValue). x.bits ≡ x.bus.run) (sym view) run.1.bits

  was_is : run_then drivers was ≡ r
  was_is = (λ i. run_now bus drivers board.ports.items slice (sym bits_are i))
      ∙ run_is same view

  there : (acts : List (List TypedAct)) → StandsAt setup r acts → IsThere setup acts drivers was
  there acts h = record {
    stands = subst (λ (x : SerialValue). StandsAt setup x acts) (sym was_is) h;
    lawful = lawful_there same view lawful;
  }

  -- none of its bits broke off
  pub no_break : (now : SerialMoment) (f : BusFault) →
      (bus.fault ≡ None → BreaksOff ends ports.orders_are One (Before was) most was now f) → ⊥
  no_break now f breaks =
      let t = there run.0 run.1 in
      never_breaks setup run.0 drivers kind was was now most f t
      (subst (λ (x : SerialValue). x.bits + most ≤ setup.bits) (sym was_is) few) (breaks t.stands.right)

  -- those that it ran are bits of the run, into which the links are put back
  pub bits_taken : (now : SerialMoment) (back : List Deques) → back ≡ now.links → (many : ℕ) →
      AreBits One (Before was) was many now → (acts : List (List TypedAct)) → StandsAt setup r acts →
      TakesBits setup acts (After r) r many (run_now now.bus drivers now.board.ports.items back (bits + many))
  bits_taken now back back_is many are acts h =
      let t = takes_bits setup acts drivers kind was was now many are (there acts h) in
      let b = many_run setup acts drivers kind was was now many are (there acts h) in
      let e = bits_are in let bits_now : now.bus.run ≡ bits + many = omega (arith, e, b) in
      subst (λ (x : SerialValue). TakesBits setup acts (After r) r many x)
      (λ i. run_now now.bus drivers now.board.ports.items (sym back_is i) (bits_now i))
      (subst (λ (x : SerialValue). TakesBits setup acts (After x) x many (run_then drivers now)) was_is t)
