-- A run that goes on from where it stands, and what it was then.
use Rattle.std.proofs.Common.{◌≡◌, ℕ, zero, suc, ◌+◌, ◌<◌, false, List, [], ◌∷◌, ◌++◌, length, map, take, refl, sym, ap}
use Rattle.std.proofs.Common.{◌∙◌, subst, arith}
use Rattle.std.specs.Prelude.{set, slice_index, slice_index_or}
use Rattle.std.proofs.Math.Seq.{take-append_seam}
use Rattle.sja_journal.specs.declared.entry.Entry.{Entry}
use Rattle.sja_journal.specs.Carried.{bits_of}
use Rattle.sja_journal.specs.Records.{record_of}
use Rattle.sja_journal.proofs.JournalEntries.Entering.{bits_counted}
use Rattle.sja_bus_rules.specs.Wire.{journal_at}
use Rattle.sja_plan.specs.Plan.{PlanValue}
use Rattle.sja_regs.specs.declared.registers.Registers.{Registers}
use Rattle.sja_regs.specs.Registers.{at_power_on}
use Rattle.sja_driver.specs.StepRuns.{StepRun, step_runs_at, acts_in}
use Rattle.sja_driver.specs.TypedActs.{TypedAct, given_in, opened_by}
use Rattle.sja_promises.specs.Turns.{Acts}
use Rattle.sja_driver.specs.Moments.{at_moment, record_at}
use Rattle.sja_driver.specs.declared.logged_driver.LoggedDriver.{LoggedDriver}
use Rattle.sja_driver.specs.LoggedDrivers.{kept_of}
use Rattle.sja_promises.specs.Registering.{LeadTo}
use Rattle.sja_promises.specs.Registering.StepRunsLeadTo.{bit as led_by_bit}
use Rattle.sja_driver.specs.Windows.{put_by, off_by, window_of}
use Rattle.sja_link.specs.Looking.{off_among}
use Rattle.sja_driver.proofs.Trace.Moments.{HasBitsAfterAborts}
use Rattle.sja_promises.proofs.Trace.Windows.{window_later}
use Rattle.sja_driver.specs.InTime.{IsInTime}
use Rattle.sja_serial.specs.Bits.{TakesBit, TakesBits}
use Rattle.sja_serial.specs.Bits.TakesBits.{no_bit, one_more}
use Rattle.sja_serial.specs.Serial.{Setup, SerialValue, StandsAt, StandsBy, all_acts}
use Rattle.sja_serial.proofs.TypedActs.Parts.{all_at}
use Rattle.sja_driver.proofs.Account.Counts.{as_many}
use Rattle.sja_serial.proofs.AllNodes.Several.{first_driver, some_links}
use Rattle.sja_promises.proofs.NodeLog.Onward.{Extends, moment_then, put_then, extends_bit, bits_bit, aborts_bit}

-- a run of the plan with these journals and steps done
abbrev pub run_acts_of : PlanValue → List (List Entry) → List (List StepRun) → Acts
run_acts_of plan journals all = record { plan = plan; journals = journals; step_runs = all }

-- it goes on from where the run stands
pub record GoesOn (setup : Setup) (r : SerialValue) (step_runs : List (List StepRun)) (journals : List (List Entry))
    (all : List (List StepRun)) : Type 0 where
  pub journals_go : (k : ℕ) → k < setup.nodes → Extends (journal_at r.bus.journals k) (journal_at journals k)
  pub steps_go : (k : ℕ) → k < setup.nodes →
      (rest : List StepRun) × (step_runs_at all k ≡ step_runs_at step_runs k ++ rest)

-- a journal has all bits that were run, and each abort of it is followed by a bit
pub record IsPresent (bits : ℕ) (j : List Entry) : Type 0 where
  pub bits_are : length (bits_of j) ≡ bits
  pub aborts : HasBitsAfterAborts j

abbrev pub ArePresent : Setup → SerialValue → Type 0
ArePresent setup r = (k : ℕ) → k < setup.nodes → IsPresent r.bits (journal_at r.bus.journals k)

-- ---- steps done

pub length_at : (step_runs : List (List StepRun)) (k : ℕ) →
    slice_index (map (λ (l : List StepRun). length l) step_runs) k ≡ length (step_runs_at step_runs k)
length_at [] k = refl
length_at (x ∷ xs) zero = refl
length_at (x ∷ xs) (suc k) = length_at xs k

pub lengths_set : (step_runs : List (List StepRun)) (k : ℕ) (l : List StepRun) →
    set (map (λ (x : List StepRun). length x) step_runs) k (length l)
    ≡ map (λ (x : List StepRun). length x) (set step_runs k l)
lengths_set [] k l = refl
lengths_set (x ∷ xs) zero l = refl
lengths_set (x ∷ xs) (suc k) l = ap (λ t. length x ∷ t) (lengths_set xs k l)

-- the steps by then are those at which the run stood, and so are their acts
pub acts_then : (setup : Setup) (r : SerialValue) (step_runs : List (List StepRun)) (journals : List (List Entry))
    (all : List (List StepRun)) → GoesOn setup r step_runs journals all → (k : ℕ) → k < setup.nodes →
    acts_in (take (slice_index (map (λ (l : List StepRun). length l) step_runs) k) (step_runs_at all k))
    ≡ acts_in (step_runs_at step_runs k)
acts_then setup r step_runs journals all go k less =
    let g = go.steps_go k less in
    ap (λ l. acts_in l) ((λ t. take (length_at step_runs k t) (g.1 t)) ∙ take-append_seam (step_runs_at step_runs k)
    g.0)

-- ---- what a journal was

module _ (setup : Setup) (r : SerialValue) (step_runs : List (List StepRun)) (journals : List (List Entry))
    (all : List (List StepRun)) (h : StandsAt setup r (all_acts step_runs)) (present : ArePresent setup r)
    (go : GoesOn setup r step_runs journals all) where
  in_time_at : (k : ℕ) → k < setup.nodes → IsInTime setup.version (journal_at r.bus.journals k)
      (acts_in (step_runs_at step_runs k))
  in_time_at k less = let c = h.count.drivers in
      subst (λ (l : List TypedAct). IsInTime setup.version (journal_at r.bus.journals k) l) (all_at step_runs k)
      (h.nodes k (first_driver r.drivers (omega (arith, c, less))) (at_power_on 1) some_links less).in_time

  pub entries_then : (k : ℕ) → k < setup.nodes →
      at_moment r.bits (length (given_in (acts_in (step_runs_at step_runs k)))) (journal_at journals k) ≡ journal_at
      r.bus.journals k
  entries_then k less =
      let p = present k less in
      moment_then (journal_at r.bus.journals k) (journal_at journals k) r.bits
      (length (given_in (acts_in (step_runs_at step_runs k)))) (go.journals_go k less) p.aborts p.bits_are
      (as_many (acts_in (step_runs_at step_runs k)) (journal_at r.bus.journals k) (in_time_at k less).when)

  pub record_then : (k : ℕ) → k < setup.nodes →
      record_at (journal_at journals k) (acts_in (step_runs_at step_runs k)) r.bits ≡ record_of
      (journal_at r.bus.journals k)
  record_then k less = ap record_of (entries_then k less)

  pub registers_then : (k : ℕ) (p : Registers) → k < setup.nodes →
      LeadTo setup.version (journal_at r.bus.journals k) (acts_in (step_runs_at step_runs k))
      (slice_index_or r.ports k p)
  registers_then k p less = let c = h.count.drivers in
      subst (λ (l : List TypedAct). LeadTo setup.version (journal_at r.bus.journals k) l (slice_index_or r.ports k p))
      (all_at step_runs k) (h.nodes k (first_driver r.drivers (omega (arith, c, less))) p some_links less).registers

  put_is : (k a : ℕ) → k < setup.nodes →
      put_by r.bits (journal_at journals k) a ≡ put_by r.bits (journal_at r.bus.journals k) a
  put_is k a less = put_then (journal_at r.bus.journals k) (journal_at journals k) r.bits a (go.journals_go k less)
      (sym (present k less).bits_are ∙ sym (bits_counted (journal_at r.bus.journals k)))

  pub window_then : (k : ℕ) → k < setup.nodes →
      window_of (journal_at journals k) (acts_in (step_runs_at step_runs k)) r.bits ≡ window_of
      (journal_at r.bus.journals k)
      (acts_in (step_runs_at step_runs k)) r.bits
  window_then k less = window_later (journal_at r.bus.journals k) (journal_at journals k)
      (acts_in (step_runs_at step_runs k)) r.bits
      (put_is k (opened_by (acts_in (step_runs_at step_runs k))) less)

  pub off_then : (k a : ℕ) → k < setup.nodes →
      off_by r.bits (journal_at journals k) a ≡ off_by r.bits (journal_at r.bus.journals k) a
  off_then k a less = ap (λ l. off_among false l) (put_is k a less)

-- ---- bits

module _ (setup : Setup) (acts : List (List TypedAct)) where
  pub present_bit : (was now : SerialValue) → TakesBit setup acts was now → ArePresent setup was → ArePresent setup now
  present_bit was now bit h k less =
      let p = h k less in let n = bit.nodes k less in
      let b = bits_bit (journal_at was.bus.journals k) (journal_at now.bus.journals k) n in record {
        bits_are = b ∙ ap (λ m. m + 1) p.bits_are ∙ sym bit.bits;
        aborts = aborts_bit (journal_at was.bus.journals k) (journal_at now.bus.journals k) n p.aborts;
      }

  pub back_bit : (was now : SerialValue) (step_runs : List (List StepRun)) (journals : List (List Entry))
      (all : List (List StepRun)) → TakesBit setup acts was now → GoesOn setup now step_runs journals all →
      GoesOn setup was step_runs journals all
  back_bit was now step_runs journals all bit go = record {
    journals_go = λ k less. extends_bit (journal_at was.bus.journals k) (journal_at now.bus.journals k)
        (journal_at journals k) (bit.nodes k less) (go.journals_go k less);
    steps_go = go.steps_go;
  }

  module _ (Before : SerialValue → Type 0) where
    pub present_bits : (was now : SerialValue) (n : ℕ) → TakesBits setup acts Before was n now → ArePresent setup was →
        ArePresent setup now
    present_bits was now n (no_bit _) h = h
    present_bits was now n (one_more _ mid _ m before holds bit) h = present_bit mid now bit
        (present_bits was mid m before h)

    pub back_bits : (was now : SerialValue) (n : ℕ) (step_runs : List (List StepRun)) (journals : List (List Entry))
        (all : List (List StepRun)) → TakesBits setup acts Before was n now → GoesOn setup now step_runs journals all →
        GoesOn setup was step_runs journals all
    back_bits was now n step_runs journals all (no_bit _) go = go
    back_bits was now n step_runs journals all (one_more _ mid _ m before holds bit) go =
        back_bits was mid m step_runs journals all before (back_bit mid now step_runs journals all bit go)

    pub bits_run : (was now : SerialValue) (n : ℕ) → TakesBits setup acts Before was n now → now.bits ≡ was.bits + n
    bits_run was now n (no_bit _) = omega arith
    bits_run was now n (one_more _ mid _ m before holds bit) = let b = bits_run was mid m before in
        let c = bit.bits in omega (arith, b, c)

    pub stands_bits : (was now : SerialValue) (n : ℕ) → TakesBits setup acts Before was n now →
        StandsAt setup was acts → StandsAt setup now acts
    stands_bits was now n (no_bit _) h = h
    stands_bits was now n (one_more _ mid _ m before holds bit) h = bit.stands

-- ---- the same steps after bits

module _ (setup : Setup) (step_runs : List (List StepRun)) where
  pub stands_by_bit : (was now : SerialValue) → TakesBit setup (all_acts step_runs) was now →
      StandsBy setup was step_runs → StandsBy setup now step_runs
  stands_by_bit was now one h = record {
    stands = one.stands;
    nodes = λ node d p less.
        let w = h.nodes node d p less in
        let driver : slice_index_or now.drivers node d ≡ slice_index_or was.drivers node d =
        ap (λ (l : List LoggedDriver). slice_index_or l node d) one.drivers in
        rw driver (record {
          led = led_by_bit (journal_at was.bus.journals node) (journal_at now.bus.journals node)
              (step_runs_at step_runs node) (kept_of (slice_index_or was.drivers node d))
              (slice_index_or was.ports node p) (slice_index_or now.ports node p) w.led (one.ports node p less);
          done = w.done;
          room = w.room;
        });
  }

  pub stands_by_bits : (Before : SerialValue → Type 0) (was now : SerialValue) (n : ℕ) →
      TakesBits setup (all_acts step_runs) Before was n now → StandsBy setup was step_runs →
      StandsBy setup now step_runs
  stands_by_bits Before was now n (no_bit _) h = h
  stands_by_bits Before was now n (one_more _ mid _ m before holds one) h =
      stands_by_bit mid now one (stands_by_bits Before was mid m before h)
