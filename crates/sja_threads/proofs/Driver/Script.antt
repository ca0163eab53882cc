-- The script of a driver: a front of its steps, and what it hands back then.
use Rattle.std.proofs.Common.{take, drop, ◌≡◌, ◌≤◌, ◌<◌, ◌+◌, ◌++◌, ℕ, Bool, true, false, List, []}
use Rattle.std.proofs.Common.{◌∷◌, length, map, refl, sym, ap, ◌∙◌, subst, arith, append-nil}
use Rattle.std.specs.Prelude.{slice_index_or}
use Rattle.std.proofs.lemmas.List.{length-append, length-map, length-take-le, map-append}
use Rattle.std.proofs.lemmas.List.{at_drop_more}
use Rattle.sja_link.specs.declared.driver_end.DriverEnd.{Ghosts as Ends}
use Rattle.sja_journal.specs.declared.entry.Entry.{Entry}
use Rattle.sja_journal.specs.Lists.{Lists}
use Rattle.sja_regs.specs.DriverSettings.{settings_in}
use Rattle.sja_regs.specs.Registers.{at_power_on as regs_at_power_on}
use Rattle.sja_steps.specs.declared.step_record.StepRecord.{StepRecord}
use Rattle.sja_steps.specs.declared.step.Step.{Step}
use Rattle.sja_driver.specs.declared.any_driver.AnyDriver.{AnyDriver}
use Rattle.sja_driver.specs.declared.unmodelled_registers.UnmodelledRegisters.{UnmodelledRegisters}
use Rattle.sja_driver.specs.declared.work_log.WorkLog.{WorkLog}
use Rattle.sja_driver.specs.StepRuns.{StepRun, by_bytes, acts_in, step_record_of}
use Rattle.sja_driver.specs.AnyDrivers.{is_out}
use Rattle.sja_driver.specs.TypedActs.{TypedAct, is_active}
use Rattle.sja_driver.specs.Holding.{HoldsBy}
use Rattle.sja_driver.specs.Kept.{at_power_on}
use Rattle.sja_driver.specs.LoggedDrivers.{node_of, driver_of, log_of, kept_of, IsLawful}
use Rattle.sja_driver.specs.Logs.{HasRoom, IsEmpty, Traces, done_in, done_room}
use Rattle.sja_driver.proofs.Step.NothingDone.{nothing_known, nothing_told}
use Rattle.sja_promises.proofs.Trace.StepRunActs.{acts_push}
use Rattle.sja_threads.specs.declared.order.Order.{Ghosts as Orders}
use Rattle.sja_threads.specs.declared.driver_thread.DriverThread.{DriverThread}
use Rattle.sja_thread_promises.specs.Accessing.{IsStepRunAt, IsBrokenOff, LeadToStepRuns, acts_done}
use Rattle.sja_thread_promises.specs.Accessing.IsBrokenOff.{not_begun}
use Rattle.sja_thread_promises.specs.Accessing.LeadToStepRuns.{nothing_done as no_step_run_done, step_run_done}
use Rattle.sja_thread_promises.specs.Setting.LeadToSettings.{nothing_done}
use Rattle.sja_threads.specs.Working.{AreUntouched, HasWorked}
use Rattle.sja_threads.specs.Inside.StepRuns.{DoesStep, BreaksOff, HasDone, HasEnded}
use Rattle.sja_threads.specs.Inside.Steps.{MayStep, MayBegin, Does, room_taken}
use Rattle.sja_thread_promises.specs.Ordering.{active_by, done_at_port, done_in_order}
use Rattle.sja_threads.specs.Inside.Ordered.{set_after}
use Rattle.sja_threads.proofs.Driver.Settings.{lead_all}
use Rattle.sja_threads.proofs.Driver.Steps.{may_less, does_none, does_more}

-- ---- before the first step

-- a driver as it is made, at its end
pub begins : {N E : Type 0} {o : Orders N} (node_at : E → ℕ) (t : DriverThread N E o) (node steps : ℕ)
    (log : WorkLog) → t.bytes ≡ by_bytes t.set.version → t.done.known.list ≡ [] →
    t.set ≡ settings_in (regs_at_power_on t.done.version) → node_of t.driver ≡ node → log_of t.driver ≡ log →
    kept_of t.driver ≡ at_power_on → is_out (driver_of t.driver) ≡ false → IsLawful t.driver →
    ((version : ℕ) → Traces version (driver_of t.driver) (log_of t.driver) []) → t.found ≡ 0 → IsEmpty log →
    HasRoom t.done.version steps log → steps ≤ done_room log → node_at t.end ≡ node → MayBegin node_at t steps
begins node_at t node steps log bytes unseen first own logs kept reset lawful none new empty acts room here = record {
  may = record {
    may = record {
      bytes = bytes;
      set = ap (λ l. set_after t.done.version l) unseen ∙ sym first;
      active = ap (λ l. active_by false (done_in_order l)) unseen ∙ sym reset;
      lawful = lawful;
      room = subst (λ (l : WorkLog). HasRoom t.done.version steps l) (sym logs) acts;
      own = here ∙ sym own;
    };
    room = subst (λ (l : WorkLog). length (done_in l) + steps ≤ done_room l) (sym logs)
        (let few = ap (λ (l : List StepRecord). length l) empty.done in omega (arith, few, room));
  };
  reset = reset;
  empty = subst (λ (l : WorkLog). IsEmpty l) (sym logs) empty;
  kept = kept;
  none = unseen;
  found = new;
  traces = none;
}

-- a driver that did nothing, at links on which nothing was got or given
pub holds_new : {E : Type 0} (stands : E → ℕ → Lists → Type 0) (driver : AnyDriver) (log : WorkLog) (j : List Entry)
    (end : E) → IsEmpty log → is_out driver ≡ false → AreUntouched stands j end → HoldsBy stands [] driver log j end
holds_new stands driver log j end empty reset untouched = record {
  got = λ a. [];
  kept = untouched;
  told = λ a. sym (nothing_told driver log a empty reset);
  off_is = nothing_known driver reset;
  later = λ a less. refl;
}

-- ---- steps

module _ {N E : Type 0} {o : Orders N} (e : Ends E) where
  -- where fewer are asked for
  pub step_less : (t : DriverThread N E o) (k n : ℕ) → k ≤ n → MayStep e.node t n → MayStep e.node t k
  step_less t k n less m = record {
    may = may_less e t k n less m.may;
    room = let room = m.room in omega (arith, room, less);
  }

  -- once one is done the others may be
  pub step_able : (was now : DriverThread N E o) (s : Step) (n : ℕ) → DoesStep e was now s → MayStep e.node was (n +
      1) →
      MayStep e.node now n
  step_able was now s n d m = record {
    may = d.does.able n (may_less e was (room_taken d.step_run.acts + n) (n + 1)
        (let few = d.few in omega (arith, few)) m.may);
    room = let fits = m.room in let long = ap (λ (l : List StepRecord). length l) d.done in
        let more = length-append (done_in (log_of was.driver)) (step_record_of d.step_run ∷ []) in let room = d.room in
        omega (arith, fits, long, more, room);
  }

  module _ (trans : (x y z : E) → e.same x y → e.same y z → e.same x z) (r : (x : E) → e.same x x)
      (first : DriverThread N E o)
      (begun : (version : ℕ) → Traces version (driver_of first.driver) (log_of first.driver) [])
    where
      pub done_none : kept_of first.driver ≡ at_power_on → first.found ≡ 0 → IsEmpty (log_of first.driver) →
          HasDone e first first []
      unfolding does_none
      done_none kept fresh empty = record {
        step_runs = [];
        does = does_none e r first;
        leads = subst (λ (k : UnmodelledRegisters). LeadToStepRuns first.set.version first.set [] first.set k
            first.found)
            (sym kept) (subst (λ (n : ℕ). LeadToStepRuns first.set.version first.set [] first.set at_power_on n)
            (sym fresh) no_step_run_done);
        steps_are = refl;
        done_are = sym empty.done;
      }

      module _ (was : DriverThread N E o) (steps : List Step) (p : HasDone e first was steps) where
        traces : Traces first.set.version (driver_of was.driver) (log_of was.driver) (acts_in p.step_runs)
        traces = p.does.goes.traces [] (begun first.set.version)

        own_traces : Traces was.set.version (driver_of was.driver) (log_of was.driver) (acts_in p.step_runs)
        own_traces = subst (λ (n : ℕ). Traces n (driver_of was.driver) (log_of was.driver) (acts_in p.step_runs))
            (sym p.does.version) traces

        -- one more
        pub done_more : (now : DriverThread N E o) (s : Step) → DoesStep e was now s → HasDone e first now (steps ++
            s ∷ [])
        unfolding does_more
        done_more now s d = record {
          step_runs = p.step_runs ++ d.step_run ∷ [];
          does = subst (λ (l : List TypedAct). Does e first now l) (sym (acts_push p.step_runs d.step_run))
              (does_more e trans first was now (acts_in p.step_runs) d.step_run.acts p.does d.does);
          leads = subst (λ (n : ℕ). LeadToStepRuns first.set.version first.set (p.step_runs ++ d.step_run ∷ []) now.set
              (kept_of now.driver) n) (sym d.found)
              (step_run_done p.step_runs d.step_run was.set now.set (kept_of was.driver) (kept_of now.driver) was.found
              p.leads (d.does.leads (acts_in p.step_runs) own_traces)
              (subst (λ (v : ℕ). IsStepRunAt v was.set (is_active (acts_in p.step_runs)) (kept_of was.driver) d.step_run
              (kept_of now.driver)) p.does.version (d.is (acts_in p.step_runs) own_traces)) d.counts);
          steps_are = map-append (λ (x : StepRun). x.step) p.step_runs (d.step_run ∷ [])
              ∙ ap (λ (l : List Step). l ++ d.step_run.step ∷ []) p.steps_are
              ∙ ap (λ (x : Step). steps ++ x ∷ []) d.step_is;
          done_are = map-append step_record_of p.step_runs (d.step_run ∷ [])
              ∙ ap (λ (l : List StepRecord). l ++ step_record_of d.step_run ∷ []) p.done_are ∙ sym d.done;
        }

        module _ (all : List Step) (k : ℕ) (few : k ≤ length all) (is : steps ≡ take k all) where
          count : length p.step_runs ≡ k
          count = sym (length-map p.step_runs (λ (x : StepRun). x.step))
              ∙ ap (λ (l : List Step). length l) (p.steps_are ∙ is) ∙ length-take-le k all few

          front : map (λ (x : StepRun). x.step) p.step_runs ≡ take (length p.step_runs) all
          front = p.steps_are ∙ is ∙ ap (λ (n : ℕ). take n all) (sym count)

          -- a gate quit in the next one
          pub ended_by : (quits : Bool) (now : DriverThread N E o) (s : Step) → k < length all →
              s ≡ slice_index_or all k s →
              BreaksOff e was now s → quits ≡ true → HasEnded e quits first now all
          unfolding does_more
          ended_by quits now s less here b broken = record {
            work = record { step_runs = p.step_runs; broken = b.acts };
            does = does_more e trans first was now (acts_in p.step_runs) b.acts p.does b.does;
            lawful = b.lawful;
            follows = record {
              first = front;
              last = was.set;
              kept = kept_of was.driver;
              found = was.found;
              leads = p.leads;
              counted = b.counts;
              broken =
                  subst (λ (l : List Step). IsBrokenOff first.set.version was.set (is_active (acts_in p.step_runs)) l
                  b.acts)
                  (sym next)
                  (subst (λ (v : ℕ). IsBrokenOff v was.set (is_active (acts_in p.step_runs)) (s ∷ drop (k + 1) all)
                  b.acts)
                  p.does.version
                  (subst (λ (o : Bool). IsBrokenOff was.set.version was.set o (s ∷ drop (k + 1) all) b.acts)
                  (sym traces.out) (b.broken (drop (k + 1) all))));
            };
            done = p.done_are ∙ ap (λ v. v.items) (sym b.none.done);
            all = λ never. absurd (let two : true ≡ false = sym broken ∙ never in cc);
          }
            where
              next : drop (length p.step_runs) all ≡ s ∷ drop (k + 1) all
              next = ap (λ (n : ℕ). drop n all) count ∙ at_drop_more (λ (l : List Step). l) all k s less
                  ∙ ap (λ (x : Step). x ∷ drop (k + 1) all) (sym here)

          -- it did all
          pub ended_all : (quits : Bool) → k ≡ length all → IsLawful was.driver → HasEnded e quits first was all
          ended_all quits whole lawful = record {
            work = record { step_runs = p.step_runs; broken = [] };
            does = subst (λ (l : List TypedAct). Does e first was l) (sym (append-nil (acts_in p.step_runs))) p.does;
            lawful = lawful;
            follows = record {
              first = front;
              last = was.set;
              kept = kept_of was.driver;
              found = was.found;
              leads = p.leads;
              counted = tt;
              broken = not_begun;
            };
            done = p.done_are;
            all = λ never. count ∙ whole;
          }

  -- ---- the whole of it

  -- what a driver hands back that began so and ended so
  pub worked_by : (quits : Bool) (first last : DriverThread N E o) (steps : List Step) →
      MayBegin e.node first (length steps) → (h : HasEnded e quits first last steps) →
      HasWorked e.stands first.set (node_of first.driver) steps first.end
      (record { end = last.end; driver = last.driver; done = last.done.known }) last.done.known.list
  worked_by quits first last steps may h = record {
    work = h.work;
    own = h.does.node;
    lawful = h.lawful;
    follows = h.follows;
    done = h.done;
    noted = h.does.at_port ∙ ap (λ l. done_in_order l ++ done_at_port (acts_done h.work)) may.none;
    leads = (
      last.set,
      lead_all first.set [] first.set (acts_done h.work) last.set nothing_done
          (h.does.leads [] (may.traces first.set.version)),
    );
    traces = h.does.goes.traces [] (may.traces first.set.version);
    holds = λ j u. h.does.goes.holds [] j (may.traces first.set.version)
        (holds_new e.stands (driver_of first.driver) (log_of first.driver) j first.end may.empty may.reset u);
  }

  -- all steps, where no gate quits
  pub all_done : (quits : Bool) (first last : DriverThread N E o) (steps : List Step) → HasEnded e quits first last
      steps →
      quits ≡ false → length (done_in (log_of last.driver)) ≡ length steps
  all_done quits first last steps h never =
      sym (ap (λ (l : List StepRecord). length l) h.done) ∙ length-map h.work.step_runs step_record_of ∙ h.all never
