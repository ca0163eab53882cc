-- Acts of a driver in a thread of its own, one after the other.
use Rattle.std.proofs.Common.{◌≡◌, ◌≤◌, ◌+◌, ◌++◌, ℕ, false, Option, Some, None, List, []}
use Rattle.std.proofs.Common.{length, map, refl, sym, ap, ◌∙◌, subst, arith, append-nil, append_assoc}
use Rattle.std.proofs.lemmas.List.{length-append, map-append}
use Rattle.sja_link.specs.declared.driver_end.DriverEnd.{Ghosts as Ends}
use Rattle.lemmas.specs.Gathering.{total}
use Rattle.lemmas.proofs.Gathered.{total_append}
use Rattle.sja_journal.specs.Lists.{on, is_on, same_on}
use Rattle.sja_regs.specs.declared.registers.Registers.{Registers}
use Rattle.sja_regs.specs.DriverSettings.{SettingsValue, settings_in, HasSettings}
use Rattle.sja_steps.specs.declared.step.Step.{Step}
use Rattle.sja_steps.specs.declared.step_answer.StepAnswer.{StepAnswer}
use Rattle.sja_steps.specs.declared.step_answer.StepAnswer.TheVariants.{Done as DoneAnswer, Released as ReleasedAnswer}
use Rattle.sja_driver.specs.StepRuns.{by_bytes}
use Rattle.sja_driver.specs.AnyDrivers.{is_out, link_used}
use Rattle.sja_driver.specs.TypedActs.{TypedAct, is_active}
use Rattle.sja_driver.specs.Holding.{HoldsBy, Goes}
use Rattle.sja_driver.specs.LoggedDrivers.{driver_of, log_of, ended_of, MayRelease, MayStep, StaysLawful, Steps}
use Rattle.sja_journal.specs.BoundedHistories.{KeepsAll}
use Rattle.sja_driver.specs.Logs.{HasRoom, KeepsLog, Traces, acts_by, done_room, releases_in, releases_by}
use Rattle.sja_driver.specs.Tries.{Tried, IsOf, answer_of, port_after}
use Rattle.sja_driver.specs.Tries.Tried.{Unmet, Answered, Released, Ended}
use Rattle.sja_driver.specs.declared.unmodelled_registers.UnmodelledRegisters.{UnmodelledRegisters}
use Rattle.sja_driver.specs.declared.logged_driver.LoggedDriver.{LoggedDriver}
use Rattle.sja_driver.proofs.Step.Modes.{version_step}
use Rattle.sja_driver.proofs.LogOfSteps.Logged.{room_less}
use Rattle.sja_threads.specs.declared.order.Order.{Ghosts as Orders}
use Rattle.sja_threads.specs.declared.driver_thread.DriverThread.{DriverThread}
use Rattle.sja_thread_promises.specs.Accessing.LeadOn.{nothing_more}
use Rattle.sja_threads.specs.Inside.Steps.{CountsOn, MayWork, Does, DoesAct, IsActIf, room_of, room_taken}
use Rattle.sja_thread_promises.specs.Ordering.{done_at_port, done_in_order, is_at_port}
use Rattle.sja_threads.proofs.Driver.Counts.{counts_more, counts_none, try_counted, try_found}
use Rattle.sja_threads.proofs.Driver.Settings.{leads_try, lead_more}
use Rattle.sja_threads.proofs.Driver.AtPort.{both_at_port, NotesAct, notes_node, notes_at_port, notes_set}
use Rattle.sja_threads.proofs.Driver.AtPort.{notes_active, notes_version}

-- a try leaves the version of its port
version_after : (p : Registers) (which : Step) (o : Tried) → (port_after p which o).version ≡ p.version
version_after p which Unmet = refl
version_after p which (Answered answer) = version_step p which answer
version_after p which (Released m) = version_step p which (ReleasedAnswer (length m))
version_after p which (Ended ledger) = version_step p which DoneAnswer

-- the act that a try is: one of the step with its answer, if it is done
act_if : (p : Registers) (which : Step) (o : Tried) (bits : ℕ) →
    IsActIf which (answer_of o) (acts_by p which o bits)
act_if p which Unmet bits = refl
act_if p which (Answered answer) bits = (refl, refl)
act_if p which (Released m) bits = (refl, refl)
act_if p which (Ended ledger) bits = (refl, refl)

-- no more messages are released than there is room taken
few_released : (p : Registers) (which : Step) (o : Tried) (bits ended : ℕ) → IsOf which o →
    length (releases_by ended o) ≤ room_taken (acts_by p which o bits)
few_released p which Unmet bits ended is = omega arith
few_released p which (Answered answer) bits ended is = omega arith
few_released p which (Released m) bits ended is =
    let one : room_of which ≡ 1 = ap (λ (s : Step). room_of s) is in omega (arith, one)
few_released p which (Ended ledger) bits ended is = omega arith

-- that of acts, and then of more
pub both_taken : (xs ys : List TypedAct) → room_taken (xs ++ ys) ≡ room_taken xs + room_taken ys
both_taken xs ys =
    ap (total room_of) (map-append step_of xs ys) ∙ total_append room_of (map step_of xs) (map step_of ys)
  where
    step_of : TypedAct → Step
    step_of d = d.step

module _ {N E : Type 0} {o : Orders N} (e : Ends E) where
  -- where fewer are asked for
  pub may_less : (t : DriverThread N E o) (k n : ℕ) → k ≤ n → MayWork e.node t n → MayWork e.node t k
  may_less t k n less m = record {
    bytes = m.bytes;
    set = m.set;
    active = m.active;
    lawful = m.lawful;
    room = room_less t.done.version k n (log_of t.driver) less m.room;
    own = m.own;
  }

  -- nothing was done
  unfoldable pub does_none : ((x : E) → e.same x x) → (t : DriverThread N E o) → Does e t t []
  does_none r t = record {
    version = refl;
    goes = record {
      traces = λ acts w.
          subst (λ (x : List TypedAct). Traces t.set.version (driver_of t.driver) (log_of t.driver) x)
          (sym (append-nil acts)) w;
      holds = λ acts j w h.
          subst (λ (x : List TypedAct). HoldsBy e.stands x (driver_of t.driver) (log_of t.driver) j t.end)
          (sym (append-nil acts)) h;
    };
    leads = λ before w. nothing_more;
    alike = r t.end;
    node = refl;
    same = refl;
    at_port = sym (append-nil (done_in_order t.done.known.list));
    keeps = λ k. k;
    able = λ n m. may_less t n (0 + n) (omega arith) m;
  }

  -- acts, and then more
  unfoldable pub does_more : (trans : (a b c : E) → e.same a b → e.same b c → e.same a c) → (a b c : DriverThread N E o)
      (xs ys : List TypedAct) → Does e a b xs → Does e b c ys → Does e a c (xs ++ ys)
  does_more trans a b c xs ys p q = record {
    version = q.version ∙ p.version;
    goes = record {
      traces = λ acts w.
          subst (λ (l : List TypedAct). Traces a.set.version (driver_of c.driver) (log_of c.driver) l)
          (append_assoc acts xs ys) (later.traces (acts ++ xs) (p.goes.traces acts w));
      holds = λ acts j w h.
          subst (λ (l : List TypedAct). HoldsBy e.stands l (driver_of c.driver) (log_of c.driver) j c.end)
          (append_assoc acts xs ys)
          (later.holds (acts ++ xs) j (p.goes.traces acts w) (p.goes.holds acts j w h));
    };
    leads = λ before w.
        lead_more before xs a.set b.set ys c.set (p.leads before w)
        (q.leads (before ++ xs) (subst (λ (n : ℕ). Traces n (driver_of b.driver) (log_of b.driver)
        (before ++ xs)) (sym p.version) (p.goes.traces before w)));
    alike = trans a.end b.end c.end p.alike q.alike;
    node = q.node ∙ p.node;
    same = q.same ∙ p.same;
    at_port = q.at_port ∙ ap (λ l. l ++ done_at_port ys) p.at_port
        ∙ append_assoc (done_in_order a.done.known.list) (done_at_port xs) (done_at_port ys)
        ∙ ap (λ l. done_in_order a.done.known.list ++ l) (sym (both_at_port xs ys));
    keeps = λ k. q.keeps (p.keeps k);
    able = λ n m.
        let count = both_taken xs ys in
        q.able n (p.able (room_taken ys + n)
        (may_less a (room_taken xs + (room_taken ys + n)) (room_taken (xs ++ ys) + n) (omega (arith, count)) m));
  }
    where
      -- the later acts, in the version before the first ones
      later : Goes e.stands a.set.version (driver_of b.driver) (driver_of c.driver) (log_of b.driver) (log_of c.driver)
          b.end c.end ys
      later = subst (λ (n : ℕ). Goes e.stands n (driver_of b.driver) (driver_of c.driver) (log_of b.driver)
          (log_of c.driver) b.end c.end ys) p.version q.goes

  -- and then a step is entered as done, after so many bits
  unfoldable pub does_entered : (a b : DriverThread N E o) (d : LoggedDriver) (found : ℕ) (kept : UnmodelledRegisters)
      (acts : List TypedAct) → Does e a b acts →
      d ≡ record b.driver { kept = kept; log = record (log_of b.driver) { done = (log_of d).done } } →
      done_room (log_of d) ≡ done_room (log_of b.driver) → Does e a (record b { driver = d; found = found }) acts
  does_entered a b d found kept acts p is room = rw is (record {
    version = p.version;
    goes = record {
      traces = λ before w. let t = p.goes.traces before w in record {
        released = t.released;
        opened = t.opened;
        out = t.out;
        answered = t.answered;
      };
      holds = λ before j w h. p.goes.holds before j w h;
    };
    leads = p.leads;
    alike = p.alike;
    node = p.node;
    same = p.same;
    at_port = p.at_port;
    keeps = λ k. let kept = p.keeps k in record {
      done = subst (λ (n : ℕ). KeepsAll n) (sym room) kept.done;
      releases = kept.releases;
      left = kept.left;
    };
    able = λ n m. let may = p.able n m in record {
      bytes = may.bytes;
      set = may.set;
      active = may.active;
      lawful = record { own = may.lawful.own; few = may.lawful.few };
      room = record { releases = may.room.releases; left = may.room.left };
      own = may.own;
    };
  })

  -- ---- a try

  -- it may be made, at a port of the version of the driver's list
  pub may_try : (t : DriverThread N E o) → MayWork e.node t 1 → MayStep e.node t.done.version t.driver t.end
  may_try t may = record { lawful = may.lawful; room = may.room; own = may.own }

  -- and one of a window or a release, which the log has room for
  pub may_release : (t : DriverThread N E o) → MayWork e.node t 1 → MayRelease e.node t.driver t.end
  may_release t may = let r = may.room.releases in
      record { lawful = may.lawful; room = omega (arith, r); own = may.own }

  -- an act that isn't done yet
  pub act_none : ((x : E) → e.same x x) → (t : DriverThread N E o) (s : Step) → DoesAct e t t s None
  unfolding does_none
  act_none r t s = record {
    acts = [];
    are = refl;
    does = does_none r t;
    counts = counts_none t;
    none = record { done = refl; kept = refl };
  }

  -- and another try
  pub act_then : (trans : (a b c : E) → e.same a b → e.same b c → e.same a c) → (a b c : DriverThread N E o) (s : Step)
      (answer : Option StepAnswer) → DoesAct e a b s None → DoesAct e b c s answer → DoesAct e a c s answer
  unfolding does_more
  act_then trans a b c s answer p q = record {
    acts = q.acts;
    are = q.are;
    does = subst (λ (l : List TypedAct). Does e a c (l ++ q.acts)) p.are
        (does_more trans a b c p.acts q.acts p.does q.does);
    counts = subst (λ (l : List TypedAct). CountsOn a c (l ++ q.acts)) p.are
        (counts_more a b c p.acts q.acts p.counts q.counts);
    none = record { done = q.none.done ∙ p.none.done; kept = q.none.kept ∙ p.none.kept };
  }

  -- as much may be done then as before
  pub act_able : (a b : DriverThread N E o) (s : Step) (n : ℕ) → DoesAct e a b s None → MayWork e.node a n →
      MayWork e.node b n
  act_able a b s n p may =
      p.does.able n (may_less a (room_taken p.acts + n) n
      (let none : room_taken p.acts ≡ 0 = ap (λ (l : List TypedAct). room_taken l) p.are in omega (arith, none)) may)

  -- a try of an act
  pub does_try : ((x y : E) → e.same x y → e.node y ≡ e.node x) → (a b : DriverThread N E o) (p q : Registers)
      (which : Step) (answer : Option StepAnswer) (bits : ℕ) → b.bytes ≡ a.bytes → HasSettings p a.set →
      ((s : StepAnswer) → answer ≡ Some s → b.set ≡ settings_in q) → (answer ≡ None → b.set ≡ a.set) →
      (is_at_port which ≡ false → bits ≡ a.found) → ((s : StepAnswer) → answer ≡ Some s → b.found ≡ bits) →
      (answer ≡ None → b.found ≡ a.found) → NotesAct a.done b.done which answer bits a.set b.set →
      StaysLawful e.same e.stands a.driver b.driver a.end b.end answer →
      Steps e.same e.stands e.dry e.full a.driver b.driver a.end b.end p q which answer → (o : Option StepAnswer) →
      answer ≡ o → DoesAct e a b which o
  does_try node_same a b p q which answer bits bytes has met unmet away finds kept notes stays steps told is =
      record {
        acts = acts_by p which steps.tried bits;
        are = subst (λ (o : Option StepAnswer). IsActIf which o (acts_by p which steps.tried bits))
            (sym (sym is ∙ steps.met)) (act_if p which steps.tried bits);
        counts = record {
          are = try_counted p which a.found bits steps.tried away;
          found = try_found p which a.found bits steps.tried b.found (λ s k. finds s (steps.met ∙ k))
              (λ k. kept (steps.met ∙ k));
        };
        does = record {
          version = version_is answer refl;
          goes = subst (λ (n : ℕ). Goes e.stands n (driver_of a.driver) (driver_of b.driver) (log_of a.driver)
              (log_of b.driver) a.end b.end (acts_by p which steps.tried bits)) has.version (steps.goes bits);
          leads = λ before w.
              leads_try (same_on e.same e.stands used) (on e.stands used) (is_on e.dry used) (is_on e.full used) a.end
              b.end p q which (driver_of a.driver) (driver_of b.driver) a.set b.set has steps.tried bits
              (λ s k. met s (steps.met ∙ k)) (λ k. unmet (steps.met ∙ k)) steps.acts before
              (ap is_active (append-nil before) ∙ w.out);
          alike = stays.same;
          node = stays.node;
          same = notes_node a.done b.done which answer bits a.set b.set notes;
          at_port = notes_at_port a.done b.done p which steps.tried answer bits a.set b.set notes steps.met;
          keeps = λ k. record {
            done = subst (λ (n : ℕ). KeepsAll n) (sym (ap (λ l. l.room) stays.done)) k.done;
            releases = subst (λ (n : ℕ). KeepsAll n) (sym steps.release_room) k.releases;
            left = subst (λ (n : ℕ). KeepsAll n) (sym steps.left_room) k.left;
          };
          able = λ n may. record {
            bytes = bytes ∙ may.bytes ∙ ap (λ (v : ℕ). by_bytes v) (sym (version_is answer refl));
            set = notes_set a.done b.done which answer bits a.set b.set notes unmet may.set;
            active = notes_active a.done b.done which steps.tried answer bits a.set b.set (is_out (driver_of a.driver))
                notes steps.met may.active ∙ sym steps.acts.out;
            lawful = stays.lawful;
            room = subst (λ (v : ℕ). HasRoom v n (log_of b.driver))
                (sym (notes_version a.done b.done which answer bits a.set b.set notes))
                (room a.done.version n may.room);
            own = node_same a.end b.end stays.same ∙ may.own ∙ sym stays.node;
          };
        };
        none = record { done = stays.done; kept = stays.kept };
      }
    where
      used : ℕ
      used = link_used (driver_of a.driver)

      -- no step changes the port's version
      port_is : q.version ≡ p.version
      port_is = ap (λ (r : Registers). r.version) steps.acts.port ∙ version_after p which steps.tried

      version_is : (o : Option StepAnswer) → answer ≡ o → b.set.version ≡ a.set.version
      version_is (Some s) e = ap (λ (s : SettingsValue). s.version) (met s e) ∙ port_is ∙ has.version
      version_is None e = ap (λ (s : SettingsValue). s.version) (unmet e)

      -- a release alone takes room
      room : (version n : ℕ) → HasRoom version (room_taken (acts_by p which steps.tried bits) + n) (log_of a.driver) →
          HasRoom version n (log_of b.driver)
      room version n h =
          let releases = releases_by (ended_of a.driver) steps.tried in
          let few = few_released p which steps.tried bits (ended_of a.driver) steps.acts.kind in
          let long = ap length steps.releases ∙ length-append (releases_in (log_of a.driver)) releases in
          let fits = h.releases in let left = h.left in let same = steps.release_room in let stay = steps.left_room in
          record { releases = omega (arith, few, long, fits, same); left = omega (arith, left, stay) }
