-- One step of a driver's script: it is done, or a gate breaks it off.
use Rattle.std.proofs.Common.{◌≡◌, ◌+◌, ◌++◌, ℕ, Bool, true, false, Option, Some, None, List, [], ◌∷◌}
use Rattle.std.proofs.Common.{inl, length, map, refl, sym, ap, ◌∙◌, subst, arith, append-nil}
use Rattle.sja_link.specs.declared.driver_end.DriverEnd.{Ghosts as Ends}
use Rattle.sja_regs.specs.declared.registers.Registers.{Registers}
use Rattle.sja_regs.specs.DriverSettings.{HasSettings}
use Rattle.sja_steps.specs.declared.step.Step.{Step}
use Rattle.sja_steps.specs.declared.step.Step.TheVariants.{Read, Write}
use Rattle.sja_steps.specs.declared.step_answer.StepAnswer.{StepAnswer}
use Rattle.sja_driver.specs.StepRuns.{Answers, by_bytes, act_steps, kept_written}
use Rattle.sja_driver.specs.AnyDrivers.{is_out}
use Rattle.sja_driver.specs.TypedActs.{TypedAct, is_active}
use Rattle.sja_driver.specs.Drivers.{nothing_seen}
use Rattle.sja_driver.specs.LoggedDrivers.{driver_of, log_of, kept_of}
use Rattle.sja_driver.specs.Logs.{done_in, done_room}
use Rattle.sja_driver.specs.declared.unmodelled_registers.UnmodelledRegisters.{UnmodelledRegisters}
use Rattle.sja_driver.specs.declared.logged_driver.LoggedDriver.{LoggedDriver}
use Rattle.sja_driver.specs.declared.write_steps.WriteSteps.{WriteSteps}
use Rattle.sja_driver.specs.declared.written.Written.{Written}
use Rattle.sja_driver.specs.Ignoring.{write_answer}
use Rattle.sja_driver.specs.Kept.{moved_by_answer}
use Rattle.sja_driver.specs.WriteLists.{steps_in}
use Rattle.sja_driver.specs.Writes.{write_steps}
use Rattle.sja_driver.specs.Written.{written_at, written_by}
use Rattle.sja_driver.proofs.Bytes.Writing.{ignored_then, kept_then}
use Rattle.sja_threads.specs.declared.order.Order.{Ghosts as Orders}
use Rattle.sja_threads.specs.declared.driver_thread.DriverThread.{DriverThread}
use Rattle.sja_thread_promises.specs.Accessing.{IsStepRunAt, IsBrokenOff, LeadOn}
use Rattle.sja_thread_promises.specs.Accessing.IsBrokenOff.{not_begun, begun}
use Rattle.sja_threads.specs.Inside.StepRuns.{HasOneAct, IsTold, BeginsWrite, DoesStep, BreaksOff}
use Rattle.sja_threads.specs.Inside.Steps.{MayStep, DoesAct, DoesParts, IsActIf, LastTakes, room_taken}
use Rattle.sja_threads.proofs.Driver.Kinds.{step_run_at}
use Rattle.sja_threads.proofs.Driver.Parts.{parts_able, parts_taken}
use Rattle.sja_threads.proofs.Driver.Room.{one_at_most, one_together, write_last}
use Rattle.sja_threads.proofs.Driver.Settings.{done_from}
use Rattle.sja_threads.proofs.Driver.Steps.{may_less, does_none, does_entered}

-- of a write that began so only the last of its acts takes room in the log
pub begun_last : {N E : Type 0} {o : Orders N} (t : DriverThread N E o) (address value : ℕ) (steps : List Step)
    (written : Written) → BeginsWrite t address value steps written → LastTakes steps
begun_last t address value steps written b =
    subst LastTakes (sym b.steps_are) (write_last b.at (is_out (driver_of t.driver)) address value)

-- one act that is of this step and has this answer
pub record IsOneOf (s : Step) (answer : StepAnswer) (acts : List TypedAct) : Type 0 where
  pub act : TypedAct
  pub are : acts ≡ act ∷ []
  pub step : act.step ≡ s
  pub answered : act.answer ≡ answer

pub one_of : (s : Step) (answer : StepAnswer) (acts : List TypedAct) → IsActIf s (Some answer) acts →
    IsOneOf s answer acts
one_of s answer [] is = absurd (let none : [] ≡ s ∷ [] = is.0 in cc)
one_of s answer (d ∷ []) is = record {
  act = d;
  are = refl;
  step = first_step d.step s is.0;
  answered = first_answer d.answer answer is.1;
}
  where
    first_step : (a b : Step) → a ∷ [] ≡ b ∷ [] → a ≡ b
    first_step a b e = cc

    first_answer : (a b : StepAnswer) → a ∷ [] ≡ b ∷ [] → a ≡ b
    first_answer a b e = cc
one_of s answer (d ∷ x ∷ acts) is =
    absurd (let two = ap (λ (l : List Step). length l) is.0 in omega (arith, two))

module _ {N E : Type 0} {o : Orders N} (e : Ends E) (was mid : DriverThread N E o) (d : LoggedDriver) where
  abbrev now : DriverThread N E o
  now = record mid { driver = d }

  -- the step is entered as done, after as many bits as it found
  abbrev pub Entered : UnmodelledRegisters → StepAnswer → Type 0
  Entered kept answer =
      (d ≡ record mid.driver { kept = kept; log = record (log_of mid.driver) { done = (log_of d).done } })
      × (done_in (log_of d) ≡ done_in (log_of mid.driver) ++ record { answer = answer; bits = mid.found } ∷ [])
      × (done_room (log_of d) ≡ done_room (log_of mid.driver))

  -- ---- a step that is one act

  pub step_done : (s : Step) (given : Option StepAnswer) (answer told : StepAnswer) (kept moved : UnmodelledRegisters) →
      given ≡ Some answer → DoesAct e was mid s given → Entered moved told → MayStep e.node was 1 →
      HasOneAct was.bytes s →
      (p : Registers) × HasSettings p was.set × (kept ≡ kept_written p (kept_of was.driver) s) →
      moved ≡ moved_by_answer kept answer → IsTold was.bytes kept s answer told → DoesStep e was now s
  unfolding does_entered
  step_done s given answer told kept moved some q entered may one written by is = record {
    step_run = record { step = s; answer = told; bits = mid.found; acts = q.acts };
    step_is = refl;
    does = does_entered e was mid d mid.found moved q.acts q.does entered.0 entered.2;
    few = let most = one_at_most this.act.step in let one = ap (λ (l : List TypedAct). room_taken l) this.are in
        omega (arith, most, one);
    counts = (q.counts.are, inl q.counts.found);
    found = refl;
    is = λ before w.
        let from = done_from before was.set this.act mid.set
        (subst (λ (l : List TypedAct). LeadOn before was.set l mid.set) this.are (q.does.leads before w)) in
        subst (λ (l : List TypedAct). IsStepRunAt was.set.version was.set (is_active before) (kept_of was.driver)
        (record { step = s; answer = told; bits = mid.found; acts = l }) (kept_of d)) (sym this.are)
        (subst (λ (k : UnmodelledRegisters). IsStepRunAt was.set.version was.set (is_active before) (kept_of was.driver)
        (record { step = s; answer = told; bits = mid.found; acts = this.act ∷ [] }) k)
        (sym (ap (λ (x : LoggedDriver). kept_of x) entered.0))
        (step_run_at was.set.version was.set (is_active before) (kept_of was.driver) kept moved this.act told mid.found
        from written.0 written.1 (by ∙ ap (λ (a : StepAnswer). moved_by_answer kept a) (sym this.answered)) s was.bytes
        may.may.bytes this.step one
        (subst (λ (a : StepAnswer). IsTold was.bytes kept s a told) (sym this.answered) is) written.2));
    done = entered.1 ∙ ap (λ v. v.items ++ record { answer = told; bits = mid.found } ∷ []) q.none.done;
    room = entered.2 ∙ ap (λ v. v.room) q.none.done;
  }
    where
      this : IsOneOf s answer q.acts
      this = one_of s answer q.acts (subst (λ (g : Option StepAnswer). IsActIf s g q.acts) some q.are)

  -- ---- a write of a driver that knows addresses and bytes alone

  pub write_done : (address value : ℕ) (steps : WriteSteps) (m : Bool) (on moved : Written) (told : StepAnswer) →
      m ≡ true → BeginsWrite was address value (steps_in steps) on → DoesParts e was mid (steps_in steps) m on moved →
      Entered moved.kept told → told ≡ write_answer moved.ignored → by_bytes was.set.version ≡ true →
      DoesStep e was now (Write address value)
  unfolding does_entered
  write_done address value steps m on moved told all_met b q entered told_is bytes = record {
    step_run = record { step = Write address value; answer = told; bits = mid.found; acts = q.acts };
    step_is = refl;
    does = does_entered e was mid d mid.found moved.kept q.acts q.does entered.0 entered.2;
    few = let few = parts_taken e was mid (steps_in steps) m on moved q in
        let one = one_together (steps_in steps) (begun_last was address value (steps_in steps) on b) in
        omega (arith, few, one);
    counts = (q.counts.are, inl q.counts.found);
    found = refl;
    is = λ before w. record {
      at = b.at;
      seen = nothing_seen;
      has = b.has;
      is = record {
        steps = subst (λ (k : Bool). map (λ (x : TypedAct). x.step) q.acts
            ≡ act_steps k b.at (is_active before) (Write address value)) (sym bytes)
            (whole ∙ ap (λ (k : Bool). write_steps b.at k address value) (sym w.out));
        answer = subst (λ (k : Bool). Answers k b.at nothing_seen (kept_of was.driver) mid.found (Write address value)
            q.acts told) (sym bytes) (told_is ∙ ap (λ (w : Written). write_answer w.ignored) went
            ∙ ap write_answer (ignored_then begun q.acts));
        left = ap (λ (x : LoggedDriver). kept_of x) entered.0 ∙ ap (λ (w : Written). w.kept) went
            ∙ kept_then begun q.acts;
      };
      read = λ other x same acts. absurd (let two : Write address value ≡ Read other = same in cc);
    };
    done = entered.1 ∙ ap (λ v. v.items ++ record { answer = told; bits = mid.found } ∷ []) q.none.done;
    room = entered.2 ∙ ap (λ v. v.room) q.none.done;
  }
    where
      begun : Written
      begun = written_at b.at (kept_of was.driver) address value

      went : moved ≡ written_by begun q.acts
      went = q.moved ∙ ap (λ (w : Written). written_by w q.acts) b.begun

      whole : map (λ (x : TypedAct). x.step) q.acts ≡ write_steps b.at (is_out (driver_of was.driver)) address value
      whole = sym (append-nil (map (λ (x : TypedAct). x.step) q.acts))
          ∙ ap (λ (l : List Step). map (λ (x : TypedAct). x.step) q.acts ++ l) (sym (q.ends all_met)) ∙ sym q.whole
          ∙ b.steps_are

-- ---- a gate breaks it off

module _ {N E : Type 0} {o : Orders N} (e : Ends E) (was : DriverThread N E o) (may : MayStep e.node was 1) where
  -- before anything of it was done
  pub broken_before : ((x : E) → e.same x x) → (s : Step) → BreaksOff e was was s
  unfolding does_none
  broken_before r s = record {
    acts = [];
    does = does_none e r was;
    counts = tt;
    none = record { done = refl; kept = refl };
    lawful = may.may.lawful;
    broken = λ left. not_begun;
  }

  -- before its one act was done
  pub step_broken : (last : DriverThread N E o) (s : Step) (given : Option StepAnswer) → given ≡ None →
      DoesAct e was last s given → BreaksOff e was last s
  step_broken last s given none q =
      let are : q.acts ≡ [] = subst (λ (g : Option StepAnswer). IsActIf s g q.acts) none q.are in record {
        acts = q.acts;
        does = q.does;
        counts = q.counts.are;
        none = q.none;
        lawful = (q.does.able 0 (may_less e was (room_taken q.acts + 0) 1
            (let none : room_taken q.acts ≡ 0 = ap (λ (l : List TypedAct). room_taken l) are in omega (arith, none))
            may.may)).lawful;
        broken = λ left. subst (λ (l : List TypedAct). IsBrokenOff was.set.version was.set
            (is_out (driver_of was.driver))
            (s ∷ left) l) (sym are) not_begun;
      }

  -- with some of a write left
  pub write_broken : (last : DriverThread N E o) (address value : ℕ) (steps : WriteSteps) (m : Bool)
      (on on_now : Written) → m ≡ false → BeginsWrite was address value (steps_in steps) on →
      DoesParts e was last (steps_in steps) m on on_now → by_bytes was.set.version ≡ true →
      BreaksOff e was last (Write address value)
  write_broken last address value steps m on on_now unmet b q bytes = record {
    acts = q.acts;
    does = q.does;
    counts = q.counts.are;
    none = q.none;
    lawful = (parts_able e was last (steps_in steps) m on on_now q 0 1
        (let one = one_together (steps_in steps) (begun_last was address value (steps_in steps) on b) in
        omega (arith, one)) may.may).lawful;
    broken = λ left. begun address value b.at q.left bytes b.has (sym b.steps_are ∙ q.whole) (q.waits unmet);
  }
