-- What follows a turn of a node in a run follows, with that turn, from where the run stood before.
use Rattle.std.proofs.Common.{◌≡◌, ℕ, ◌+◌, ◌<◌, false, List, [], ◌∷◌}
use Rattle.std.proofs.Common.{◌++◌, append_assoc, length, map, take, sym, ap, ◌∙◌, subst, arith, inl, inr}
use Rattle.std.specs.Prelude.{set, slice_index, slice_index_or}
use Rattle.std.proofs.Math.Nat.{min-le_right}
use Rattle.std.proofs.lemmas.List.{length-append, length-take, get_or-set_same, get_or-append-add}
use Rattle.std.proofs.lemmas.List.{get_or_append_left, length-map}
use Rattle.sja_journal.specs.NodeWords.{NodeEntry}
use Rattle.sja_journal.specs.declared.entry.Entry.{Entry}
use Rattle.sja_journal.specs.Places.{place_of}
use Rattle.sja_journal.proofs.JournalEntries.Entering.{bits_counted}
use Rattle.sja_bus_rules.specs.Wire.{journal_at}
use Rattle.sja_plan.specs.Plan.{PlanValue, steps_at}
use Rattle.sja_plan.specs.declared.turn.Turn.{Turn}
use Rattle.sja_plan.specs.declared.turn.Turn.TheVariants.{Node, All}
use Rattle.sja_regs.specs.declared.registers.Registers.{Registers}
use Rattle.sja_regs.specs.InterruptLine.{is_line_active}
use Rattle.sja_regs.specs.Registers.{at_power_on}
use Rattle.sja_steps.specs.declared.step.Step.{Step}
use Rattle.sja_steps.specs.declared.step.Step.TheVariants.{Start, Stop, Window, Release, Read}
use Rattle.sja_steps.specs.declared.step.Step.TheVariants.{Write, Load, Command, Await, Sent, Interrupt, At}
use Rattle.sja_driver.specs.StepRuns.{StepRun, step_runs_at, by_bytes, acts_in}
use Rattle.sja_driver.specs.TypedActs.{TypedAct, is_active, opened_by}
use Rattle.sja_log.specs.declared.end.End.{End}
use Rattle.sja_promises.specs.Registering.{LeadTo, seen_now}
use Rattle.sja_driver.specs.NodeRest.{IsHolding}
use Rattle.sja_promises.specs.Turns.{Progress, with_steps, IsUnmet, IsStuck, DoesSteps, DoesAll, RunsTo}
use Rattle.sja_promises.specs.Turns.RunsTo.{node, all as all_steps}
use Rattle.sja_driver.specs.Windows.{off_by, window_of}
use Rattle.sja_serial.specs.Ending.{progress, setup_of}
use Rattle.sja_serial.specs.Inside.SerialProgress.{TakesTurn, CannotStep}
use Rattle.sja_serial.specs.Inside.Rounds.{past_all}
use Rattle.sja_serial.specs.Serial.{SerialValue, StandsAt, all_acts}
use Rattle.sja_serial.specs.Stepping.{with_step_runs}
use Rattle.sja_promises.specs.Waiting.{HasToWait}
use Rattle.sja_promises.proofs.Trace.Stays.{version_led}
use Rattle.sja_serial.proofs.WholeRun.GoingOn.{run_acts_of, GoesOn, ArePresent, length_at, lengths_set, acts_then}
use Rattle.sja_serial.proofs.WholeRun.GoingOn.{entries_then, record_then, registers_then, window_then, off_then}

-- the steps in between
middle_at : (xs more after : List StepRun) (i n : ℕ) (d : StepRun) → n ≡ length xs + i → i < length more →
    slice_index_or ((xs ++ more) ++ after) n d ≡ slice_index_or more i d
middle_at xs more after i n d e less =
    ap (λ m. slice_index_or ((xs ++ more) ++ after) m d) e
    ∙ ap (λ l. slice_index_or l (length xs + i) d) (append_assoc xs more after)
    ∙ get_or-append-add xs (more ++ after) i d ∙ get_or_append_left more after d i less

module _ (plan : PlanValue) (r : SerialValue) (step_runs : List (List StepRun)) (journals : List (List Entry))
    (all : List (List StepRun)) (h : StandsAt (setup_of plan) r (all_acts step_runs)) (present : ArePresent
    (setup_of plan) r)
    (go : GoesOn (setup_of plan) r step_runs journals all) (k : ℕ) (less : k < length plan.nodes) where
  pub place_is : (place_of (journal_at r.bus.journals k)).bits ≡ r.bits
  place_is = bits_counted (journal_at r.bus.journals k) ∙ (present k less).bits_are

  abbrev port : Registers
  port = slice_index_or r.ports k (at_power_on 1)

  pub unmet_then : (s : Step) → HasToWait port (journal_at r.bus.journals k) (acts_in (step_runs_at step_runs k)) s →
      IsUnmet plan.version (journal_at journals k) (acts_in (step_runs_at step_runs k)) r.bits s
  unmet_then (Await count) w = (
    w.0,
    off_then (setup_of plan) r step_runs journals all h present go k (opened_by (acts_in (step_runs_at step_runs k)))
        less
        ∙ ap (λ n. off_by n (journal_at r.bus.journals k) (opened_by (acts_in (step_runs_at step_runs k))))
        (sym (place_is)) ∙ w.1,
    subst (λ (m : ℕ). m < count) (ap (λ n. length (window_of (journal_at r.bus.journals k)
        (acts_in (step_runs_at step_runs k)) n))
        place_is ∙ ap (λ l. length l) (sym (window_then (setup_of plan) r step_runs journals all h present go k less)))
        w.2,
  )
  unmet_then Sent w = (
    w.0,
    subst (λ (l : List NodeEntry). IsHolding l) (sym (record_then (setup_of plan) r step_runs journals all h present go
        k
        less)) w.1,
  )
  unmet_then Interrupt w =
      let back = sym (entries_then (setup_of plan) r step_runs journals all h present go k less) in record {
        registers = port;
        lead = subst (λ (l : List Entry). LeadTo plan.version l (acts_in (step_runs_at step_runs k)) port) back
            (registers_then (setup_of plan) r step_runs journals all h present go k (at_power_on 1) less);
        inactive = subst (λ (l : List Entry).
            is_line_active port (seen_now (is_active (acts_in (step_runs_at step_runs k))) l
            (acts_in (step_runs_at step_runs k))) ≡ false) back w;
      }
  unmet_then (At least) w = (
    ap by_bytes (sym (version_led plan.version (journal_at r.bus.journals k) (acts_in (step_runs_at step_runs k)) port
        (registers_then (setup_of plan) r step_runs journals all h present go k (at_power_on 1) less))) ∙ w.0,
    subst (λ (n : ℕ). n < least) place_is w.1,
  )
  unmet_then Start w = absurd w
  unmet_then Stop w = absurd w
  unmet_then Window w = absurd w
  unmet_then Release w = absurd w
  unmet_then (Read x) w = absurd w
  unmet_then (Write x y) w = absurd w
  unmet_then (Load m) w = absurd w
  unmet_then (Command v) w = absurd w

  stuck_then : CannotStep plan r step_runs k → IsStuck (run_acts_of plan journals all) (progress r step_runs) k
  stuck_then (inl none) = record { why = inl (let n = length_at step_runs k in omega (arith, none, n)) }
  stuck_then (inr waits) = record {
    why = inr (λ s.
        let u = unmet_then (slice_index_or (steps_at plan k) (length (step_runs_at step_runs k)) s)
        (waits s (at_power_on 1)) in
        subst (λ (n : ℕ). IsUnmet plan.version (journal_at journals k)
        (acts_in (take (slice_index (map (λ (l : List StepRun). length l) step_runs) k) (step_runs_at all k))) r.bits
        (slice_index_or (steps_at plan k) n s)) (sym (length_at step_runs k))
        (subst (λ (l : List TypedAct). IsUnmet plan.version (journal_at journals k) l r.bits
        (slice_index_or (steps_at plan k) (length (step_runs_at step_runs k)) s))
        (sym (acts_then (setup_of plan) r step_runs journals all go k less)) u));
  }

-- a turn of a node
module _ (plan : PlanValue) (was now : SerialValue) (k count : ℕ) (step_runs : List (List StepRun))
    (journals : List (List Entry)) (all : List (List StepRun)) (h : StandsAt (setup_of plan) was (all_acts step_runs))
    (t : TakesTurn plan was now k count step_runs) (present : ArePresent (setup_of plan) now)
    (go : GoesOn (setup_of plan) now (with_step_runs step_runs k t.more) journals all) (less : k < length plan.nodes)
  where
    there : k < length step_runs
    there = let c = h.acts_count in let l = length-map step_runs (λ (x : List StepRun). acts_in x) in
        omega (arith, c, l, less)

    pub steps_on : progress now (with_step_runs step_runs k t.more) ≡ with_steps (progress was step_runs) k
        (length t.more)
    steps_on =
        let n = length_at step_runs k in let both = length-append (step_runs_at step_runs k) t.more in
        let many : length (step_runs_at step_runs k ++ t.more) ≡ slice_index
        (map (λ (l : List StepRun). length l) step_runs) k + length t.more = omega (arith, n, both) in
        let done : map (λ (l : List StepRun). length l) (with_step_runs step_runs k t.more) ≡ set
        (map (λ (l : List StepRun). length l) step_runs) k
        (slice_index (map (λ (l : List StepRun). length l) step_runs) k + length t.more) =
        sym (lengths_set step_runs k (step_runs_at step_runs k ++ t.more))
        ∙ ap (λ m. set (map (λ (l : List StepRun). length l) step_runs) k m) many in
        λ i. let p : Progress = record { bits = t.bits i; done = done i } in p

    here : step_runs_at (with_step_runs step_runs k t.more) k ≡ step_runs_at step_runs k ++ t.more
    here = get_or-set_same step_runs k (step_runs_at step_runs k ++ t.more) [] there

    all_here : step_runs_at all k ≡ (step_runs_at step_runs k ++ t.more) ++ (go.steps_go k less).0
    all_here = (go.steps_go k less).1 ∙ ap (λ l. l ++ (go.steps_go k less).0) here

    pub does : DoesSteps (run_acts_of plan journals all) (progress was step_runs) k count (length t.more)
    does = record {
      most = t.most;
      exist =
          let n = length_at step_runs k in let w = ap (λ l. length l) all_here in let after = (go.steps_go k less).0 in
          let one = length-append (step_runs_at step_runs k ++ t.more) after in
          let two = length-append (step_runs_at step_runs k) t.more in omega (arith, n, w, one, two);
      now = λ i x few.
          let n = length_at step_runs k in
          let e : slice_index (map (λ (l : List StepRun). length l) step_runs) k + i ≡ length
          (step_runs_at step_runs k) + i
          = omega
          (arith, n) in
          ap (λ (y : StepRun). y.bits) (ap (λ l. slice_index_or l
          (slice_index (map (λ (l : List StepRun). length l) step_runs) k + i) x) all_here
          ∙ middle_at (step_runs_at step_runs k) t.more (go.steps_go k less).0 i _ x e few)
          ∙ t.at_once i x few;
      stuck = λ few. subst (λ (p : Progress). IsStuck (run_acts_of plan journals all) p k) steps_on
          (stuck_then plan now (with_step_runs step_runs k t.more) journals all t.stands.by.stands present go k less
          (t.stuck few));
    }

    pub node_whole : (turns : List Turn) (q : Progress) (end : End) →
        RunsTo (run_acts_of plan journals all) (progress now (with_step_runs step_runs k t.more)) turns q end →
        RunsTo (run_acts_of plan journals all) (progress was step_runs) (Node k count ∷ turns) q end
    node_whole turns q end follows = node (progress was step_runs) q k count (length t.more) turns end does
        (subst (λ (p : Progress). RunsTo (run_acts_of plan journals all) p turns q end) steps_on follows)

    -- all that the driver can do
    pub does_all : count ≡ past_all plan k →
        DoesAll (run_acts_of plan journals all) (progress was step_runs) k (length t.more)
    does_all past = record {
      most = omega arith;
      exist = does.exist;
      now = does.now;
      stuck = λ few. does.stuck (let l = ap (λ (s : List Step). length s) (t.stands.first k less) in
          let first = ap (λ (l : List StepRun). length l) here in
          let m = length-map (step_runs_at (with_step_runs step_runs k t.more) k) (λ (a : StepRun). a.step) in
          let n = length-take (length (step_runs_at (with_step_runs step_runs k t.more) k)) (steps_at plan k) in
          let low = min-le_right (length (step_runs_at (with_step_runs step_runs k t.more) k))
          (length (steps_at plan k)) in
          let both = length-append (step_runs_at step_runs k) t.more in
          omega (arith, past, l, first, m, n, low, both));
    }

    pub node_all : count ≡ past_all plan k → (turns : List Turn) (q : Progress) (end : End) →
        RunsTo (run_acts_of plan journals all) (progress now (with_step_runs step_runs k t.more)) turns q end →
        RunsTo (run_acts_of plan journals all) (progress was step_runs) (All k ∷ turns) q end
    node_all past turns q end follows = all_steps (progress was step_runs) q k (length t.more) turns end (does_all past)
        (subst (λ (p : Progress). RunsTo (run_acts_of plan journals all) p turns q end) steps_on follows)
