-- What follows a round, in which each driver does all that it can, follows, with that round, from where the run stood.
use Rattle.std.proofs.Common.{◌≡◌, ℕ, suc, ◌<◌, List, [], ◌++◌, length, refl, sym, ap, ◌∙◌, subst, arith}
use Rattle.std.proofs.Common.{append_assoc, inl, inr}
use Rattle.std.proofs.lemmas.Bool.{cases_eq}
use Rattle.std.proofs.lemmas.List.{get_or-set_same, get_or-set_other, length-map}
use Rattle.sja_journal.specs.declared.entry.Entry.{Entry}
use Rattle.sja_bus_rules.specs.Wire.{journal_at}
use Rattle.sja_plan.specs.Plan.{PlanValue}
use Rattle.sja_driver.specs.StepRuns.{StepRun, step_runs_at, acts_in}
use Rattle.sja_promises.specs.Turns.{Progress, AllDo, NoneLeft, SomeLeft, with_steps}
use Rattle.sja_promises.specs.Turns.AllDo.{no_node_more, one_node as one_driver}
use Rattle.sja_promises.proofs.NodeLog.Onward.{extends_items, bits_items, aborts_items}
use Rattle.sja_serial.specs.Ending.{progress, setup_of}
use Rattle.sja_serial.specs.Inside.SerialProgress.{StandsIn, TakesTurn}
use Rattle.sja_serial.specs.Inside.Rounds.{TakesAll, NoneIsLeft, SomeIsLeft, past_all}
use Rattle.sja_serial.specs.Inside.Rounds.TakesAll.{no_node_more as no_more, one_node}
use Rattle.sja_serial.specs.Serial.{SerialValue, StandsAt, all_acts}
use Rattle.sja_serial.specs.Stepping.{with_step_runs}
use Rattle.sja_serial.proofs.WholeRun.GoingOn.{run_acts_of, GoesOn, ArePresent, length_at}
use Rattle.sja_serial.proofs.WholeRun.AfterNodeTurn.{steps_on, does_all}

-- ---- one turn of a node

module _ {plan : PlanValue} {was now : SerialValue} {k count : ℕ} {step_runs : List (List StepRun)}
    (t : TakesTurn plan was now k count step_runs) where
  pub present_turn : ArePresent (setup_of plan) was → ArePresent (setup_of plan) now
  present_turn present m few =
      let p = present m few in let more = t.items m few in record {
        bits_are = bits_items (journal_at was.bus.journals m) (journal_at now.bus.journals m) more ∙ p.bits_are
            ∙ sym t.bits;
        aborts = aborts_items (journal_at was.bus.journals m) (journal_at now.bus.journals m) more p.aborts;
      }

  -- the steps so far, where one node had more
  steps_back : (all : List (List StepRun)) → k < length step_runs → ((m : ℕ) → m < length plan.nodes →
      (rest : List StepRun) × (step_runs_at all m ≡ step_runs_at (with_step_runs step_runs k t.more) m ++ rest)) →
      (m : ℕ) → m < length plan.nodes → (rest : List StepRun) × (step_runs_at all m ≡ step_runs_at step_runs m ++ rest)
  steps_back all inside go m few =
      let g = go m few in
      elim (cases_eq k m) [
        | inl e ↦ here g e
        | inr differ ↦ (
          g.0,
          g.1 ∙ ap (λ l. l ++ g.0) (get_or-set_other step_runs k m (step_runs_at step_runs k ++ t.more) []
              (λ e. differ (sym e))),
        )
      ]
    where
      here : ((rest : List StepRun) × (step_runs_at all m ≡ step_runs_at (with_step_runs step_runs k t.more) m
          ++ rest)) →
          k ≡ m → (rest : List StepRun) × (step_runs_at all m ≡ step_runs_at step_runs m ++ rest)
      here g e = (
        t.more ++ g.0,
        g.1 ∙ ap (λ n. step_runs_at (with_step_runs step_runs k t.more) n ++ g.0) (sym e)
            ∙ ap (λ l. l ++ g.0) (get_or-set_same step_runs k (step_runs_at step_runs k ++ t.more) [] inside)
            ∙ append_assoc (step_runs_at step_runs k) t.more g.0
            ∙ ap (λ n. step_runs_at step_runs n ++ (t.more ++ g.0)) e,
      )

  pub back_turn : (journals : List (List Entry)) (all : List (List StepRun)) → StandsIn plan was step_runs →
      k < length plan.nodes → GoesOn (setup_of plan) now (with_step_runs step_runs k t.more) journals all →
      GoesOn (setup_of plan) was step_runs journals all
  back_turn journals all h less go = record {
    journals_go = λ m few. extends_items (journal_at was.bus.journals m) (journal_at now.bus.journals m)
        (journal_at journals m) (t.items m few) (go.journals_go m few);
    steps_go = steps_back all (let n = h.by.stands.acts_count in
        let l = length-map step_runs (λ (x : List StepRun). acts_in x) in omega (arith, n, l, less)) go.steps_go;
  }

-- ---- a round

module _ {plan : PlanValue} where
  pub stands_round : (k : ℕ) (step_runs : List (List StepRun)) (was : SerialValue) (after : List (List StepRun))
      (now : SerialValue) → TakesAll plan k step_runs was after now → StandsIn plan was step_runs →
      StandsIn plan now after
  stands_round k step_runs was after now (no_more _ _ _ _) h = h
  stands_round k step_runs was after now (one_node _ _ _ _ mid _ less t rest) h =
      stands_round (suc k) (with_step_runs step_runs k t.more) mid after now rest t.stands

  pub present_round : (k : ℕ) (step_runs : List (List StepRun)) (was : SerialValue) (after : List (List StepRun))
      (now : SerialValue) → TakesAll plan k step_runs was after now → ArePresent (setup_of plan) was →
      ArePresent (setup_of plan) now
  present_round k step_runs was after now (no_more _ _ _ _) p = p
  present_round k step_runs was after now (one_node _ _ _ _ mid _ less t rest) p =
      present_round (suc k) (with_step_runs step_runs k t.more) mid after now rest (present_turn t p)

  module _ (journals : List (List Entry)) (all : List (List StepRun)) where
    pub back_round : (k : ℕ) (step_runs : List (List StepRun)) (was : SerialValue) (after : List (List StepRun))
        (now : SerialValue) → TakesAll plan k step_runs was after now → StandsIn plan was step_runs →
        GoesOn (setup_of plan) now after journals all → GoesOn (setup_of plan) was step_runs journals all
    back_round k step_runs was after now (no_more _ _ _ _) h go = go
    back_round k step_runs was after now (one_node _ _ _ _ mid _ less t rest) h go = back_turn t journals all h less
        (back_round (suc k) (with_step_runs step_runs k t.more) mid after now rest t.stands go)

    pub all_do : (k : ℕ) (step_runs : List (List StepRun)) (was : SerialValue) (after : List (List StepRun))
        (now : SerialValue) → TakesAll plan k step_runs was after now → StandsIn plan was step_runs →
        ArePresent (setup_of plan) was → GoesOn (setup_of plan) now after journals all →
        AllDo (run_acts_of plan journals all) k (progress was step_runs) (progress now after)
    all_do k step_runs was after now (no_more _ _ _ far) h present go = no_node_more k (progress was step_runs) far
    all_do k step_runs was after now (one_node _ _ _ _ mid _ less t rest) h present go =
        let mid_present = present_turn t present in
        let mid_go = back_round (suc k) (with_step_runs step_runs k t.more) mid after now rest t.stands go in
        one_driver k (length t.more) (progress was step_runs) (progress now after) less
        (does_all plan was mid k (past_all plan k) step_runs journals all h.by.stands t mid_present mid_go less refl)
        (subst (λ (p : Progress). AllDo (run_acts_of plan journals all) (suc k) p (progress now after))
        (steps_on plan was mid k (past_all plan k) step_runs journals all h.by.stands t mid_present mid_go less)
        (all_do (suc k) (with_step_runs step_runs k t.more) mid after now rest t.stands mid_present go))

-- ---- the steps that are left

module _ (plan : PlanValue) (journals : List (List Entry)) (all : List (List StepRun)) (now : SerialValue)
    (after : List (List StepRun)) where
  pub none_left : NoneIsLeft plan after → NoneLeft (run_acts_of plan journals all) (progress now after)
  none_left over k less = let n = over k less in let l = length_at after k in omega (arith, n, l)

  pub some_left : SomeIsLeft plan after → SomeLeft (run_acts_of plan journals all) (progress now after)
  some_left some = (some.0, some.1, let n = some.2 in let l = length_at after some.0 in omega (arith, n, l))
