-- A run after some turns of its plan: whatever it goes on to, the turns that are left follow these.
use Rattle.std.proofs.Common.{◌≡◌, ℕ, zero, suc, ◌+◌, ◌<◌, true, false, Bool, List, [], ◌∷◌, ◌++◌, length, map}
use Rattle.std.proofs.Common.{replicate, take, drop, refl, sym, ap, ◌∙◌, subst, append_assoc, append-nil, arith}
use Rattle.std.specs.Prelude.{slice_index_or}
use Rattle.std.proofs.lemmas.List.{take_more}
use Rattle.sja_journal.specs.declared.entry.Entry.{Entry}
use Rattle.sja_journal.specs.Sizes.{most_activations}
use Rattle.sja_bus_rules.specs.Buses.{BusValue, new_bus}
use Rattle.sja_bus_rules.specs.Wire.{journal_at}
use Rattle.sja_bus_rules.proofs.Wires.{no_journal}
use Rattle.sja_plan.specs.Plan.{PlanValue, NamesNode, step_counts}
use Rattle.sja_plan.specs.declared.turn.Turn.{Turn}
use Rattle.sja_plan.specs.declared.turn.Turn.TheVariants.{Bus, Rest, Node, All, Irq, Go}
use Rattle.sja_driver.specs.StepRuns.{StepRun, step_runs_at, most_acts}
use Rattle.sja_log.specs.declared.end.End.{End}
use Rattle.sja_log.specs.declared.end.End.TheVariants.{Turns as TurnsDone, Bits as BitsSpent}
use Rattle.sja_promises.specs.Turns.{Progress, RunsTo}
use Rattle.sja_promises.specs.Turns.RunsTo.{all_done, go, go_over}
use Rattle.sja_serial.specs.Bits.{TakesBusTurn, TakesRest}
use Rattle.sja_serial.specs.Ending.{AreFirst, progress, setup_of}
use Rattle.sja_serial.specs.Inside.SerialProgress.{StandsIn, TakesTurn, TakesTurns}
use Rattle.sja_serial.specs.Inside.Rounds.{TakesAll, TakesGo, TakesIrq, NoneIsLeft, SomeIsLeft, past_all}
use Rattle.sja_serial.specs.Inside.Rounds.TakesGo.{over, spent, one_bit}
use Rattle.sja_serial.specs.Inside.Turning.{TakesOne}
use Rattle.sja_serial.specs.Serial.{SerialValue, StandsBy, all_acts}
use Rattle.sja_serial.specs.Stepping.{with_step_runs}
use Rattle.sja_promises.proofs.NodeLog.Onward.{extends_none}
use Rattle.sja_serial.proofs.WholeRun.GoingOn.{run_acts_of, GoesOn, IsPresent, ArePresent, present_bits, back_bits}
use Rattle.sja_serial.proofs.WholeRun.GoingOn.{stands_by_bits}
use Rattle.sja_serial.proofs.WholeRun.AfterBusTurn.{bus_whole, bus_short, rest_whole, rest_short}
use Rattle.sja_serial.proofs.WholeRun.AfterNodeTurn.{node_whole, node_all}
use Rattle.sja_serial.proofs.WholeRun.AfterRound.{present_turn, back_turn, stands_round, present_round, back_round}
use Rattle.sja_serial.proofs.WholeRun.AfterRound.{all_do, none_left, some_left}
use Rattle.sja_serial.proofs.WholeRun.AfterIrq.{stands_irq, present_irq, back_irq, irq_whole, irq_short}

-- where every run begins
abbrev pub start_of : PlanValue → Progress
start_of plan = record { bits = 0; done = replicate (length plan.nodes) 0 }

-- the run has come so far by these turns, of which these are still to be taken
pub record HasCome (plan : PlanValue) (turns head : List Turn) (r : SerialValue) : Type 0 where
  pub step_runs : List (List StepRun)
  pub by : StandsBy (setup_of plan) r step_runs
  pub first : AreFirst plan step_runs
  pub present : ArePresent (setup_of plan) r
  pub leads : (journals : List (List Entry)) (all : List (List StepRun)) →
      GoesOn (setup_of plan) r step_runs journals all → (later : List Turn) (q : Progress) (end : End) →
      RunsTo (run_acts_of plan journals all) (progress r step_runs) (head ++ later) q end →
      RunsTo (run_acts_of plan journals all) (start_of plan) (turns ++ later) q end

-- ---- at the beginning

-- of none the steps are none
pub no_lengths : (n : ℕ) → map (λ (l : List StepRun). length l) (replicate n []) ≡ replicate n 0
no_lengths zero = refl
no_lengths (suc n) = ap (λ l. 0 ∷ l) (no_lengths n)

pub come_first : (plan : PlanValue) (r : SerialValue) → StandsIn plan r (replicate (length plan.nodes) []) →
    r.bus ≡ new_bus plan.strikes plan.bits (length plan.nodes) (most_activations plan.version)
    (map (most_acts plan.version) (step_counts plan)) →
    HasCome plan [] [] r
come_first plan r h new = record {
  step_runs = replicate (length plan.nodes) [];
  by = h.by;
  first = h.first;
  present = λ k less.
      let none : journal_at r.bus.journals k ≡ [] = ap (λ (b : BusValue). journal_at b.journals k) new
      ∙ no_journal (length plan.nodes) k in
      subst (λ (j : List Entry). IsPresent r.bits j) (sym none) (record { bits_are = sym bits; aborts = tt });
  leads = λ journals all go later q end follows. subst
      (λ (p : Progress). RunsTo (run_acts_of plan journals all) p later q end) first follows;
}
  where
    bits : r.bits ≡ 0
    bits = h.by.stands.bits ∙ ap (λ (b : BusValue). b.run) new

    first : progress r (replicate (length plan.nodes) []) ≡ start_of plan
    first = λ i. let p : Progress = record { bits = bits i; done = no_lengths (length plan.nodes) i } in p

-- ---- at the end

go_self : (plan : PlanValue) (r : SerialValue) (step_runs : List (List StepRun)) →
    GoesOn (setup_of plan) r step_runs r.bus.journals step_runs
go_self plan r step_runs = record {
  journals_go = λ k less. extends_none (journal_at r.bus.journals k);
  steps_go = λ k less. ([], sym (append-nil (step_runs_at step_runs k)));
}

pub end_all : (plan : PlanValue) (turns : List Turn) (r : SerialValue) → HasCome plan turns [] r → turns ≡ plan.turns →
    TakesTurns plan r TurnsDone
end_all plan turns r c whole = record {
  step_runs = c.step_runs;
  stands = record { by = c.by; first = c.first };
  turns = subst (λ (l : List Turn). RunsTo (run_acts_of plan r.bus.journals c.step_runs) (start_of plan) l
      (progress r c.step_runs) TurnsDone) (append-nil turns ∙ whole)
      (c.leads r.bus.journals c.step_runs (go_self plan r c.step_runs) [] (progress r c.step_runs) TurnsDone
      (all_done (progress r c.step_runs)));
}

-- ---- the turns of a plan, up to one of them

take_all : (ts : List Turn) (i : ℕ) (d : Turn) → i < length ts →
    take i ts ++ (slice_index_or ts i d ∷ drop (i + 1) ts) ≡ ts
take_all [] i d less = absurd (omega (arith, less))
take_all (t ∷ ts) zero d less = refl
take_all (t ∷ ts) (suc i) d less =
    let e : suc i + 1 ≡ suc (i + 1) = omega arith in
    ap (λ k. take (suc i) (t ∷ ts) ++ (slice_index_or ts i d ∷ drop k (t ∷ ts))) e
    ∙ ap (λ l. t ∷ l) (take_all ts i d (omega (arith, less)))

pub come_at : (plan : PlanValue) (i : ℕ) (d t : Turn) (now : SerialValue) → i < length plan.turns →
    slice_index_or plan.turns i d ≡ t → HasCome plan (take i plan.turns ++ t ∷ []) [] now →
    HasCome plan (take (i + 1) plan.turns) [] now
come_at plan i d t now less is h =
    subst (λ (l : List Turn). HasCome plan l [] now)
    (ap (λ x. take i plan.turns ++ x ∷ []) (sym is) ∙ sym (take_more plan.turns i d less)) h

pub whole_at : (plan : PlanValue) (i : ℕ) (d t : Turn) → i < length plan.turns → slice_index_or plan.turns i d ≡ t →
    take i plan.turns ++ (t ∷ drop (i + 1) plan.turns) ≡ plan.turns
whole_at plan i d t less is = ap (λ x. take i plan.turns ++ (x ∷ drop (i + 1) plan.turns)) (sym is)
    ∙ take_all plan.turns i d less

-- ---- one turn more

-- a turn more is to be taken
abbrev pub begin : {plan : PlanValue} {turns : List Turn} {r : SerialValue} (t : Turn) → HasCome plan turns [] r →
    HasCome plan (turns ++ t ∷ []) (t ∷ []) r
begin {plan} {turns} t c = record {
  step_runs = c.step_runs;
  by = c.by;
  first = c.first;
  present = c.present;
  leads = λ journals all go later q end follows. subst
      (λ (l : List Turn). RunsTo (run_acts_of plan journals all) (start_of plan) l q end)
      (sym (append_assoc turns (t ∷ []) later)) (c.leads journals all go (t ∷ later) q end follows);
}

module _ {plan : PlanValue} {turns head : List Turn} {was : SerialValue} (now : SerialValue) where
  abbrev pub come_bus : (count : ℕ) (c : HasCome plan turns (Bus count ∷ head) was) →
      TakesBusTurn (setup_of plan) (all_acts c.step_runs) was now count true → HasCome plan turns head now
  come_bus count c t = record {
    step_runs = c.step_runs;
    by = stands_by_bits (setup_of plan) c.step_runs _ was now t.run t.bits c.by;
    first = c.first;
    present = present_bits (setup_of plan) (all_acts c.step_runs) _ was now t.run t.bits c.present;
    leads = λ journals all go later q end follows. c.leads journals all (back_bits (setup_of plan)
        (all_acts c.step_runs) _ was now t.run c.step_runs journals all t.bits go) later q end
        (bus_whole plan c.step_runs journals all was now count (head ++ later) q end c.by.stands t follows);
  }

  pub end_bus : (count : ℕ) (later : List Turn) (c : HasCome plan turns (Bus count ∷ head) was) →
      TakesBusTurn (setup_of plan) (all_acts c.step_runs) was now count false →
      turns ++ later ≡ plan.turns → TakesTurns plan now BitsSpent
  end_bus count later c t whole = let go = go_self plan now c.step_runs in record {
    step_runs = c.step_runs;
    stands = record {
      by = stands_by_bits (setup_of plan) c.step_runs _ was now t.run t.bits c.by;
      first = c.first;
    };
    turns = subst (λ (l : List Turn). RunsTo (run_acts_of plan now.bus.journals c.step_runs) (start_of plan) l
        (progress now c.step_runs) BitsSpent) whole
        (c.leads now.bus.journals c.step_runs (back_bits (setup_of plan) (all_acts c.step_runs) _ was now t.run
        c.step_runs now.bus.journals c.step_runs t.bits go) later (progress now c.step_runs) BitsSpent
        (bus_short plan c.step_runs now.bus.journals c.step_runs was now count (head ++ later) t));
  }

  pub come_rest : (c : HasCome plan turns (Rest ∷ head) was) →
      TakesRest (setup_of plan) (all_acts c.step_runs) was now plan.bits true → HasCome plan turns head now
  come_rest c t = record {
    step_runs = c.step_runs;
    by = stands_by_bits (setup_of plan) c.step_runs _ was now t.run t.bits c.by;
    first = c.first;
    present = present_bits (setup_of plan) (all_acts c.step_runs) _ was now t.run t.bits c.present;
    leads = λ journals all go later q end follows. c.leads journals all (back_bits (setup_of plan)
        (all_acts c.step_runs) _ was now t.run c.step_runs journals all t.bits go) later q end
        (rest_whole plan c.step_runs journals all was now (head ++ later) q end c.by.stands c.present go t follows);
  }

  pub end_rest : (later : List Turn) (c : HasCome plan turns (Rest ∷ head) was) →
      TakesRest (setup_of plan) (all_acts c.step_runs) was now plan.bits false →
      turns ++ later ≡ plan.turns → TakesTurns plan now BitsSpent
  end_rest later c t whole = let go = go_self plan now c.step_runs in record {
    step_runs = c.step_runs;
    stands = record {
      by = stands_by_bits (setup_of plan) c.step_runs _ was now t.run t.bits c.by;
      first = c.first;
    };
    turns = subst (λ (l : List Turn). RunsTo (run_acts_of plan now.bus.journals c.step_runs) (start_of plan) l
        (progress now c.step_runs) BitsSpent) whole
        (c.leads now.bus.journals c.step_runs (back_bits (setup_of plan) (all_acts c.step_runs) _ was now t.run
        c.step_runs now.bus.journals c.step_runs t.bits go) later (progress now c.step_runs) BitsSpent
        (rest_short plan c.step_runs now.bus.journals c.step_runs was now (head ++ later) c.by.stands c.present go t));
  }

  pub come_node : (k count : ℕ) (c : HasCome plan turns (Node k count ∷ head) was) → k < length plan.nodes →
      TakesTurn plan was now k count c.step_runs → HasCome plan turns head now
  come_node k count c less t = record {
    step_runs = with_step_runs c.step_runs k t.more;
    by = t.stands.by;
    first = t.stands.first;
    present = present_turn t c.present;
    leads = λ journals all go later q end follows. c.leads journals all
        (back_turn t journals all (record { by = c.by; first = c.first }) less go) later q end
        (node_whole plan was now k count c.step_runs journals all c.by.stands t (present_turn t c.present) go less
        (head ++ later) q end follows);
  }

  pub come_all : (k : ℕ) (c : HasCome plan turns (All k ∷ head) was) → k < length plan.nodes →
      TakesTurn plan was now k (past_all plan k) c.step_runs → HasCome plan turns head now
  come_all k c less t = record {
    step_runs = with_step_runs c.step_runs k t.more;
    by = t.stands.by;
    first = t.stands.first;
    present = present_turn t c.present;
    leads = λ journals all go later q end follows. c.leads journals all
        (back_turn t journals all (record { by = c.by; first = c.first }) less go) later q end
        (node_all plan was now k (past_all plan k) c.step_runs journals all c.by.stands t (present_turn t c.present) go
        less refl (head ++ later) q end follows);
  }

  pub come_irq : (k most : ℕ) (c : HasCome plan turns (Irq k most ∷ head) was) → k < length plan.nodes →
      TakesIrq (setup_of plan) c.step_runs k most was now true → HasCome plan turns head now
  come_irq k most c less t = record {
    step_runs = c.step_runs;
    by = stands_irq most was now true t c.by;
    first = c.first;
    present = present_irq most was now true t c.present;
    leads = λ journals all go later q end follows. c.leads journals all
        (back_irq journals all most was now true t go) later q end
        (irq_whole plan c.step_runs journals all k most was now less c.by c.present go t (head ++ later) q end follows);
  }

  pub end_irq : (k most : ℕ) (later : List Turn) (c : HasCome plan turns (Irq k most ∷ head) was) →
      k < length plan.nodes → TakesIrq (setup_of plan) c.step_runs k most was now false →
      turns ++ later ≡ plan.turns → TakesTurns plan now BitsSpent
  end_irq k most later c less t whole = let go = go_self plan now c.step_runs in record {
    step_runs = c.step_runs;
    stands = record { by = stands_irq most was now false t c.by; first = c.first };
    turns = subst (λ (l : List Turn). RunsTo (run_acts_of plan now.bus.journals c.step_runs) (start_of plan) l
        (progress now c.step_runs) BitsSpent) whole
        (c.leads now.bus.journals c.step_runs (back_irq now.bus.journals c.step_runs most was now false t go) later
        (progress now c.step_runs) BitsSpent
        (irq_short plan c.step_runs now.bus.journals c.step_runs k most was now less c.by c.present go t
        (head ++ later)));
  }

  -- a round: while some step is left a bit follows, and so again; then rest
  abbrev pub come_some : (after : List (List StepRun)) (c : HasCome plan turns (Go ∷ head) was) →
      TakesAll plan 0 c.step_runs was after now → SomeIsLeft plan after → HasCome plan turns (Bus 1 ∷ Go ∷ head) now
  come_some after c t some = let h : StandsIn plan was c.step_runs = record { by = c.by; first = c.first } in record {
    step_runs = after;
    by = (stands_round 0 c.step_runs was after now t h).by;
    first = (stands_round 0 c.step_runs was after now t h).first;
    present = present_round 0 c.step_runs was after now t c.present;
    leads = λ journals all on later q end follows. c.leads journals all
        (back_round journals all 0 c.step_runs was after now t h on) later q end
        (go (progress was c.step_runs) (progress now after) q (head ++ later) end
        (all_do journals all 0 c.step_runs was after now t h c.present on) (some_left plan journals all now after some)
        follows);
  }

  abbrev pub come_over : (after : List (List StepRun)) (c : HasCome plan turns (Go ∷ head) was) →
      TakesAll plan 0 c.step_runs was after now → NoneIsLeft plan after → HasCome plan turns (Rest ∷ head) now
  come_over after c t none = let h : StandsIn plan was c.step_runs = record { by = c.by; first = c.first } in record {
    step_runs = after;
    by = (stands_round 0 c.step_runs was after now t h).by;
    first = (stands_round 0 c.step_runs was after now t h).first;
    present = present_round 0 c.step_runs was after now t c.present;
    leads = λ journals all on later q end follows. c.leads journals all
        (back_round journals all 0 c.step_runs was after now t h on) later q end
        (go_over (progress was c.step_runs) (progress now after) q (head ++ later) end
        (all_do journals all 0 c.step_runs was after now t h c.present on) (none_left plan journals all now after none)
        follows);
  }

module _ {plan : PlanValue} {turns head : List Turn} where
  pub come_go : (was now : SerialValue) (c : HasCome plan turns (Go ∷ head) was) →
      TakesGo plan c.step_runs was now true → HasCome plan turns head now
  come_go was now c (over _ after _ mid _ _ round none still) = come_rest now (come_over mid after c round none) still
  come_go was now c (one_bit _ after _ mid next _ _ round some bit rest) =
      come_go next now (come_bus next 1 (come_some mid after c round some) bit) rest

  pub end_go : (was now : SerialValue) (later : List Turn) (c : HasCome plan turns (Go ∷ head) was) →
      TakesGo plan c.step_runs was now false → turns ++ later ≡ plan.turns → TakesTurns plan now BitsSpent
  end_go was now later c (over _ after _ mid _ _ round none still) whole =
      end_rest now later (come_over mid after c round none) still whole
  end_go was now later c (spent _ after _ mid _ round some short) whole =
      end_bus now 1 later (come_some mid after c round some) short whole
  end_go was now later c (one_bit _ after _ mid next _ _ round some bit rest) whole =
      end_go next now later (come_bus next 1 (come_some mid after c round some) bit) rest whole

-- a turn of any kind
module _ {plan : PlanValue} {turns : List Turn} {was : SerialValue} (now : SerialValue) where
  pub come_one : (t : Turn) (whole : Bool) (c : HasCome plan turns (t ∷ []) was) → NamesNode (length plan.nodes) t →
      whole ≡ true → TakesOne plan c.step_runs was now t whole → HasCome plan turns [] now
  come_one (Bus count) whole c names is taken = come_bus now count c
      (subst (λ (b : Bool). TakesBusTurn (setup_of plan) (all_acts c.step_runs) was now count b) is taken)
  come_one Rest whole c names is taken = come_rest now c
      (subst (λ (b : Bool). TakesRest (setup_of plan) (all_acts c.step_runs) was now plan.bits b) is taken)
  come_one (Node k count) whole c names is taken = come_node now k count c names taken.0
  come_one (All k) whole c names is taken = come_all now k c names taken.0
  come_one (Irq k most) whole c names is taken = come_irq now k most c names
      (subst (λ (b : Bool). TakesIrq (setup_of plan) c.step_runs k most was now b) is taken)
  come_one Go whole c names is taken = come_go was now c
      (subst (λ (b : Bool). TakesGo plan c.step_runs was now b) is taken)

  pub end_one : (t : Turn) (whole : Bool) (later : List Turn) (c : HasCome plan turns (t ∷ []) was) →
      NamesNode (length plan.nodes) t → whole ≡ false → TakesOne plan c.step_runs was now t whole →
      turns ++ later ≡ plan.turns → TakesTurns plan now BitsSpent
  end_one (Bus count) whole later c names is taken e = end_bus now count later c
      (subst (λ (b : Bool). TakesBusTurn (setup_of plan) (all_acts c.step_runs) was now count b) is taken) e
  end_one Rest whole later c names is taken e = end_rest now later c
      (subst (λ (b : Bool). TakesRest (setup_of plan) (all_acts c.step_runs) was now plan.bits b) is taken) e
  end_one (Node k count) whole later c names is taken e = let no : true ≡ false = sym taken.1 ∙ is in absurd cc
  end_one (All k) whole later c names is taken e = let no : true ≡ false = sym taken.1 ∙ is in absurd cc
  end_one (Irq k most) whole later c names is taken e = end_irq now k most later c names
      (subst (λ (b : Bool). TakesIrq (setup_of plan) c.step_runs k most was now b) is taken) e
  end_one Go whole later c names is taken e = end_go was now later c
      (subst (λ (b : Bool). TakesGo plan c.step_runs was now b) is taken) e
