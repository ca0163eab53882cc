-- What follows bits up to an interrupt in a run follows, with that turn, from where the run stood before.
use Rattle.std.proofs.Common.{◌≡◌, ℕ, zero, suc, ◌+◌, ◌-◌, ◌<◌, ◌≤◌, ◌⊎◌, true, false, Bool, List, ◌∷◌, length, map}
use Rattle.std.proofs.Common.{refl, sym, ap, ◌∙◌, subst, arith, inl, inr}
use Rattle.std.specs.Prelude.{slice_index_or}
use Rattle.std.proofs.lemmas.Bool.{cases_lt}
use Rattle.sja_journal.specs.declared.entry.Entry.{Entry}
use Rattle.sja_bus_rules.specs.Buses.{BusValue}
use Rattle.sja_bus_rules.specs.Wire.{journal_at}
use Rattle.sja_plan.specs.Plan.{PlanValue}
use Rattle.sja_plan.specs.declared.turn.Turn.{Turn}
use Rattle.sja_plan.specs.declared.turn.Turn.TheVariants.{Irq}
use Rattle.sja_regs.specs.declared.registers.Registers.{Registers}
use Rattle.sja_regs.specs.InterruptLine.{is_line_active}
use Rattle.sja_regs.specs.Registers.{at_power_on}
use Rattle.sja_driver.specs.StepRuns.{StepRun, step_runs_at, acts_in}
use Rattle.sja_driver.specs.TypedActs.{TypedAct, acts_at, given_in, is_active}
use Rattle.sja_driver.specs.Moments.{at_moment}
use Rattle.sja_log.specs.declared.end.End.{End}
use Rattle.sja_log.specs.declared.end.End.TheVariants.{Bits as BitsSpent}
use Rattle.sja_promises.specs.Registering.{LeadTo, IsLineInactive, IsLineActive, seen_now}
use Rattle.sja_promises.specs.Turns.{Progress, IsLineDown, IsLineUp, RunsTo, with_bits}
use Rattle.sja_promises.specs.Turns.RunsTo.{irq, irq_spent}
use Rattle.sja_serial.specs.Ending.{progress, setup_of}
use Rattle.sja_serial.specs.Inside.Rounds.{LooksAt, TakesIrq}
use Rattle.sja_serial.specs.Inside.Rounds.TakesIrq.{none_more, active, spent, one_bit}
use Rattle.sja_serial.specs.Serial.{Setup, SerialValue, StandsBy, all_acts}
use Rattle.sja_serial.proofs.TypedActs.Parts.{all_at}
use Rattle.sja_serial.proofs.ManyBits.SomeBits.{bits_within}
use Rattle.sja_serial.proofs.WholeRun.GoingOn.{run_acts_of, GoesOn, ArePresent, IsPresent, acts_then, entries_then}
use Rattle.sja_serial.proofs.WholeRun.GoingOn.{registers_then, back_bit, present_bit, stands_by_bit}
use Rattle.sja_promises.proofs.NodeLog.Onward.{Extends}

-- ---- a look

module _ {setup : Setup} {step_runs : List (List StepRun)} {node : ℕ} {was now : SerialValue} {line : Bool}
    (look : LooksAt setup step_runs node was now line) where
  same_journal : (k : ℕ) → journal_at now.bus.journals k ≡ journal_at was.bus.journals k
  same_journal k = ap (λ (b : BusValue). journal_at b.journals k) look.bus

  pub present_look : ArePresent setup was → ArePresent setup now
  present_look h k less = subst (λ (j : List Entry). IsPresent now.bits j) (sym (same_journal k))
      (subst (λ (n : ℕ). IsPresent n (journal_at was.bus.journals k)) (sym look.bits) (h k less))

  pub back_look : (journals : List (List Entry)) (all : List (List StepRun)) →
      GoesOn setup now step_runs journals all → GoesOn setup was step_runs journals all
  back_look journals all go = record {
    journals_go = λ k less. subst (λ (j : List Entry). Extends j (journal_at journals k)) (same_journal k)
        (go.journals_go k less);
    steps_go = go.steps_go;
  }

-- ---- the line then

module _ (plan : PlanValue) (step_runs : List (List StepRun)) (journals : List (List Entry)) (all : List (List StepRun))
    (node : ℕ) (less : node < length plan.nodes) where
  module _ (r at : SerialValue) (h : StandsBy (setup_of plan) r step_runs) (present : ArePresent (setup_of plan) r)
      (go : GoesOn (setup_of plan) r step_runs journals all) where
    abbrev acts : List TypedAct
    acts = acts_in (step_runs_at step_runs node)

    abbrev port : Registers
    port = slice_index_or r.ports node (at_power_on 1)

    back : journal_at r.bus.journals node
        ≡ at_moment r.bits (length (given_in acts)) (journal_at journals node)
    back = sym (entries_then (setup_of plan) r step_runs journals all h.stands present go node less)

    lead : LeadTo plan.version (at_moment r.bits (length (given_in acts)) (journal_at journals node)) acts port
    lead = subst (λ (l : List Entry). LeadTo plan.version l acts port) back
        (registers_then (setup_of plan) r step_runs journals all h.stands present go node (at_power_on 1) less)

    -- what the look saw, over the entries by then
    seen_then : {line : Bool} {now : SerialValue} → LooksAt (setup_of plan) step_runs node r now line →
        is_line_active port (seen_now (is_active acts) (at_moment r.bits (length (given_in acts))
        (journal_at journals node)) acts) ≡ line
    seen_then {line} look = subst (λ (l : List Entry). is_line_active port (seen_now (is_active acts) l acts) ≡ line)
        back (subst (λ (l : List TypedAct). is_line_active port (seen_now (is_active l)
        (journal_at r.bus.journals node) l) ≡ line) (all_at step_runs node) (sym (look.line_is (at_power_on 1))))

    pub down_then : {now : SerialValue} → LooksAt (setup_of plan) step_runs node r now false →
        IsLineDown (run_acts_of plan journals all) (progress at step_runs) node r.bits
    down_then look = subst (λ (l : List TypedAct). IsLineInactive plan.version
        (at_moment r.bits (length (given_in l)) (journal_at journals node)) l)
        (sym (acts_then (setup_of plan) r step_runs journals all go node less))
        (record { registers = port; lead = lead; inactive = seen_then look })

    pub up_then : {now : SerialValue} → LooksAt (setup_of plan) step_runs node r now true →
        IsLineUp (run_acts_of plan journals all) (progress at step_runs) node r.bits
    up_then look = subst (λ (l : List TypedAct). IsLineActive plan.version
        (at_moment r.bits (length (given_in l)) (journal_at journals node)) l)
        (sym (acts_then (setup_of plan) r step_runs journals all go node less))
        (record { registers = port; lead = lead; active = seen_then look })

-- ---- the whole turn

module _ {setup : Setup} {step_runs : List (List StepRun)} {node : ℕ} where
  pub stands_irq : (most : ℕ) (was now : SerialValue) (whole : Bool) →
      TakesIrq setup step_runs node most was now whole → StandsBy setup was step_runs →
      StandsBy setup now step_runs
  stands_irq most was now whole (none_more _) h = h
  stands_irq most was now whole (active _ _ _ look) h = look.by
  stands_irq most was now whole (spent _ _ _ look end) h = look.by
  stands_irq most was now whole (one_bit n _ mid next _ _ look bit rest) h =
      stands_irq n next now whole rest (stands_by_bit setup step_runs mid next bit look.by)

  pub present_irq : (most : ℕ) (was now : SerialValue) (whole : Bool) →
      TakesIrq setup step_runs node most was now whole → ArePresent setup was →
      ArePresent setup now
  present_irq most was now whole (none_more _) p = p
  present_irq most was now whole (active _ _ _ look) p = present_look look p
  present_irq most was now whole (spent _ _ _ look end) p = present_look look p
  present_irq most was now whole (one_bit n _ mid next _ _ look bit rest) p = present_irq n next now whole rest
      (present_bit setup (all_acts step_runs) mid next bit (present_look look p))

  module _ (journals : List (List Entry)) (all : List (List StepRun)) where
    pub back_irq : (most : ℕ) (was now : SerialValue) (whole : Bool) →
        TakesIrq setup step_runs node most was now whole →
        GoesOn setup now step_runs journals all → GoesOn setup was step_runs journals all
    back_irq most was now whole (none_more _) go = go
    back_irq most was now whole (active _ _ _ look) go = back_look look journals all go
    back_irq most was now whole (spent _ _ _ look end) go = back_look look journals all go
    back_irq most was now whole (one_bit n _ mid next _ _ look bit rest) go = back_look look journals all
        (back_bit setup (all_acts step_runs) mid next step_runs journals all bit
        (back_irq n next now whole rest go))

-- so many bits were run: the line wasn't active before any of them, and why they ended
record Ran (plan : PlanValue) (step_runs : List (List StepRun)) (journals : List (List Entry))
    (all : List (List StepRun)) (at : SerialValue) (node most : ℕ) (was now : SerialValue) (whole : Bool) : Type 0 where
  n : ℕ
  many : now.bits ≡ was.bits + n
  within : n ≤ most
  down : (i : ℕ) → i < n → IsLineDown (run_acts_of plan journals all) (progress at step_runs) node (was.bits + i)
  ended : whole ≡ true → (n ≡ most) ⊎ IsLineUp (run_acts_of plan journals all) (progress at step_runs) node
      (was.bits + n)
  short : whole ≡ false → (n < most) × (now.bits ≡ plan.bits)
      × IsLineDown (run_acts_of plan journals all) (progress at step_runs) node (was.bits + n)

module _ (plan : PlanValue) (step_runs : List (List StepRun)) (journals : List (List Entry)) (all : List (List StepRun))
    (at : SerialValue) (node : ℕ) (less : node < length plan.nodes) where
  abbrev Down : ℕ → Type 0
  Down bits = IsLineDown (run_acts_of plan journals all) (progress at step_runs) node bits

  abbrev Up : ℕ → Type 0
  Up bits = IsLineUp (run_acts_of plan journals all) (progress at step_runs) node bits

  ran : (most : ℕ) (was now : SerialValue) (whole : Bool) →
      TakesIrq (setup_of plan) step_runs node most was now whole → StandsBy (setup_of plan) was step_runs →
      ArePresent (setup_of plan) was → GoesOn (setup_of plan) now step_runs journals all →
      Ran plan step_runs journals all at node most was now whole
  ran most was now whole (none_more _) h present go = record {
    n = 0;
    many = omega arith;
    within = omega arith;
    down = λ i few. absurd (omega (arith, few));
    ended = λ yes. inl refl;
    short = λ no. absurd cc;
  }
  ran most was now whole (active _ _ _ look) h present go = record {
    n = 0;
    many = let b = look.bits in omega (arith, b);
    within = omega arith;
    down = λ i few. absurd (omega (arith, few));
    ended = λ yes. inr (subst Up (omega arith)
        (up_then plan step_runs journals all node less was at h present (back_look look journals all go) look));
    short = λ no. absurd cc;
  }
  ran most was now whole (spent _ _ _ look end) h present go = record {
    n = 0;
    many = let b = look.bits in omega (arith, b);
    within = omega arith;
    down = λ i few. absurd (omega (arith, few));
    ended = λ yes. absurd cc;
    short = λ no. (
      omega arith,
      end,
      subst Down (omega arith)
          (down_then plan step_runs journals all node less was at h present (back_look look journals all go) look),
    );
  }
  ran most was now whole (one_bit m _ mid next _ _ look bit rest) h present go =
      let next_go = back_irq journals all m next now whole rest go in
      let mid_go = back_bit (setup_of plan) (all_acts step_runs) mid next step_runs journals all bit next_go in
      let here = down_then plan step_runs journals all node less was at h present (back_look look journals all mid_go)
      look in
      let r = ran m next now whole rest (stands_by_bit (setup_of plan) step_runs mid next bit look.by)
      (present_bit (setup_of plan) (all_acts step_runs) mid next bit (present_look look present)) go in
      let on : next.bits ≡ was.bits + 1 = bit.bits ∙ ap (λ b. b + 1) look.bits in
      let last : next.bits + r.n ≡ was.bits + suc r.n = omega (arith, on) in record {
        n = suc r.n;
        many = let e = r.many in omega (arith, e, last);
        within = let w = r.within in omega (arith, w);
        down = downs was next r.n on here r.down;
        ended = λ yes. elim (r.ended yes) [
          | inl e ↦ inl (ap suc e)
          | inr up ↦ inr (subst Up last up)
        ];
        short = λ no. let s = r.short no in
            (let few = s.0 in omega (arith, few), s.1, subst Down last s.2);
      }
    where
      downs : (was next : SerialValue) (n : ℕ) → next.bits ≡ was.bits + 1 → Down was.bits →
          ((i : ℕ) → i < n → Down (next.bits + i)) → (i : ℕ) → i < suc n → Down (was.bits + i)
      downs was next n on here later zero few = subst Down (omega arith) here
      downs was next n on here later (suc i) few =
          let e : next.bits + i ≡ was.bits + suc i = omega (arith, on) in
          subst Down e (later i (omega (arith, few)))

module _ (plan : PlanValue) (step_runs : List (List StepRun)) (journals : List (List Entry)) (all : List (List StepRun))
    (node most : ℕ) (was now : SerialValue) (less : node < length plan.nodes)
    (h : StandsBy (setup_of plan) was step_runs) (present : ArePresent (setup_of plan) was)
    (go : GoesOn (setup_of plan) now step_runs journals all) where
  pub irq_whole : TakesIrq (setup_of plan) step_runs node most was now true → (turns : List Turn) (q : Progress)
      (end : End) → RunsTo (run_acts_of plan journals all) (progress now step_runs) turns q end →
      RunsTo (run_acts_of plan journals all) (progress was step_runs) (Irq node most ∷ turns) q end
  irq_whole t turns q end follows =
      let r = ran plan step_runs journals all was node less most was now true t h present go in
      let e = r.many in
      let few = bits_within (setup_of plan) now (all_acts step_runs) (stands_irq most was now true t h).stands in
      let on : progress now step_runs ≡ with_bits (progress was step_runs) r.n = ap (λ b. let p : Progress =
      record { bits = b; done = map (λ (l : List StepRun). length l) step_runs } in p) e in
      irq (progress was step_runs) q node most r.n turns end (omega (arith, few, e)) r.within r.down (r.ended refl)
      (subst (λ (p : Progress). RunsTo (run_acts_of plan journals all) p turns q end) on follows)

  pub irq_short : TakesIrq (setup_of plan) step_runs node most was now false → (turns : List Turn) →
      RunsTo (run_acts_of plan journals all) (progress was step_runs) (Irq node most ∷ turns) (progress now step_runs)
      BitsSpent
  irq_short t turns =
      let r = ran plan step_runs journals all was node less most was now false t h present go in
      let e = r.many in let s = r.short refl in let few = s.0 in let all_run = s.1 in
      let on : (record (progress was step_runs) { bits = plan.bits }) ≡ progress now step_runs =
      ap (λ b. let p : Progress =
      record { bits = b; done = map (λ (l : List StepRun). length l) step_runs } in p) (sym all_run) in
      subst (λ (q : Progress). RunsTo (run_acts_of plan journals all) (progress was step_runs) (Irq node most ∷ turns) q
      BitsSpent) on (irq_spent (progress was step_runs) node most turns (omega (arith, e, few, all_run))
      (λ bits from to. elim (cases_lt (bits - was.bits) r.n) [
        | inl before ↦
            let same : was.bits + (bits - was.bits) ≡ bits = omega (arith, from) in
            subst (λ (b : ℕ). IsLineDown (run_acts_of plan journals all) (progress was step_runs) node b) same
            (r.down (bits - was.bits) before)
        | inr at_end ↦
            let same : was.bits + r.n ≡ bits = omega (arith, from, to, at_end, e, all_run) in
            subst (λ (b : ℕ). IsLineDown (run_acts_of plan journals all) (progress was step_runs) node b) same s.2
      ]))
