-- Of two logs of a plan that was run in one thread each is the other.
use Rattle.std.proofs.Common.{◌≡◌, ◌<◌, ℕ, zero, suc, List, [], ◌∷◌, ◌++◌, length, map, refl, sym, ap, ◌∙◌, subst}
use Rattle.std.proofs.Common.{arith}
use Rattle.std.specs.Prelude.{◌≢◌, replicate, slice_index, slice_index_or}
use Rattle.std.proofs.lemmas.List.{get_or_default, length-map}
use Rattle.lemmas.specs.Picking.{EachAfter}
use Rattle.lemmas.proofs.Lists.{some_of}
use Rattle.sja_journal.specs.declared.entry.Entry.{Entry}
use Rattle.sja_journal.specs.Places.{place_of}
use Rattle.sja_journal.specs.Verdicts.{IsLawful}
use Rattle.sja_journal.proofs.JournalEntries.Entering.{bits_counted}
use Rattle.sja_regs.specs.Registers.{at_power_on}
use Rattle.sja_steps.specs.declared.step_record.StepRecord.{StepRecord}
use Rattle.sja_steps.specs.declared.refusal.Refusal.TheVariants.{Closed}
use Rattle.sja_steps.specs.declared.step_answer.StepAnswer.TheVariants.{Refused}
use Rattle.sja_bus_rules.specs.Wire.{journal_at}
use Rattle.sja_plan.specs.Plan.{PlanValue, steps_at}
use Rattle.sja_driver.specs.StepRuns.{StepRun, step_runs_at, acts_in, step_record_of}
use Rattle.sja_driver.specs.TypedActs.{TypedAct, FitsState, is_active, opened_by}
use Rattle.sja_driver.specs.Kept.{at_power_on as kept_at_power_on}
use Rattle.sja_driver.specs.Windows.{SeesIf}
use Rattle.sja_log.specs.Log.{NodeValue, RunValue, journals_in}
use Rattle.sja_promises.specs.Registering.{StepRunsLeadTo}
use Rattle.sja_promises.specs.Registering.StepRunsLeadTo.{power_on}
use Rattle.sja_promises.specs.Runs.{IsNodeRun, IsSerialRun}
use Rattle.sja_promises.specs.Turns.{Progress, steps_done}
use Rattle.sja_promises.proofs.NodeLog.Logs.{journal_there}
use Rattle.sja_laws.specs.Promised.{IsPromised}
use Rattle.sja_laws.proofs.AllNodes.Bits.{TwoRuns}
use Rattle.sja_laws.proofs.OneNode.Coming.{is_over}
use Rattle.sja_laws.proofs.OneNode.Onward.{Onward, from_power_on}
use Rattle.sja_laws.proofs.OneNode.Onward.Onward.{arrived}
use Rattle.sja_laws.proofs.OneNode.Together.{IsOfRun}
use Rattle.sja_laws.proofs.WholeRun.Ending.{same_end}
use Rattle.sja_laws.proofs.WholeRun.Nodes.{lists_once, node_once}
use Rattle.sja_laws.proofs.WholeRun.Progressing.{all_done_at, none_done}
use Rattle.sja_laws.proofs.WholeRun.Turns.{IsSameEnd, Known}

at_node : (step_runs : List (List StepRun)) (k : ℕ) →
    slice_index_or (map (λ (l : List StepRun). acts_in l) step_runs) k [] ≡ acts_in (step_runs_at step_runs k)
at_node [] k = refl
at_node (l ∷ step_runs) zero = refl
at_node (l ∷ step_runs) (suc k) = at_node step_runs k

promised_by : (version : ℕ) (j : List Entry) (before acts : List TypedAct) →
    EachAfter (λ b (d : TypedAct). FitsState version (is_active b) (opened_by b) d.step d.answer) before acts →
    EachAfter (λ b (d : TypedAct). SeesIf (is_active b) j b d) before acts →
    EachAfter (λ b (d : TypedAct). d.answer ≢ Refused Closed) before acts →
    EachAfter (IsPromised version j) before acts
promised_by version j before [] fits sees patient = tt
promised_by version j before (d ∷ acts) fits sees patient = (
  record { fits = fits.0; sees = sees.0; patient = patient.0 },
  promised_by version j (before ++ d ∷ []) acts fits.1 sees.1 patient.1,
)

-- ---- a node of a log

module _ (plan : PlanValue) (log : RunValue) (h : IsSerialRun plan log) where
  pub journals_long : length (journals_in log) ≡ length plan.nodes
  journals_long = length-map log.nodes (λ (n : NodeValue). n.journal) ∙ h.run.count

  module _ (k : ℕ) (here : k < length plan.nodes) where
    pub inside : k < length log.nodes
    inside = let c = h.run.count in omega (arith, c, here)

    abbrev pub node_at : NodeValue
    node_at = slice_index_or log.nodes k (some_of log.nodes k inside)

    pub journal_is : journal_at (journals_in log) k ≡ node_at.journal
    journal_is = journal_there log.nodes k (some_of log.nodes k inside) inside

    abbrev pub steps_there : List StepRun
    steps_there = step_runs_at h.step_runs k

    abbrev pub whole : List Entry
    whole = journal_at (journals_in log) k

    pub lawful_there : IsLawful whole
    lawful_there = let n = journals_long in h.run.bus.lawful k (omega (arith, n, here))

    pub runs_there : IsNodeRun plan.version node_at (acts_in steps_there)
    runs_there = subst (λ (l : List TypedAct). IsNodeRun plan.version node_at l) (at_node h.step_runs k)
        (h.run.nodes k (some_of log.nodes k inside) inside)

    pub of_run : IsOfRun plan.version (steps_at plan k) whole steps_there
    of_run =
        let time = h.in_time k (some_of log.nodes k inside) inside in
        let acts = acts_in steps_there in
        let promised = promised_by plan.version node_at.journal [] acts runs_there.trace.answered.states time.sees
        time.patient in
        record {
          lawful = lawful_there;
          promised = subst (λ (j : List Entry). EachAfter (IsPromised plan.version j) [] acts) (sym journal_is)
              promised;
          first = (h.steps k (some_of log.nodes k inside) inside).first;
        }

    pub done_there : map step_record_of steps_there ≡ node_at.done
    done_there = (h.steps k (some_of log.nodes k inside) inside).done

    -- the way from power-on
    pub way : Onward plan.version whole steps_there [] [] kept_at_power_on (at_power_on plan.version)
    way =
        let led = h.registers k (some_of log.nodes k inside) inside in
        let P : List Entry → Type 0 = λ j. StepRunsLeadTo plan.version j steps_there led.0 led.1 in
        from_power_on plan.version whole steps_there whole steps_there led.0 led.1 (subst P (sym journal_is) led.2)
        (arrived whole steps_there led.0 led.1 refl refl)

    -- all steps are done at the end
    pub ends_done : slice_index (map (λ (n : NodeValue). length n.done) log.nodes) k ≡ length steps_there
    ends_done =
        all_done_at log.nodes k (some_of log.nodes k inside) inside
        ∙ ap (λ (l : List StepRecord). length l) (sym done_there) ∙ length-map steps_there step_record_of

    pub bits_there : (place_of whole).bits ≡ log.bits
    bits_there = let n = journals_long in
        bits_counted whole ∙ h.run.bus.wired.count k (omega (arith, n, here))

-- ---- two logs

module _ (plan : PlanValue) (a b : RunValue) (h : IsSerialRun plan a) (g : IsSerialRun plan b) where
  both : TwoRuns plan
  both = record {
    first = journals_in a;
    second = journals_in b;
    all = h.step_runs;
    others = g.step_runs;
    most = a.bits;
    limit = b.bits;
    wired = h.run.bus.wired;
    again = g.run.bus.wired;
    count = journals_long plan a h;
    number = journals_long plan b g;
    runs = of_run plan a h;
    too = of_run plan b g;
  }

  abbrev start : Progress
  start = record { bits = 0; done = replicate (length plan.nodes) 0 }

  abbrev end_of : RunValue → Progress
  end_of log = record { bits = log.bits; done = map (λ (n : NodeValue). length n.done) log.nodes }

  long : (n : ℕ) → length {A = ℕ} (replicate n 0) ≡ n
  long zero = refl
  long (suc n) = ap suc (long n)

  known : Known plan both start (end_of a) (end_of b)
  unfolding both
  known = record {
    few = omega arith;
    long = long (length plan.nodes);
    done = λ k here. ends_done plan a h k here;
    also = λ k here. ends_done plan b g k here;
    bits = refl;
    spent_bits = refl;
    together = λ k here. record {
      entries = [];
      steps = [];
      kept = kept_at_power_on;
      port = at_power_on plan.version;
      past = power_on;
      one = way plan a h k here;
      two = way plan b g k here;
      bits_are = refl;
      count_is = sym (none_done (length plan.nodes) k);
    };
  }

  ended : IsSameEnd plan both (end_of a) (end_of b) a.end b.end
  unfolding both
  ended = same_end plan both start (end_of a) (end_of b) plan.turns a.end b.end h.turns g.turns known

  node_same : (k : ℕ) (here : k < length plan.nodes) → node_at plan a h k here ≡ node_at plan b g k here
  unfolding both
  node_same k here =
      let t = ended.together k here in
      let m = whole plan a h k here in
      let n = whole plan b g k here in
      let x = steps_there plan a h k here in
      let y = steps_there plan b g k here in
      let bits = ap (λ (p : Progress). p.bits) ended.progress in
      let done = ap (λ (p : Progress). steps_done p k) ended.progress in
      let first = is_over plan.version m x t.entries t.steps t.kept t.port t.one
      (t.bits_are ∙ sym (bits_there plan a h k here)) (t.count_is ∙ ends_done plan a h k here) in
      let second = is_over plan.version n y t.entries t.steps t.kept t.port t.two
      (t.bits_are ∙ bits ∙ sym (bits_there plan b g k here)) (t.count_is ∙ done ∙ ends_done plan b g k here) in
      let journals : m ≡ n = sym first.entries ∙ second.entries in
      let steps : x ≡ y = sym first.steps ∙ second.steps in
      let P : List StepRun → Type 0 = λ l. IsNodeRun plan.version (node_at plan b g k here) (acts_in l) in
      node_once plan.version (node_at plan a h k here) (node_at plan b g k here) (acts_in x)
      (runs_there plan a h k here) (subst P (sym steps) (runs_there plan b g k here))
      (sym (journal_is plan a h k here) ∙ journals ∙ journal_is plan b g k here)
      (subst (λ (j : List Entry). IsLawful j) (journal_is plan a h k here) (lawful_there plan a h k here))
      (sym (done_there plan a h k here) ∙ ap (map step_record_of) steps ∙ done_there plan b g k here)

  nodes_same : a.nodes ≡ b.nodes
  nodes_same =
      let many = h.run.count in
      let more = g.run.count in
      lists_once a.nodes b.nodes (many ∙ sym more) (λ k d less.
      let here : k < length plan.nodes = omega (arith, less, many) in
      let there : k < length b.nodes = omega (arith, here, more) in
      get_or_default a.nodes k d (some_of a.nodes k (inside plan a h k here)) less ∙ node_same k here
      ∙ get_or_default b.nodes k (some_of b.nodes k (inside plan b g k here)) d there)

  pub log_once : a ≡ b
  log_once =
      let version = h.run.version ∙ sym g.run.version in
      let bits = ap (λ (p : Progress). p.bits) ended.progress in
      λ i. record { version = version i; bits = bits i; end = ended.ends i; nodes = nodes_same i }
