-- What is promised of a run in threads, of a run that is over.
use Rattle.std.proofs.Common.{◌≡◌, ℕ, ◌<◌, Bool, true, false, List, length, map, sym, ap, ◌∙◌, subst}
use Rattle.std.proofs.Common.{arith, inl, inr}
use Rattle.std.specs.Prelude.{Result, Ok, Err, IfOk, slice_index_or}
use Rattle.sja_journal.specs.declared.entry.Entry.{Entry}
use Rattle.lemmas.specs.Related.{EachRelated}
use Rattle.lemmas.proofs.Lists.{some_of}
use Rattle.sja_rings.specs.declared.node_bus.NodeBus.{NodeBus}
use Rattle.sja_rings.specs.declared.node_driver.NodeDriver.{NodeDriver}
use Rattle.sja_rings.specs.NodeRings.{SameNodeBus}
use Rattle.sja_regs.specs.DriverSettings.{SettingsValue, settings_in}
use Rattle.sja_regs.specs.Registers.{at_power_on}
use Rattle.sja_plan.specs.Plan.{PlanValue, steps_at}
use Rattle.sja_steps.specs.declared.step_record.StepRecord.{StepRecord as DoneStep}
use Rattle.sja_driver.specs.TypedActs.{TypedAct}
use Rattle.sja_log.specs.declared.end.End.{End}
use Rattle.sja_promises.specs.Headline.{AreAccounts}
use Rattle.sja_log.specs.Log.{RunValue, journals_in}
use Rattle.sja_promises.specs.Runs.{IsRun}
use Rattle.sja_bus_rules.specs.Wire.{journal_at}
use Rattle.sja_threads.specs.declared.bus_thread.BusThread.{BusThread}
use Rattle.sja_threads.specs.declared.joined_run.JoinedRun.{JoinedRun}
use Rattle.sja_threads.specs.declared.thread_start.ThreadStart.{ThreadStart}
use Rattle.sja_thread_promises.specs.declared.port_update.PortUpdate.{PortUpdate}
use Rattle.sja_threads.specs.declared.handover.Handover.{Handover}
use Rattle.sja_thread_promises.specs.Accessing.{Work, acts_done, work_at}
use Rattle.sja_thread_promises.specs.Needed.{AllDue, EndsDuly}
use Rattle.sja_thread_promises.specs.Setting.{LeadToSettings}
use Rattle.sja_thread_promises.specs.Stopping.{act_counts}
use Rattle.sja_thread_promises.specs.declared.pass.Pass.{Pass}
use Rattle.sja_thread_promises.specs.Asking.{AtNode, IsLet}
use Rattle.sja_thread_promises.specs.Threads.{AreLetBy, IsThreadedRun}
use Rattle.sja_thread_promises.specs.Ordering.{IsOrdered, is_spent}
use Rattle.sja_threads.specs.Inside.Boards.{AreClosed, AreTold, turns_at}
use Rattle.sja_threads.specs.Inside.EndsInOrder.{AreInOrder}
use Rattle.sja_threads.specs.Inside.Ended.{IsOver}
use Rattle.sja_threads.specs.Inside.EndsJoined.{AreJoined, AreGivenBy}
use Rattle.sja_threads.specs.Inside.JoinedRun.{HasFollowed, IsEnding}
use Rattle.sja_threads.specs.Inside.Making.{AreMade}
use Rattle.sja_threads.specs.Inside.Rounds.{IsUnderWay, GoesOn, EndsAs}
use Rattle.sja_threads.specs.Inside.Settling.{IsSettledLog}
use Rattle.sja_threads.specs.Inside.Started.{Serves}
use Rattle.sja_threads.proofs.End.EndsJoined.{ends_given, ends_joined}
use Rattle.sja_threads.proofs.End.RunOver.{all_done, all_followed, acts_of_work, is_over}
use Rattle.sja_threads.proofs.Rounds.GoesOn.{on_twice}
use Rattle.sja_threads.proofs.Rounds.SameEnds.{sames_trans}

-- once all threads are joined
pub ending : {G : Type 0} (Lets : G → ℕ → ℕ → ℕ → Type 0) (plan : PlanValue) (starts : List (ThreadStart G))
    (was : BusThread) (bus : BusThread) (ws : List (Handover NodeDriver)) (j : JoinedRun) → j.bus ≡ bus →
    j.workeds.items ≡ ws → length starts ≡ length plan.nodes → length was.links.items ≡ length plan.nodes →
    AreMade plan (length plan.nodes) starts was.links.items → GoesOn plan was bus →
    was.bus.steps ≡ act_counts plan → EachRelated (Serves Lets plan) starts ws →
    IsEnding (AtNode Lets (map (λ (s : ThreadStart G). s.gate) starts)) plan j
ending {G} Lets plan starts was bus ws j there here many long made on room served =
    let done = all_done Lets plan starts ws served in record {
      way = subst (λ (b : BusThread). IsUnderWay plan b) (sym there) on.way;
      steps = ap (λ (b : BusThread). b.bus.steps) there ∙ on.steps ∙ room;
      works = done.works;
      over = λ t more.
          subst (λ (l : List (Handover NodeDriver)). IsOver plan t.bus t.links.items l
          (map (λ (w : Work). acts_done w) done.works)) (sym here)
          (is_over Lets plan starts ws was t many long made
          (on_twice plan was bus t on (subst (λ (b : BusThread). GoesOn plan b t) there more)) room served done);
      joined = λ links same.
          subst (λ (l : List (Handover NodeDriver)). AreJoined (length plan.nodes) links l) (sym here)
          (ends_joined Lets plan starts ws was many long made served done links
          (sames_trans was.links.items bus.links.items links on.sames
          (subst (λ (b : BusThread). EachRelated SameNodeBus b.links.items links) there same)));
      given =
          subst (λ (l : List (Handover NodeDriver)). AreGivenBy (length plan.nodes) done.works l) (sym here)
          (ends_given Lets plan starts ws was many long made served done);
      followed = λ node w few.
          subst (λ (l : List (Handover NodeDriver)).
          HasFollowed (AtNode Lets (map (λ (s : ThreadStart G). s.gate) starts)) plan node (work_at done.works node)
          (slice_index_or l node w)) (sym here)
          (all_followed Lets plan starts ws was bus many long made done node w few);
    }

-- at the end of the run
module _ {G : Type 0} (quits : Bool) (answered : G → ℕ → ℕ → ℕ → Pass → Type 0) (gates : List G)
    (plan : PlanValue) (j : JoinedRun) (t : BusThread) (end : End) (log : RunValue)
    (ending : IsEnding (AtNode (IsLet quits answered) gates) plan j) (ends : EndsAs plan j.bus t end)
    (runs : (acts : List (List TypedAct)) → IsOver plan t.bus t.links.items j.workeds.items acts → IsRun plan log acts)
    (is : IsSettledLog t.bus j.workeds.items end log) (turns : List (List PortUpdate))
    (told : AreTold plan t.bus.journals turns)
    (closed : AreClosed (length plan.nodes) (is_spent end) turns)
    (in_order : AreInOrder plan.version (length plan.nodes) turns j.workeds.items) where
  abbrev acts : List (List TypedAct)
  acts = map (λ (w : Work). acts_done w) ending.works

  over : IsOver plan t.bus t.links.items j.workeds.items acts
  over = ending.over t ends.on

  run : IsRun plan log acts
  run = runs acts over

  some : (node : ℕ) → node < length plan.nodes → Handover NodeDriver
  some node few = some_of j.workeds.items 0 (let e = over.workeds_count in omega (arith, few, e))

  some_bus : (node : ℕ) → node < length plan.nodes → NodeBus
  some_bus node few = some_of t.links.items 0 (let e = over.links_count in omega (arith, few, e))

  in_plan : (node : ℕ) → node < length log.nodes → node < length plan.nodes
  in_plan node less = let e = run.count in omega (arith, less, e)

  pub threaded : IsThreadedRun plan log quits
  threaded = record {
    works = ending.works;
    run = run;
    follows = λ node few. (ending.followed node (some node few) few).follows;
    done = λ node d less.
        let few = in_plan node less in
        (ending.followed node (some node few) few).done ∙ sym (is.done node d (some node few) less);
    sets = λ node few.
        subst (λ (l : List TypedAct). (last : SettingsValue)
        × LeadToSettings (settings_in (at_power_on plan.version)) l last) (acts_of_work ending.works node)
        (over.nodes node (some_bus node few) (some node few) few).leads;
    ordered = λ node few.
        let w = some node few in let led = in_order node w few in
        let acts_there = acts_done (work_at ending.works node) in
        subst (λ (l : List (List Entry)). IsOrdered plan.version plan.bits log.end (steps_at plan node)
        (journal_at l node) acts_there) (sym is.journals)
        (record {
          told = turns_at turns node;
          closed = closed node few ∙ sym (ap is_spent is.ends);
          tells = told node (let e = over.journals_count in omega (arith, few, e));
          done = (slice_index_or j.workeds.items node w).done.list;
          same = (ending.followed node w few).noted;
          last = led.0;
          led = led.1;
        });
    linked = is.linked;
    needed = record {
      links = ends.on.way.first;
      due = subst (λ (n : ℕ). AllDue plan ends.on.way.first n (journals_in log)) (sym is.bits)
          (subst (λ (l : List (List Entry)). AllDue plan ends.on.way.first t.bus.run l) (sym is.journals)
          ends.on.way.due);
      ends = subst (λ (e : End). EndsDuly plan ends.on.way.first e log.bits (journals_in log)) (sym is.ends)
          (subst (λ (n : ℕ). EndsDuly plan ends.on.way.first end n (journals_in log))
          (sym (is.bits ∙ ends.on.way.run))
          (subst (λ (l : List (List Entry)). EndsDuly plan ends.on.way.first end t.run l) (sym is.journals)
          ends.duly));
    };
    all_done = λ never node d less.
        let few = in_plan node less in
        ap (λ (l : List DoneStep). length l) (is.done node d (some node few) less)
        ∙ elim (ending.followed node (some node few) few).all.2.ends [
          | inl same ↦ same
          | inr quit ↦ absurd (let two : true ≡ false = sym quit.0 ∙ never in cc)
        ];
  }

  -- and its drivers did as many steps as their gates let them
  pub let_by : AreLetBy quits answered gates plan log
  let_by node d less =
      let few = in_plan node less in
      subst (λ (n : ℕ). AtNode (IsLet quits answered) gates node (length (steps_at plan node)) n)
      (sym (ap (λ (l : List DoneStep). length l) (is.done node d (some node few) less)))
      (ending.followed node (some node few) few).all

-- the accounts of its log
pub headline : (plan : PlanValue) (quits : Bool) {X : Type 0} (r : Result RunValue X) →
    IfOk r (λ log. IsThreadedRun plan log quits) → IfOk r AreAccounts
headline plan quits (Ok log) is = λ k d less. (is.run.nodes k d less).account
headline plan quits (Err x) is = tt

-- by an answer: what holds of one that is Ok by two that do
pub if_both : {A X : Type 0} {P Q R : A → Type 0} (r : Result A X) → ((a : A) → P a → Q a → R a) →
    IfOk r P → IfOk r Q → IfOk r R
if_both (Ok a) f p q = f a p q
if_both (Err x) f p q = tt
