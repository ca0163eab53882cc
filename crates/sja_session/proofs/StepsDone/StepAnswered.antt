-- What holds of every session after a step that was tried.
use Rattle.std.proofs.Common.{◌≡◌, ℕ, ◌<◌, ◌≤◌, List, [], ◌∷◌, length, true, sym, ap, subst, arith, inl, inr}
use Rattle.std.specs.Prelude.{◌⊎◌, reverse, slice_index_or}
use Rattle.std.proofs.lemmas.Bool.{cases_eq, cases_lt}
use Rattle.std.proofs.lemmas.List.{length-append}
use Rattle.sja_plan.specs.Limits.{most_bits}
use Rattle.sja_plan.specs.declared.turn.Turn.{Turn}
use Rattle.sja_plan.specs.declared.turn.Turn.TheVariants.{Node}
use Rattle.sja_plan.specs.Plan.{PlanValue}
use Rattle.sja_steps.specs.declared.step.Step.{Step}
use Rattle.sja_serial.specs.Serial.{SerialValue}
use Rattle.sja_serial.specs.Stepping.{DoesStep, WaitsFor, with_step_runs}
use Rattle.sja_session.specs.declared.session_room.SessionRoom.{SessionRoom}
use Rattle.sja_session.specs.Sessions.{AreNamed, session_of, setup_by, IsSession}
use Rattle.sja_session.specs.Stepping.{HasTurn, MayStep}
use Rattle.sja_session.specs.Turning.{goes_on_latest, with_turn}
use Rattle.sja_session.specs.Writing.{with_more}
use Rattle.sja_session.proofs.WrittenPlan.OneMore.{more_same, more_other}
use Rattle.sja_session.proofs.WrittenPlan.Turned.{few_turns, named_turns}
use Rattle.sja_session.proofs.BitsDone.AfterBits.{session_at}
use Rattle.sja_session.proofs.StepsDone.Stepped.{at_it, near, still_at}

module _ {room : SessionRoom} (plan : PlanValue) (was now : SerialValue) (steps : List (List Step)) (turns : List Turn)
    (node : ℕ) (one : Step) (sizes : List ℕ) (capacity : ℕ)
    (inv : IsSession (session_of room was plan steps turns) sizes capacity)
    (may : MayStep (session_of room was plan steps turns) node) where
  few_done : (k : ℕ) → k < length plan.nodes → length (slice_index_or (with_more steps node one) k []) ≤ room.steps
  few_done k less = elim (cases_eq node k) [
    | inl e ↦ subst (λ (m : ℕ). length (slice_index_or (with_more steps node one) m []) ≤ room.steps) e
        (let long = ap (λ l. length l) (more_same steps node one
        (near plan was now steps turns inv.step_runs node one may.there inv.at)) in
        let sum = length-append (slice_index_or steps node []) (one ∷ []) in let left = may.left in
        omega (arith, long, sum, left))
    | inr differ ↦ let same = ap (λ l. length l) (more_other steps node k one (λ e. differ (sym e))) in
        let few = inv.done k less in omega (arith, same, few)
  ]

  module _ (t : DoesStep (setup_by (session_of room was plan steps turns)) was now node one inv.step_runs)
      (items : List Turn) where
    pub after_done : (plan.bits ≤ most_bits plan.version → items ≡ with_turn turns (Node node 1)) →
        (most_bits plan.version < plan.bits → items ≡ turns) →
        IsSession (session_of room now plan (with_more steps node one) items) sizes capacity
    after_done noted stay = record {
      step_runs = with_step_runs inv.step_runs node (t.step_run ∷ []);
      at = at_it plan was now steps turns inv.step_runs node one may.there inv.at t items noted;
      rules = inv.rules;
      places = inv.places;
      done = few_done;
      counted = inv.counted;
      steps = inv.steps;
      most = inv.most;
      room = inv.room;
      few = elim (cases_lt (most_bits plan.version) plan.bits) [
        | inl endless ↦ subst (λ (l : List Turn). length l ≤ room.turns) (sym (stay endless)) inv.few
        | inr end ↦ subst (λ (l : List Turn). length l ≤ room.turns) (sym (noted end))
            (few_turns room.turns (Node node 1) turns (left end may.turn) inv.few)
      ];
      names = elim (cases_lt (most_bits plan.version) plan.bits) [
        | inl endless ↦
            subst (λ (l : List Turn). AreNamed (length plan.nodes) (reverse l)) (sym (stay endless)) inv.names
        | inr end ↦ subst (λ (l : List Turn). AreNamed (length plan.nodes) (reverse l)) (sym (noted end))
            (named_turns (length plan.nodes) (Node node 1) turns may.there inv.names)
      ];
    }
      where
        left : plan.bits ≤ most_bits plan.version → HasTurn (session_of room was plan steps turns) (Node node 1) →
            (length turns < room.turns) ⊎ (goes_on_latest (reverse turns) (Node node 1) ≡ true)
        left end (inl endless) = absurd (omega (arith, end, endless))
        left end (inr has) = has

  pub after_waiting : WaitsFor (setup_by (session_of room was plan steps turns)) was now node one inv.step_runs →
      IsSession (session_of room now plan steps turns) sizes capacity
  after_waiting t =
      session_at now plan.strikes inv (still_at plan was now steps turns inv.step_runs node one may.there inv.at t)
