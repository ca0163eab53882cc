-- A session after bits in which no step was done, and what holds of every session.
use Rattle.std.proofs.Common.{◌≡◌, ℕ, zero, suc, ◌+◌, ◌-◌, ◌<◌, ◌≤◌, List, length, true, sym, ap, ◌∙◌, subst}
use Rattle.std.proofs.Common.{arith, refl, inl, inr}
use Rattle.std.specs.Prelude.{◌⊎◌, reverse}
use Rattle.std.proofs.lemmas.Bool.{cases_lt}
use Rattle.sja_plan.specs.declared.turn.Turn.{Turn}
use Rattle.sja_plan.specs.declared.turn.Turn.TheVariants.{Bus}
use Rattle.sja_plan.specs.Limits.{most_bits}
use Rattle.sja_plan.specs.Plan.{PlanValue}
use Rattle.sja_plan.proofs.PlanLimits.ByVersion.{bits_most}
use Rattle.sja_steps.specs.declared.step.Step.{Step}
use Rattle.sja_steps.specs.declared.strike.Strike.{Strike}
use Rattle.sja_driver.specs.StepRuns.{StepRun}
use Rattle.sja_serial.specs.Bits.{TakesBits}
use Rattle.sja_serial.specs.Ending.{progress}
use Rattle.sja_serial.specs.Serial.{Setup, SerialValue, StandsBy, all_acts}
use Rattle.sja_serial.proofs.WholeRun.GoingOn.{bits_run, stands_by_bits}
use Rattle.sja_session.specs.declared.session_room.SessionRoom.{SessionRoom}
use Rattle.sja_session.specs.Running.{MayRun}
use Rattle.sja_session.specs.Sessions.{SessionValue, session_of, setup_by, start_of, IsAt, IsSession, Took, written}
use Rattle.sja_session.specs.Turning.{FitsLast, goes_on_latest, with_turn}
use Rattle.sja_session.specs.Inside.Written.{with_bits}
use Rattle.sja_session.specs.Writing.{with_bits_run}
use Rattle.sja_session.proofs.WrittenPlan.Taken.{took_bits, took_same}
use Rattle.sja_session.proofs.WrittenPlan.Turned.{took_turn, few_turns, named_turns, bits_go_on}
use Rattle.sja_session.proofs.WrittenPlan.Within.{bits_few, last_few}

module _ {room : SessionRoom} {plan : PlanValue} {was now : SerialValue} {steps : List (List Step)} {turns : List Turn}
    {step_runs : List (List StepRun)} {Before : SerialValue → Type 0} {n run : ℕ}
    (h : IsAt (session_of room was plan steps turns) step_runs)
    (t : TakesBits (setup_by (session_of room was plan steps turns)) (all_acts step_runs) Before was n now)
    (is : run ≡ now.bits - was.bits) where
  abbrev setup : Setup
  setup = setup_by (session_of room was plan steps turns)

  pub run_is : n ≡ run
  run_is = let b = bits_run setup (all_acts step_runs) Before was now n t in omega (arith, b, is)

  pub bits_now : TakesBits setup (all_acts step_runs) Before was run now
  bits_now = subst (λ (m : ℕ). TakesBits setup (all_acts step_runs) Before was m now) run_is t

  pub many : now.bits ≡ was.bits + run
  many = let b = bits_run setup (all_acts step_runs) Before was now n t in let e = run_is in omega (arith, b, e)

  pub stands_now : StandsBy setup now step_runs
  stands_now = stands_by_bits setup step_runs Before was now run bits_now h.stands

  at_some : IsAt (session_of room now plan steps (with_turn turns (Bus run))) step_runs
  at_some = record {
    stands = stands_now;
    steps = h.steps;
    count = h.count;
    took = λ end. took_turn step_runs (start_of (length plan.nodes)) (Bus run) turns (progress now step_runs)
        (λ k m e. absurd cc)
        (took_bits step_runs (start_of (length plan.nodes)) (reverse turns) was now run many (h.took end));
  }

  at_none : run ≡ 0 → IsAt (session_of room now plan steps turns) step_runs
  at_none none = record {
    stands = stands_now;
    steps = h.steps;
    count = h.count;
    took = λ end. let m = many in took_same step_runs (start_of (length plan.nodes)) (reverse turns) was now
        (omega (arith, m, none)) (h.took end);
  }

  -- without an end whatever turns it has
  pub at_endless : most_bits plan.version < plan.bits → (items : List Turn) →
      IsAt (session_of room now plan steps items) step_runs
  at_endless endless items = record {
    stands = stands_now;
    steps = h.steps;
    count = h.count;
    took = λ end. absurd (omega (arith, end, endless));
  }

  -- with a turn of so many bits more, where there are some
  pub at_now : (m : ℕ) → m ≡ run → IsAt (session_of room now plan steps (with_bits turns m)) step_runs
  at_now zero e = at_none (sym e)
  at_now (suc m) e =
      subst (λ (n : ℕ). IsAt (session_of room now plan steps (with_turn turns (Bus n))) step_runs) (sym e) at_some

  pub wrote_now : (m : ℕ) → written (session_of room now plan steps (with_bits turns m))
      ≡ with_bits_run (written (session_of room was plan steps turns)) m
  wrote_now zero = refl
  wrote_now (suc m) = refl

  -- with the turns that were taken down, if it has an end
  module _ (items : List Turn) (noted : plan.bits ≤ most_bits plan.version → items ≡ with_bits turns run) where
    pub at_items : IsAt (session_of room now plan steps items) step_runs
    at_items = record {
      stands = stands_now;
      steps = h.steps;
      count = h.count;
      took = λ end. subst (λ (l : List Turn). Took step_runs (start_of (length plan.nodes)) (reverse l)
          (progress now step_runs)) (sym (noted end)) ((at_now run refl).took end);
    }

    pub wrote_items : plan.bits ≤ most_bits plan.version → written (session_of room now plan steps items)
        ≡ with_bits_run (written (session_of room was plan steps turns)) run
    wrote_items end = ap (λ (l : List Turn). written (session_of room now plan steps l)) (noted end) ∙ wrote_now run

-- ---- what holds of every session

-- it holds of one whose run, and whose strikes, are others, and which stands at the same step runs
pub session_at : {s : SessionValue} {sizes : List ℕ} {capacity : ℕ} (run : SerialValue) (strikes : List Strike)
    (inv : IsSession s sizes capacity) →
    IsAt (record s { run = run; plan = record s.plan { strikes = strikes } }) inv.step_runs →
    IsSession (record s { run = run; plan = record s.plan { strikes = strikes } }) sizes capacity
session_at run strikes inv at = record {
  step_runs = inv.step_runs;
  at = at;
  rules = inv.rules;
  places = inv.places;
  done = inv.done;
  counted = inv.counted;
  steps = inv.steps;
  most = inv.most;
  room = inv.room;
  few = inv.few;
  names = inv.names;
}

module _ {room : SessionRoom} {plan : PlanValue} {was now : SerialValue} {steps : List (List Step)} {turns : List Turn}
    {sizes : List ℕ} {capacity : ℕ} {Before : SerialValue → Type 0} {n run : ℕ}
    (inv : IsSession (session_of room was plan steps turns) sizes capacity)
    (t : TakesBits (setup_by (session_of room was plan steps turns)) (all_acts inv.step_runs) Before was n now)
    (is : run ≡ now.bits - was.bits) where
  -- no more bits were run than the plan has
  bits_within : was.bits + run ≤ plan.bits
  bits_within =
      let m = many inv.at t is in
      let b = bits_few (session_of room now plan steps (with_turn turns (Bus run))) inv.step_runs (at_some inv.at t is)
      in omega (arith, m, b)

  -- so the last turn holds them, where it has an end
  pub turn_fits : plan.bits ≤ most_bits plan.version → FitsLast turns (Bus run)
  turn_fits end =
      let few = last_few (session_of room was plan steps turns) inv.step_runs inv.at inv.done end (inv.steps end) in
      let b = bits_within in let limit = bits_most plan.version in omega (arith, few, b, limit, end)

  -- where some were run they were due, and so a turn is left for them
  turn_left : plan.bits ≤ most_bits plan.version → (count : ℕ) → MayRun (session_of room was plan steps turns) count →
      1 ≤ count → 0 < run → (length turns < room.turns) ⊎ (goes_on_latest (reverse turns) (Bus run) ≡ true)
  turn_left end count (inl (inl none)) asked some = absurd (omega (arith, none, asked))
  turn_left end count (inl (inr over)) asked some = let b = bits_within in absurd (omega (arith, over, some, b))
  turn_left end count (inr (inl endless)) asked some = absurd (omega (arith, end, endless))
  turn_left end count (inr (inr (inl less))) asked some = inl less
  turn_left end count (inr (inr (inr on))) asked some = inr (bits_go_on (reverse turns) run count ∙ on)

  -- it holds with a turn of them
  with_some : {items : List Turn} {places count : ℕ} → plan.bits ≤ most_bits plan.version →
      items ≡ with_turn turns (Bus run) →
      places ≡ capacity → MayRun (session_of room was plan steps turns) count → 1 ≤ count → 0 < run →
      IsSession (session_of room now plan steps items) sizes places
  with_some {places} {count} end e same may asked some =
      subst (λ (l : List Turn). IsSession (session_of room now plan steps l) sizes places) (sym e) (record {
        step_runs = inv.step_runs;
        at = at_some inv.at t is;
        rules = inv.rules;
        places = inv.places;
        done = inv.done;
        counted = inv.counted;
        steps = inv.steps;
        most = inv.most;
        room = let r = inv.room in omega (arith, r, same);
        few = few_turns room.turns (Bus run) turns (turn_left end count may asked some) inv.few;
        names = named_turns (length plan.nodes) (Bus run) turns tt inv.names;
      })

  -- and where there were none
  session_none : run ≡ 0 → IsSession (session_of room now plan steps turns) sizes capacity
  session_none none = session_at now plan.strikes inv (at_none inv.at t is none)

  -- without an end it holds with the turns as they were
  session_endless : most_bits plan.version < plan.bits → IsSession (session_of room now plan steps turns) sizes capacity
  session_endless endless = session_at now plan.strikes inv (at_endless inv.at t is endless turns)

  -- in each case
  pub session_now : {items : List Turn} {places count : ℕ} → (plan.bits ≤ most_bits plan.version → items ≡ with_bits
      turns run) → (most_bits plan.version < plan.bits → items ≡ turns) → places ≡ capacity →
      MayRun (session_of room was plan steps turns) count → (0 < run → 1 ≤ count) →
      IsSession (session_of room now plan steps items) sizes places
  session_now {items} {places} {count} noted stay same may asked = elim (cases_lt (most_bits plan.version) plan.bits) [
    | inl endless ↦ moved (stay endless) (session_endless endless)
    | inr end ↦ by_run end (noted end) run refl
  ]
    where
      moved : items ≡ turns → IsSession (session_of room now plan steps turns) sizes capacity →
          IsSession (session_of room now plan steps items) sizes places
      moved e h = subst (λ (n : ℕ). IsSession (session_of room now plan steps items) sizes n) (sym same)
          (subst (λ (l : List Turn). IsSession (session_of room now plan steps l) sizes capacity) (sym e) h)

      by_run : plan.bits ≤ most_bits plan.version → items ≡ with_bits turns run → (m : ℕ) → run ≡ m →
          IsSession (session_of room now plan steps items) sizes places
      by_run end e zero none = moved (e ∙ ap (λ (n : ℕ). with_bits turns n) none) (session_none none)
      by_run end e (suc m) full =
          let some : 0 < run = omega (arith, full) in
          with_some end (e ∙ ap (λ (n : ℕ). with_bits turns n) full
          ∙ ap (λ (n : ℕ). with_turn turns (Bus n)) (sym full)) same may (asked some) some
