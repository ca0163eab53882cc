-- A run with one strike more stands at the same acts, as one that was made with it.
use Rattle.sja_driver.specs.StepRuns.{StepRun}
use Rattle.std.proofs.Common.{◌≡◌, List, [], ◌∷◌, ◌++◌, refl, sym, subst}
use Rattle.std.specs.Prelude.{Result, OnOk}
use Rattle.std.proofs.lemmas.Result.{on_ok_weaker}
use Rattle.sja_steps.specs.declared.strike.Strike.{Strike}
use Rattle.sja_driver.specs.TypedActs.{TypedAct}
use Rattle.sja_serial.specs.Serial.{Setup, SerialValue, StandsAt, StandsBy, all_acts}
use Rattle.sja_serial.specs.Striking.{struck_run, struck_setup}

-- with these strikes, where its bus has them
pub stands_with : (setup : Setup) (strikes : List Strike) (r : SerialValue) (acts : List (List TypedAct)) →
    StandsAt setup r acts →
    StandsAt (record setup { strikes = strikes }) (record r { bus = record r.bus { script = strikes } }) acts
stands_with setup strikes r acts h = record {
  may = record { bits = h.may.bits; few = h.may.few; nodes = h.may.nodes; plans = h.may.plans };
  right = h.right;
  script = refl;
  all_bits = h.all_bits;
  steps = h.steps;
  bits = h.bits;
  count = record {
    journals = h.count.journals;
    drivers = h.count.drivers;
    ports = h.count.ports;
  };
  acts_count = h.acts_count;
  links = h.links;
  ends = h.ends;
  starts = h.starts;
  own = h.own;
  nodes = h.nodes;
  shown = h.shown;
}

-- with one strike more
stands_struck : (setup : Setup) (r : SerialValue) (acts : List (List TypedAct)) (strike : Strike) →
    StandsAt setup r acts → StandsAt (struck_setup setup strike) (struck_run r strike) acts
stands_struck setup r acts strike h =
    subst (λ (l : List Strike). StandsAt (struck_setup setup strike)
    (record r { bus = record r.bus { script = l ++ strike ∷ [] } }) acts) (sym h.script)
    (stands_with setup (setup.strikes ++ strike ∷ []) r acts h)

-- the same of a run that took the strike, where it did
pub stands_if_struck : {A X : Type 0} (was now : SerialValue) (strike : Strike) (r : Result A X) →
    OnOk r (now ≡ struck_run was strike) → OnOk r ((setup : Setup) (acts : List (List TypedAct)) →
    StandsAt setup was acts → StandsAt (struck_setup setup strike) now acts)
stands_if_struck was now strike r is = on_ok_weaker r (λ e setup acts h.
    subst (λ (x : SerialValue). StandsAt (struck_setup setup strike) x acts) (sym e)
    (stands_struck setup was acts strike h)) is

-- and at the same steps
pub stands_by_if_struck : {A X : Type 0} (was now : SerialValue) (strike : Strike) (r : Result A X) →
    OnOk r (now ≡ struck_run was strike) → OnOk r ((setup : Setup) (step_runs : List (List StepRun)) →
    StandsBy setup was step_runs → StandsBy (struck_setup setup strike) now step_runs)
stands_by_if_struck was now strike r is = on_ok_weaker r (λ e setup step_runs h.
    subst (λ (x : SerialValue). StandsBy (struck_setup setup strike) x step_runs) (sym e)
    (record { stands = stands_struck setup was (all_acts step_runs) strike h.stands; nodes = h.nodes })) is
