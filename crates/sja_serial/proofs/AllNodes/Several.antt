-- Acts of one node, one after another.
use Rattle.std.proofs.Common.{◌≡◌, ℕ, ◌-◌, ◌<◌, List, [], ◌∷◌, ◌++◌, length, refl, sym, ap, ◌∙◌}
use Rattle.std.proofs.Common.{subst, append_assoc, append-nil, arith, inl, inr}
use Rattle.std.specs.Prelude.{slice_index_or, slice_set}
use Rattle.std.proofs.lemmas.Bool.{cases_eq}
use Rattle.std.proofs.lemmas.List.{length-map, map-append, get_or-set_same, set-set}
use Rattle.std.proofs.lemmas.List.{get_or_default, get_or-set_other}
use Rattle.sja_journal.specs.declared.entry.Entry.{Entry}
use Rattle.sja_journal.specs.declared.entry.Entry.TheVariants.{Up as Item}
use Rattle.sja_journal.specs.BitEntries.{entries_of_items, HasMore}
use Rattle.sja_link.specs.Deques.{Deques}
use Rattle.sja_link.specs.NewLinks.{new_links}
use Rattle.sja_bus_rules.specs.Wire.{journal_at}
use Rattle.sja_regs.specs.declared.registers.Registers.{Registers}
use Rattle.sja_driver.specs.declared.logged_driver.LoggedDriver.{LoggedDriver}
use Rattle.sja_driver.specs.StepRuns.{StepRun, step_runs_at, acts_in, step_record_of}
use Rattle.sja_driver.specs.TypedActs.{TypedAct, with_acts, acts_at}
use Rattle.sja_driver.specs.LoggedDrivers.{log_of}
use Rattle.sja_driver.specs.Logs.{done_in}
use Rattle.sja_serial.specs.Serial.{Setup, SerialValue, StandsAt, StandsBy, NodeDoes, setup_in}
use Rattle.sja_regs.specs.Registers.{at_power_on}
use Rattle.sja_driver.proofs.OneNode.Slices.{no_acts}

-- any links
abbrev pub some_links : Deques
some_links = new_links 0 0

pub first_driver : (drivers : List LoggedDriver) → 0 < length drivers → LoggedDriver
first_driver [] h = absurd (omega (arith, h))
first_driver (d ∷ drivers) h = d

pub acts_twice : (acts : List (List TypedAct)) (node : ℕ) (xs ys : List TypedAct) → node < length acts →
    with_acts (with_acts acts node xs) node ys ≡ with_acts acts node (xs ++ ys)
acts_twice acts node xs ys there =
    ap (λ l. slice_set (with_acts acts node xs) node (l ++ ys))
    (get_or-set_same acts node (acts_at acts node ++ xs) [] there)
    ∙ set-set acts node (acts_at acts node ++ xs) ((acts_at acts node ++ xs) ++ ys)
    ∙ ap (slice_set acts node) (append_assoc (acts_at acts node) xs ys)

-- nothing was done
pub does_none : (setup : Setup) (r : SerialValue) (node : ℕ) (acts : List (List TypedAct)) → StandsAt setup r acts →
    NodeDoes setup r r node acts []
does_none setup r node acts h = record {
  stands = subst (λ (l : List (List TypedAct)). StandsAt setup r l) (sym (no_acts acts node)) h;
  at_once = λ i d less. absurd (omega (arith, less));
  bits = refl;
  items = λ m less. record { items = []; whole = sym (append-nil (journal_at r.bus.journals m)) };
}

-- items, and then more of them
pub more_both : (j k l : List Entry) → HasMore j k → HasMore k l → HasMore j l
more_both j k l f g = record {
  items = f.items ++ g.items;
  whole = g.whole ∙ ap (λ t. t ++ entries_of_items g.items) f.whole
      ∙ append_assoc j (entries_of_items f.items) (entries_of_items g.items)
      ∙ ap (λ t. j ++ t) (sym (map-append (λ u. Item u) f.items g.items));
}

-- for what a run was made is seen of it
pub setup_is : {setup : Setup} {r : SerialValue} {acts : List (List TypedAct)} → StandsAt setup r acts →
    setup ≡ setup_in r
setup_is {setup} {r} h =
    let few = h.may.few.0 in let drivers = h.count.drivers in
    let version = (h.nodes 0 (first_driver r.drivers (omega (arith, few, drivers))) (at_power_on 1)
    some_links (omega (arith, few))).ported.version_is in λ i. let s : Setup = record {
      version = sym version i;
      bits = sym h.all_bits i;
      strikes = sym h.script i;
      nodes = (sym h.may.nodes ∙ ap (λ (l : List ℕ). length l) (sym h.steps)) i;
      steps = sym h.steps i;
    } in s

-- so what is asked of that, and what holds of it, is so of this
pub at_own : {setup : Setup} {r : SerialValue} {acts : List (List TypedAct)} → StandsAt setup r acts →
    StandsAt (setup_in r) r acts
at_own {setup} {r} {acts} h = subst (λ (s : Setup). StandsAt s r acts) (setup_is h) h

pub from_own : {setup : Setup} {r : SerialValue} {acts : List (List TypedAct)} (P : Setup → Type 0) →
    StandsAt setup r acts → P (setup_in r) → P setup
from_own P h = subst P (sym (setup_is h))

pub by_own : {setup : Setup} {r : SerialValue} {step_runs : List (List StepRun)} → StandsBy setup r step_runs →
    StandsBy (setup_in r) r step_runs
by_own {setup} {r} {step_runs} h = subst (λ (s : Setup). StandsBy s r step_runs) (setup_is h.stands) h

-- there is a list of steps for each node
pub many_steps : {setup : Setup} {r : SerialValue} {step_runs : List (List StepRun)} → StandsBy setup r step_runs →
    length step_runs ≡ setup.nodes
many_steps {step_runs = step_runs} h = sym (length-map step_runs (λ (l : List StepRun). acts_in l))
    ∙ h.stands.acts_count

-- how many steps of a driver are done
pub done_count : (setup : Setup) (r : SerialValue) (step_runs : List (List StepRun)) (node : ℕ) (d : LoggedDriver)
    (p : Registers) → StandsBy setup r step_runs → node < setup.nodes →
    length (done_in (log_of (slice_index_or r.drivers node d))) ≡ length (step_runs_at step_runs node)
done_count setup r step_runs node d p h there =
    ap (λ l. length l) (sym (h.nodes node d p there).done) ∙ length-map (step_runs_at step_runs node) step_record_of

-- what is the same of an element that was put and of the one that stood there is the same of each
pub each_as : {A B : Type 0} (f : A → B) (xs : List A) (n : ℕ) (x w : A) (m : ℕ) (d : A) → n < length xs →
    f x ≡ f (slice_index_or xs n w) → f (slice_index_or (slice_set xs n x) m d) ≡ f (slice_index_or xs m d)
each_as {A} f xs n x w m d less same = elim (cases_eq n m) [
  | inl e ↦ subst (λ (k : ℕ). f (slice_index_or (slice_set xs n x) k d) ≡ f (slice_index_or xs k d)) e
      (ap f (get_or-set_same xs n x d less) ∙ same ∙ ap f (get_or_default xs n w d less))
  | inr differ ↦ ap f (get_or-set_other xs n m x d (λ e. differ (sym e)))
]
