-- A run in which the next step of a node's driver is tried, and what it gave is taken.
use Rattle.sja_steps.specs.declared.step_answer.StepAnswer.{StepAnswer}
use Rattle.std.proofs.Common.{◌≡◌, ◌+◌, ◌<◌, ℕ, List, [], length, refl, sym, subst, arith}
use Rattle.std.specs.Prelude.{None, slice_index_or, slice_set, Option}
use Rattle.std.proofs.lemmas.List.{get_or_default}
use Rattle.sja_journal.specs.declared.entry.Entry.{Entry}
use Rattle.sja_link.specs.Deques.{Deques, Lies, AreAlike, up_on}
use Rattle.lemmas.proofs.Related.{each_one, each_refl}
use Rattle.sja_journal.specs.Links.{AreEnds, HaveLinks}
use Rattle.sja_journal.specs.Sizes.{most_activations}
use Rattle.lemmas.specs.Related.{EachRelated}
use Rattle.sja_regs.specs.declared.registers.Registers.{Registers}
use Rattle.sja_steps.specs.declared.step.Step.{Step}
use Rattle.sja_journal.specs.declared.bus_fault.BusFault.{BusFault}
use Rattle.sja_bus_rules.specs.Lawful.{IsBusRun}
use Rattle.sja_journal.specs.BitEntries.{MayHaveItems}
use Rattle.sja_bus_rules.specs.Wire.{journal_at}
use Rattle.sja_bus_rules.specs.Buses.{BusValue, KeepsAll, EachJournal, AllDry, EachUntold, untold_at}
use Rattle.sja_bus_rules.specs.Reasons.{IsTakenAndRefused}
use Rattle.sja_driver.specs.declared.logged_driver.LoggedDriver.{LoggedDriver}
use Rattle.sja_driver.specs.TypedActs.{TypedAct, acts_at}
use Rattle.sja_driver.specs.LoggedDrivers.{log_of, MayStep, StaysLawful}
use Rattle.sja_driver.specs.Logs.{HasRoom}
use Rattle.sja_driver.specs.GivenNothing.{GaveNothing}
use Rattle.sja_promises.specs.Nodes.{IsNode}
use Rattle.sja_serial.specs.Serial.{Setup, SerialValue, StandsAt}
use Rattle.sja_serial.specs.Inside.SerialProgress.{run_now}
use Rattle.sja_serial.proofs.ManyBits.Borrowed.{stands_there, put_back}
use Rattle.sja_journal.proofs.Growing.Items.{items_none}
use Rattle.sja_serial.proofs.OneNode.Quiet.{as_untold, all_dry}
use Rattle.sja_serial.proofs.OneNode.Standing.{Tries, node_there, same_node}
use Rattle.sja_serial.proofs.OneNode.Tried.{IsTried, next_tried, place}
use Rattle.sja_serial.proofs.OneNode.Taken.{gather_takes}
use Rattle.sja_link.proofs.QueuedLinks.Ends.{ends}
use Rattle.sja_serial.proofs.OneNode.Alike.{alike_refl, links_are, still_ends, still_starts}
use Rattle.sja_promises.proofs.OneNode.Trying.{StepsHere}

-- the registers that a step was tried at, and the step at what they are
abbrev pub tried_at : {was now : LoggedDriver} {old given : Deques} {p q : Registers} {one : Step}
    {answer : Option StepAnswer} → StepsHere was now old given p q one answer → Registers
tried_at {p = p} tries = p

pub at_port : {was now : LoggedDriver} {old given : Deques} {p r q : Registers} {one : Step}
    {answer : Option StepAnswer} → p ≡ r → StepsHere was now old given p q one answer →
    StepsHere was now old given r q one answer
at_port {was} {now} {old} {given} {p} {r} {q} {one} {answer} same tries =
    subst (λ (x : Registers). StepsHere was now old given x q one answer) same tries

-- a run, which stands at these acts, and the links of which a call has as a slice
module _ {setup : Setup} {bus : BusValue} {drivers : List LoggedDriver} {ports : List Registers}
    {slice links : List Deques} {bits : ℕ} {self : SerialValue} (same : slice ≡ links)
    (view : run_now bus drivers ports links bits ≡ self) {acts : List (List TypedAct)} (h : StandsAt setup self acts)
    {i : ℕ} (there : i < setup.nodes) where
  abbrev run : SerialValue
  run = run_now bus drivers ports slice bits

  stood : StandsAt setup run acts
  stood = stands_there same view setup acts h

  -- its links are there
  pub own_links : (x : Deques) → slice_index_or slice i x ≡ slice_index_or slice i (slice_index_or slice i x)
  own_links x = get_or_default slice i x (slice_index_or slice i x)
      (let c = stood.ends.count in omega (arith, c, there))

  -- its driver, its port, and its links
  module _ {was : LoggedDriver} {p : Registers} {old : Deques} (was_is : was ≡ slice_index_or drivers i was)
      (p_is : p ≡ slice_index_or ports i p) (old_is : old ≡ slice_index_or slice i old) where
    pub node_at : IsNode setup.version (slice_index_or setup.steps i 0) (journal_at bus.journals i) (acts_at acts i)
        was p old
    node_at = node_there stood there was_is p_is old_is

    -- the next step may be tried, where there is room for it
    pub may_step : length (acts_at acts i) < slice_index_or setup.steps i 0 →
        MayStep (λ (s : Deques). s.node) p.version was old
    may_step few = let n = node_at in record {
      lawful = n.traced.lawful;
      room = subst (λ (v : ℕ). HasRoom v 1 (log_of was)) (sym n.ported.version_is)
          (n.traced.room 1 (omega (arith, few)));
      own = same_node stood there was_is old_is;
    }

    -- once a step was tried the links are what they were, in another state
    given_alike : {now : LoggedDriver} {given : Deques} {answer : Option StepAnswer} →
        StaysLawful AreAlike Lies was now old given answer → EachRelated AreAlike slice (slice_set slice i given)
    given_alike {given = given} stays = each_one AreAlike alike_refl slice i old given
        (let c = stood.ends.count in omega (arith, c, there))
        (subst (λ (s : Deques). AreAlike s given) old_is stays.same)

    -- the ends are those of the nodes' links still
    pub ends_given : {now : LoggedDriver} {given : Deques} {answer : Option StepAnswer} →
        StaysLawful AreAlike Lies was now old given answer →
        AreEnds (λ (s : Deques). s.node) (length bus.journals) (slice_set slice i given)
    ends_given {given = given} stays =
        subst (λ (n : ℕ). AreEnds (λ (s : Deques). s.node) n (slice_set slice i given))
        (sym stood.count.journals) (still_ends stood.ends (given_alike stays))

    -- each with as many as the bus knows
    pub links_given : {now : LoggedDriver} {given : Deques} {answer : Option StepAnswer} →
        StaysLawful AreAlike Lies was now old given answer →
        HaveLinks (λ (s : Deques). s.starts) bus.starts (slice_set slice i given)
    links_given {given = given} stays = links_are (slice_set slice i given) stood.links
        (still_ends stood.ends (given_alike stays)).count
        (still_starts (most_activations setup.version) slice (slice_set slice i given) stood.starts (given_alike stays))

    -- the next step was tried, and then all was taken
    module _ (laws : bus.fault ≡ None → IsBusRun bus.script bus.run bus.journals)
        (left : length (acts_at acts i) < slice_index_or setup.steps i 0) {now : LoggedDriver} {q : Registers}
        {given : Deques} {one : Step} {answer : Option StepAnswer}
        (steps : StepsHere was now old given p q one answer)
        (stays : StaysLawful AreAlike Lies was now old given answer) where
      -- no item was refused
      pub none_refused : (journals : List (List Entry)) (after : List Deques) (f : BusFault) →
          (bus.fault ≡ None → IsTakenAndRefused ends (bus.run + bus.left) bus.steps bus.journals journals
          (slice_set slice i given) after f) → ⊥
      none_refused journals after f refused =
          let l = laws stood.right in let c = stood.count.journals in
          gather_takes stood there node_at (l.lawful i (omega (arith, c, there))) (omega (arith, left))
          (place stood there l left) steps (refused stood.right)

      -- the run into which the links are put back
      module _ {node : ℕ} (node_is : i ≡ node) {back after : List Deques} (back_is : back ≡ after) where
        tried : (n : BusValue) → Tries run i was now p q one answer old given n after →
            IsTried setup self (run_now n (slice_set drivers i now) (slice_set ports i q) back bits) node one acts
            answer
        tried n t = subst (λ (m : ℕ). IsTried setup self (run_now n (slice_set drivers i now) (slice_set ports i q)
            back bits) m one acts answer) node_is
            (put_back same view (λ x y. IsTried setup x y i one acts answer) n (slice_set drivers i now)
            (slice_set ports i q)
            after back bits back_is (next_tried stood there (laws stood.right) left answer t))

        pub is_tried : (n : BusValue) → n.fault ≡ None → n.run ≡ bus.run → n.script ≡ bus.script →
            n.starts ≡ bus.starts → n.steps ≡ bus.steps → n.left ≡ bus.left → length n.journals ≡ length bus.journals →
            KeepsAll Lies bus.journals n.journals (slice_set slice i given) after →
            EachJournal MayHaveItems bus.journals n.journals →
            EachUntold bus.untold n.untold bus.journals n.journals →
            AllDry (λ (s : Deques) (a : ℕ). up_on s a ≡ []) n.journals after →
            EachRelated AreAlike (slice_set slice i given) after →
            IsTried setup self (run_now n (slice_set drivers i now) (slice_set ports i q) back bits) node one acts
            answer
        is_tried n right ran script starts room over count kept items untold dry sames = tried n (record {
          was_is = was_is;
          p_is = p_is;
          old_is = old_is;
          steps = steps;
          stays = stays;
          right = right;
          run = ran;
          script = script;
          starts = starts;
          room = room;
          left = over;
          journals = count;
          kept = kept;
          items = items;
          untold = untold;
          dry = dry;
          sames = sames;
        })

      -- the step gave nothing, and nothing was taken
      pub is_tried_quietly : {node : ℕ} → i ≡ node → {back : List Deques} → back ≡ slice_set slice i given →
          GaveNothing one answer →
          IsTried setup self (run_now bus (slice_set drivers i now) (slice_set ports i q) back bits) node one acts
          answer
      is_tried_quietly node_is back_is quiet =
          is_tried node_is back_is bus stood.right refl refl refl refl refl refl (λ node d acc less kept. kept)
          (λ node less. items_none (journal_at bus.journals node))
          (λ node less. as_untold (untold_at bus.untold node) (journal_at bus.journals node))
          (all_dry i stood node_at steps stays (quiet p steps.tried steps.met)) (each_refl AreAlike alike_refl
          (slice_set slice i given))
