-- A run after a step of one node's driver and a taking.
use Rattle.sja_steps.specs.declared.step_answer.StepAnswer.{StepAnswer}
use Rattle.std.proofs.Common.{◌≡◌, ℕ, ◌<◌, true, false, List, [], ◌∷◌}
use Rattle.std.proofs.Common.{◌++◌, length, refl, sym, ap, ◌∙◌, subst, append-nil, arith, inl, inr}
use Rattle.std.specs.Prelude.{Bool, None, slice_index_or, slice_set, Option}
use Rattle.std.proofs.lemmas.Bool.{cases_eq}
use Rattle.std.proofs.lemmas.List.{get_or_default, get_or-set_same, get_or-set_other, length-set}
use Rattle.sja_journal.specs.declared.entry.Entry.{Entry}
use Rattle.sja_journal.specs.declared.up.Up.{Up}
use Rattle.sja_link.specs.Deques.{Deques, Lies, AreAlike, up_on}
use Rattle.sja_bus_rules.specs.Buses.{BusValue, KeepsAll, EachJournal, AllDry, EachUntold, untold_at}
use Rattle.sja_journal.specs.BitEntries.{MayHaveItems, entries_of_items}
use Rattle.sja_journal.specs.Links.{Kept}
use Rattle.sja_journal.specs.Sizes.{most_activations}
use Rattle.sja_bus_rules.specs.Telling.{IsUntold}
use Rattle.sja_bus_rules.specs.Wire.{journal_at}
use Rattle.lemmas.specs.Related.{EachRelated}
use Rattle.sja_regs.specs.declared.registers.Registers.{Registers}
use Rattle.sja_steps.specs.declared.step.Step.{Step}
use Rattle.sja_driver.specs.declared.logged_driver.LoggedDriver.{LoggedDriver}
use Rattle.sja_driver.specs.TypedActs.{TypedAct, acts_at, with_acts}
use Rattle.sja_driver.specs.LoggedDrivers.{node_of, StaysLawful}
use Rattle.sja_promises.specs.Nodes.{IsNode}
use Rattle.sja_serial.specs.Serial.{Setup, SerialValue, StandsAt}
use Rattle.sja_serial.specs.Inside.SerialProgress.{run_now}
use Rattle.sja_driver.specs.Shown.{ShowsRecord}
use Rattle.sja_driver.proofs.OneNode.Slices.{each_set}
use Rattle.sja_promises.proofs.OneNode.Gathered.{Gathers}
use Rattle.sja_promises.proofs.OneNode.Trying.{StepsHere}
use Rattle.sja_promises.proofs.OneNode.Turned.{none_entered, same_journal, idle}
use Rattle.sja_serial.proofs.OneNode.Alike.{alike_after, still_ends, still_starts}

-- nothing is untold after a taking: so nothing was before it, and no item was taken
pub none_untold : {before now : Bool} {j k : List Entry} → MayHaveItems j k → IsUntold before now j k → now ≡ false →
    (before ≡ false) × (k ≡ j)
none_untold {before} {now} {j} {k} items untold told = (over before refl, by items.items items.whole)
  where
    over : (b : Bool) → b ≡ before → before ≡ false
    over true e = let no = sym (untold.stays (sym e)) ∙ told in absurd cc
    over false e = sym e

    longer : (u : Up) (l : List Up) → k ≡ j ++ entries_of_items (u ∷ l) → k ≡ j → ⊥
    longer u l e same = let none = none_entered j k (u ∷ l) e same in cc

    by : (l : List Up) → k ≡ j ++ entries_of_items l → k ≡ j
    by [] e = e ∙ append-nil j
    by (u ∷ l) e = let no = sym (untold.takes (longer u l e)) ∙ told in absurd cc

-- a run with another driver, another port, bus and links
abbrev pub run_tried : SerialValue → ℕ → LoggedDriver → Registers → BusValue → List Deques → SerialValue
run_tried r node now q bus after =
    run_now bus (slice_set r.drivers node now) (slice_set r.ports node q) after r.bits

-- a step of a node was tried at its driver, port and links, which it left as given; and then all was taken, which left
-- this bus and the links after
pub record Tries (r : SerialValue) (node : ℕ) (was now : LoggedDriver) (p q : Registers) (one : Step)
    (answer : Option StepAnswer) (old given : Deques) (bus : BusValue) (after : List Deques) : Type 0 where
  pub was_is : was ≡ slice_index_or r.drivers node was
  pub p_is : p ≡ slice_index_or r.ports node p
  pub old_is : old ≡ slice_index_or r.links node old
  pub steps : StepsHere was now old given p q one answer
  pub stays : StaysLawful AreAlike Lies was now old given answer
  pub right : bus.fault ≡ None
  pub run : bus.run ≡ r.bus.run
  pub script : bus.script ≡ r.bus.script
  pub starts : bus.starts ≡ r.bus.starts
  pub room : bus.steps ≡ r.bus.steps
  pub left : bus.left ≡ r.bus.left
  pub journals : length bus.journals ≡ length r.bus.journals
  pub kept : KeepsAll Lies r.bus.journals bus.journals (slice_set r.links node given) after
  pub items : EachJournal MayHaveItems r.bus.journals bus.journals
  pub untold : EachUntold r.bus.untold bus.untold r.bus.journals bus.journals
  pub dry : AllDry (λ (s : Deques) (a : ℕ). up_on s a ≡ []) bus.journals after
  pub sames : EachRelated AreAlike (slice_set r.links node given) after

-- the node whose driver, port and links these are
pub node_there : {setup : Setup} {r : SerialValue} {acts : List (List TypedAct)} {node : ℕ} {was : LoggedDriver}
    {p : Registers} {old : Deques} → StandsAt setup r acts → node < setup.nodes →
    was ≡ slice_index_or r.drivers node was → p ≡ slice_index_or r.ports node p →
    old ≡ slice_index_or r.links node old →
    IsNode setup.version (slice_index_or setup.steps node 0) (journal_at r.bus.journals node) (acts_at acts node)
    was p old
node_there {setup} {r} {acts} {node} {was} {p} {old} h there was_is p_is old_is =
    let N : LoggedDriver → Registers → Deques → Type 0 = λ d x l. IsNode setup.version
    (slice_index_or setup.steps node 0) (journal_at r.bus.journals node) (acts_at acts node) d x l in
    subst (λ d. N d p old) (sym was_is)
    (subst (λ x. N (slice_index_or r.drivers node was) x old) (sym p_is)
    (subst (λ l. N (slice_index_or r.drivers node was) (slice_index_or r.ports node p) l) (sym old_is)
    (h.nodes node was p old there)))

-- the links are those of the driver's node
pub same_node : {setup : Setup} {r : SerialValue} {acts : List (List TypedAct)} {node : ℕ} {was : LoggedDriver}
    {old : Deques} → StandsAt setup r acts → node < setup.nodes → was ≡ slice_index_or r.drivers node was →
    old ≡ slice_index_or r.links node old → old.node ≡ node_of was
same_node {node = node} {was} {old} h there was_is old_is =
    ap (λ (s : Deques). s.node) old_is ∙ h.ends.own node old there ∙ sym (h.own node was there)
    ∙ sym (ap node_of was_is)

-- each driver is its node's still
pub owners : {setup : Setup} {r : SerialValue} {acts : List (List TypedAct)} {node : ℕ} {was : LoggedDriver}
    (now : LoggedDriver) → StandsAt setup r acts → node < setup.nodes → was ≡ slice_index_or r.drivers node was →
    node_of now ≡ node_of was → (m : ℕ) (d : LoggedDriver) → m < setup.nodes →
    node_of (slice_index_or (slice_set r.drivers node now) m d) ≡ m
owners {r = r} {node = node} {was} now h there was_is same m d less = elim (cases_eq node m) [
  | inl e ↦ subst (λ (x : ℕ). node_of (slice_index_or (slice_set r.drivers node now) x d) ≡ x) e
      (ap node_of (get_or-set_same r.drivers node now d (let c = h.count.drivers in omega (arith, c, there))) ∙ same
      ∙ ap node_of was_is ∙ h.own node was there)
  | inr differ ↦ ap node_of (get_or-set_other r.drivers node m now d (λ e. differ (sym e))) ∙ h.own m d less
]

module _ {setup : Setup} {r : SerialValue} {acts : List (List TypedAct)} {node : ℕ} {was now : LoggedDriver}
    {p q : Registers} {one : Step} {answer : Option StepAnswer} {old given : Deques} {bus : BusValue}
    {after : List Deques} (h : StandsAt setup r acts) (there : node < setup.nodes)
    (t : Tries r node was now p q one answer old given bus after) where
  abbrev n : SerialValue
  n = run_tried r node now q bus after

  inside : (m : ℕ) → m < setup.nodes → m < length r.bus.journals
  inside m less = let c = h.count.journals in omega (arith, c, less)

  few_links : node < length r.links
  few_links = let c = h.ends.count in omega (arith, c, there)

  -- the taking, as another node has it, and as this one
  pub gathers_else : (m : ℕ) (l : Deques) → (m ≡ node → ⊥) → m < setup.nodes →
      Gathers (journal_at r.bus.journals m) (journal_at bus.journals m) (slice_index_or r.links m l)
      (slice_index_or after m l)
  gathers_else m l differ less = let i = inside m less in let long = t.journals in
      let same = get_or-set_other r.links node m given l differ in record {
        items = t.items m i;
        kept = λ acc. subst (λ (s : Deques). Kept Lies (journal_at r.bus.journals m) s acc →
            Kept Lies (journal_at bus.journals m) (slice_index_or after m l) acc) same (t.kept m l acc i);
        dry = t.dry m l (omega (arith, i, long));
      }

  pub gathers : Gathers (journal_at r.bus.journals node) (journal_at bus.journals node) given
      (slice_index_or after node old)
  gathers = let i = inside node there in let long = t.journals in
      let same = get_or-set_same r.links node given old few_links in record {
        items = t.items node i;
        kept = λ acc. subst (λ (s : Deques). Kept Lies (journal_at r.bus.journals node) s acc →
            Kept Lies (journal_at bus.journals node) (slice_index_or after node old) acc) same (t.kept node old acc i);
        dry = t.dry node old (omega (arith, i, long));
      }

  -- the links are what they were, in another state
  sames : EachRelated AreAlike r.links after
  sames = alike_after r.links after old given few_links
      (subst (λ (s : Deques). AreAlike s given) t.old_is t.stays.same) t.sames

  -- those of the node are the same ones, whatever is said of a place that isn't there
  after_at : (l : Deques) → slice_index_or after node old ≡ slice_index_or after node l
  after_at l = get_or_default after node old l (let c = (still_ends h.ends sames).count in omega (arith, c, there))

  -- another node, whose links and driver are as they were, has the same journal, and keeps all else
  pub other_node : (m : ℕ) (d : LoggedDriver) (x : Registers) (l : Deques) → (m ≡ node → ⊥) → m < setup.nodes →
      (journal_at bus.journals m ≡ journal_at r.bus.journals m)
      × IsNode setup.version (slice_index_or setup.steps m 0) (journal_at bus.journals m) (acts_at acts m)
      (slice_index_or r.drivers m d) (slice_index_or r.ports m x) (slice_index_or after m l)
  other_node m d x l differ less =
      let w = h.nodes m d x l less in let v = slice_index_or r.drivers m d in let g = gathers_else m l differ less in (
        same_journal v w w.traced.lawful g w.traced.traces w.linked.holds (λ any k e. e) refl refl refl,
        idle v w w.traced.lawful g w.traced.traces w.linked.holds (λ any k e. e) refl refl refl,
      )

  -- the run stands at the acts that are had more
  pub stands_after : (more : List TypedAct) → IsNode setup.version (slice_index_or setup.steps node 0)
      (journal_at bus.journals node) (acts_at acts node ++ more) now q (slice_index_or after node old) →
      (journal_at bus.journals node ≡ journal_at r.bus.journals node →
      ShowsRecord (journal_at r.bus.journals node) p → ShowsRecord (journal_at bus.journals node) q) →
      StandsAt setup n (with_acts acts node more)
  stands_after more node_after shows = record {
    right = t.right;
    script = t.script ∙ h.script;
    all_bits = let a = h.all_bits in let run = t.run in let left = t.left in omega (arith, a, run, left);
    bits = h.bits ∙ sym t.run;
    count = record {
      journals = t.journals ∙ h.count.journals;
      drivers = length-set r.drivers node now ∙ h.count.drivers;
      ports = length-set r.ports node q ∙ h.count.ports;
    };
    may = h.may;
    steps = t.room ∙ h.steps;
    acts_count = length-set acts node (acts_at acts node ++ more) ∙ h.acts_count;
    links = t.starts ∙ h.links;
    ends = still_ends h.ends sames;
    starts = still_starts (most_activations setup.version) r.links after h.starts sames;
    own = owners now h there t.was_is t.stays.node;
    nodes = each;
    shown = shown_at;
  }
    where
      few : node < length r.drivers
      few = let c = h.count.drivers in omega (arith, c, there)

      few_ports : node < length r.ports
      few_ports = let c = h.count.ports in omega (arith, c, there)

      -- a port of which nothing is untold shows what it has shown
      none_at : (m : ℕ) → m < setup.nodes → untold_at bus.untold m ≡ false →
          (untold_at r.bus.untold m ≡ false) × (journal_at bus.journals m ≡ journal_at r.bus.journals m)
      none_at m less = none_untold (t.items m (inside m less)) (t.untold m (inside m less))

      here : untold_at bus.untold node ≡ false → ShowsRecord (journal_at bus.journals node) q
      here told = let none = none_at node there told in
          shows none.1 (subst (ShowsRecord (journal_at r.bus.journals node)) (sym t.p_is) (h.shown node p there none.0))

      shown_at : (m : ℕ) (x : Registers) → m < setup.nodes → untold_at bus.untold m ≡ false →
          ShowsRecord (journal_at bus.journals m) (slice_index_or (slice_set r.ports node q) m x)
      shown_at m x less told = elim (cases_eq node m) [
        | inl e ↦
            let P : ℕ → Type 0 = λ k. untold_at bus.untold k ≡ false →
            ShowsRecord (journal_at bus.journals k) (slice_index_or (slice_set r.ports node q) k x) in
            subst P e (λ none. subst (ShowsRecord (journal_at bus.journals node))
            (sym (get_or-set_same r.ports node q x few_ports)) (here none)) told
        | inr differ ↦
            let none = none_at m less told in
            subst (ShowsRecord (journal_at bus.journals m))
            (sym (get_or-set_other r.ports node m q x (λ e. differ (sym e))))
            (subst (λ (l : List Entry). ShowsRecord l (slice_index_or r.ports m x)) (sym none.1)
            (h.shown m x less none.0))
      ]

      each : (m : ℕ) (d : LoggedDriver) (x : Registers) (l : Deques) → m < setup.nodes →
          IsNode setup.version (slice_index_or setup.steps m 0) (journal_at bus.journals m)
          (acts_at (with_acts acts node more) m) (slice_index_or (slice_set r.drivers node now) m d)
          (slice_index_or (slice_set r.ports node q) m x) (slice_index_or after m l)
      each m d x l less =
          let P : ℕ → List TypedAct → LoggedDriver → Registers → Type 0 = λ k ds w g. k < setup.nodes →
          IsNode setup.version (slice_index_or setup.steps k 0) (journal_at bus.journals k) ds w g
          (slice_index_or after k l) in
          let c = h.acts_count in
          each_set P acts r.drivers r.ports node (acts_at acts node ++ more) [] now d q x
          (omega (arith, c, there)) few few_ports (λ less. subst (λ s.
          IsNode setup.version (slice_index_or setup.steps node 0) (journal_at bus.journals node)
          (acts_at acts node ++ more) now q s) (after_at l) node_after)
          (λ k differ near. (other_node k d x l differ near).1) m less
