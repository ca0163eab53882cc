-- What the bus knows of the activation that it reads, with each thing that it does.
use Rattle.std.proofs.Common.{◌≡◌, ℕ, suc, ◌+◌, ◌<◌, false, List, [], ◌∷◌, ◌++◌}
use Rattle.std.proofs.Common.{refl, sym, ap, ◌∙◌, subst, append_assoc, arith}
use Rattle.can_frame.specs.declared.filter.Filter.{Filter}
use Rattle.can_node_rules.specs.declared.config.Config.{Config}
use Rattle.can_node_rules.specs.declared.request.Request.{Request}
use Rattle.can_node.specs.declared.node.Node.{Node}
use Rattle.can_node.specs.Stands.{InReset}
use Rattle.sja_journal.specs.declared.up.Up.TheVariants.{Start, Send, Stop}
use Rattle.sja_journal.specs.declared.entry.Entry.{Entry}
use Rattle.sja_journal.specs.declared.entry.Entry.TheVariants.{Up as Item, Abort, Off}
use Rattle.sja_journal.specs.Places.{JournalPlace, past, place_of}
use Rattle.sja_journal.specs.Records.{told, record_of}
use Rattle.sja_journal.specs.Parts.{part, entry_at}
use Rattle.sja_journal.specs.Carried.{taken_of}
use Rattle.lemmas.specs.Gathering.{total}
use Rattle.sja_link.specs.World.{is_stop}
use Rattle.sja_journal.specs.Free.{IsFree, credit_in, bytes_in}
use Rattle.sja_journal.specs.Verdicts.{filter_of}
use Rattle.sja_journal.proofs.JournalEntries.Entering.{place_push, record_push, part_here, of_part_later}
use Rattle.lemmas.proofs.Gathered.{total_push}
use Rattle.sja_journal.proofs.Ledger.Judging.{StaysIn, filter_push}
use Rattle.sja_bus.specs.declared.activity.Activity.{Activity}
use Rattle.sja_bus.specs.declared.activity.Activity.TheVariants.{Between, Running, Off as IsOff, OffAndAsked}
use Rattle.sja_journal.specs.Links.{stops_in}
use Rattle.sja_bus.specs.Inside.BusNodes.{Pays}
use Rattle.sja_journal.specs.OutOfOrder.{HasOff, HasAskedOff}
use Rattle.sja_bus.specs.Inside.Following.{open_in, is_on, IsActive, Reads}
use Rattle.sja_link.specs.Orderly.{IsRunning, IsOrderly}
use Rattle.sja_link.proofs.Growing.Ordered.{orderly_here, acts_in, quiet_orderly, stopless_with, runs_now, no_off_put}
use Rattle.sja_bus.proofs.Journal.OnBus.{on_both}
use Rattle.sja_journal.proofs.Growing.AskingOff.{off_before, off_of_asked, none_off}
use Rattle.sja_bus.proofs.Journal.Parted.{stopped_same, free_on, marks_in, no_stop, no_mark, stays_of}
use Rattle.sja_bus.proofs.Journal.Parted.{off_same, begun_same, on_same, off_less, asked_less, active_same}

-- nothing was taken
pub reads_new : (node : Node) → InReset node → Reads node [] 0 Between 64
reads_new node reset =
    record { begun = refl; stopped = refl; free_is = refl; stopless = refl; orderly = λ a. tt; active = reset }

-- an entry that begins and ends no activation, by which nothing is taken and nothing put
abbrev pub IsQuiet : Entry → Type 0
IsQuiet e = ((p : JournalPlace) → past p e ≡ record p { bits = (past p e).bits }) × (bytes_in e ≡ 0)
    × (credit_in e ≡ 0) × (acts_in e ≡ 0)

-- an entry with which nothing changes but the node: an abort, and a bit
pub reads_quiet : (old new : Node) (j : List Entry) (e : Entry) (ended : ℕ) (activity : Activity) (free : ℕ) →
    IsQuiet e → (InReset old → InReset new) →
    Reads old j ended activity free → Reads new (j ++ e ∷ []) ended activity free
reads_quiet old new j e ended activity free quiet reset h =
    let unmarked = no_mark e quiet.3 in record {
      begun = begun_same j e (stays_of e quiet.0) ∙ h.begun;
      stopped = stopped_same j e ended (no_stop e unmarked) h.stopped;
      free_is = free_on j e (suc ended) free free (omega (arith, quiet.1, quiet.2)) (quiet.1, quiet.2) h.free_is;
      stopless = stopless_with j e (suc ended) (no_stop e unmarked) h.stopless;
      orderly = orderly_here j e (past (place_of j) e).activation h.orderly refl
          (quiet_orderly (part j (past (place_of j) e).activation) e quiet.3);
      active = active_same activity old new j e (suc ended) quiet.0 unmarked reset h.active;
    }

-- ---- what the bus takes

pub reads_start : (old new : Node) (j : List Entry) (config : Config) (ended free left : ℕ) →
    Pays free left (Item (Start config)) → Reads old j ended Between free →
    Reads new (j ++ Item (Start config) ∷ []) ended (Running config.filter) left
reads_start old new j config ended free left pays h =
    let e : Entry = Item (Start config) in
    let few : (place_of j).activation < suc ended = let b = h.begun in omega (arith, b) in
    let at : (past (place_of j) e).activation ≡ suc ended = let b = h.begun in omega (arith, b) in
    let none : part j (suc ended) ≡ [] = of_part_later entry_at j (suc ended) few in
    let one : part (j ++ e ∷ []) (suc ended) ≡ part j (suc ended) ++ e ∷ [] = part_here j e (suc ended) at in
    let place = place_push j e in record {
      begun = ap (λ (p : JournalPlace). p.activation) place ∙ at ∙ omega arith;
      stopped = stopped_same j e ended refl h.stopped;
      free_is = subst (λ (p : List Entry). IsFree p left) (sym one) (pays (part j (suc ended)) h.free_is);
      stopless = stopless_with j e (suc ended) refl h.stopless;
      orderly = orderly_here j e (suc ended) h.orderly at (ap taken_of none);
      active = (
        ap (λ (p : JournalPlace). p.off) place,
        ap filter_of one ∙ ap (λ l. filter_of (l ++ e ∷ [])) none,
        ap (is_on false) (record_push j e) ∙ on_both false (record_of j) (told (place_of j).off e),
        λ off. none_off
            (off_before [] e (λ is. cc) (subst (λ (l : List Entry). HasOff l) (one ∙ ap (λ l. l ++ e ∷ []) none) off)),
      );
    }

-- the entry stands in the activation that is read
pub here_in : (activity : Activity) (node : Node) (j : List Entry) (ended free : ℕ) (e : Entry) → StaysIn e →
    open_in activity ≡ 1 → Reads node j ended activity free →
    (past (place_of j) e).activation ≡ suc ended
here_in activity node j ended free e stays runs h =
    let b = h.begun in let s = stays (place_of j) in omega (arith, b, s, runs)

-- it runs
pub reads_running : (activity : Activity) (node : Node) (j : List Entry) (ended free : ℕ) → open_in activity ≡ 1 →
    Reads node j ended activity free → IsRunning (part j (suc ended))
reads_running activity node j ended free runs h =
    let b = h.begun in runs_now j (suc ended) (omega arith) (omega (arith, b, runs)) h.stopless

-- an entry of the activation that is read, and what the bus knows of it then
reads_with : (old new : Node) (j : List Entry) (e : Entry) (ended : ℕ) (was now : Activity) (free left : ℕ) →
    ((p : JournalPlace) → past p e ≡ record p { bits = (past p e).bits }) →
    stops_in e ≡ 0 → open_in was ≡ 1 → open_in now ≡ 1 → Pays free left e → IsOrderly (part j (suc ended)) e →
    IsActive now new (j ++ e ∷ []) (suc ended) → Reads old j ended was free → Reads new (j ++ e ∷ []) ended now left
reads_with old new j e ended was now free left stays none runs still pays due active h =
    let at = here_in was old j ended free e (stays_of e stays) runs h in record {
      begun = begun_same j e (stays_of e stays) ∙ h.begun ∙ ap (λ n. ended + n) (runs ∙ sym still);
      stopped = stopped_same j e ended none h.stopped;
      free_is = subst (λ (p : List Entry). IsFree p left) (sym (part_here j e (suc ended) at))
          (pays (part j (suc ended)) h.free_is);
      stopless = stopless_with j e (suc ended) none h.stopless;
      orderly = orderly_here j e (suc ended) h.orderly at due;
      active = active;
    }

-- a credit, and a verdict
pub reads_here : (old new : Node) (j : List Entry) (e : Entry) (ended : ℕ) (activity : Activity) (free left : ℕ) →
    ((p : JournalPlace) → past p e ≡ record p { bits = (past p e).bits }) →
    marks_in e ≡ 0 → open_in activity ≡ 1 → (InReset old → InReset new) → Pays free left e →
    IsOrderly (part j (suc ended)) e → Reads old j ended activity free → Reads new (j ++ e ∷ []) ended activity left
reads_here old new j e ended activity free left stays none runs reset pays due h =
    reads_with old new j e ended activity activity free left stays (no_stop e none) runs runs pays due
    (active_same activity old new j e (suc ended) stays none reset h.active) h

-- a request that the node took
pub reads_ask : (old new : Node) (j : List Entry) (request : Request) (ended : ℕ) (filter : Filter) (free left : ℕ) →
    Pays free left (Item (Send request)) →
    Reads old j ended (Running filter) free → Reads new (j ++ Item (Send request) ∷ []) ended (Running filter) left
reads_ask old new j request ended filter free left pays h =
    let e : Entry = Item (Send request) in
    reads_with old new j e ended (Running filter) (Running filter) free left (λ p. refl) refl refl refl pays
    (reads_running (Running filter) old j ended free refl h) (
      off_same j e (λ p. refl) ∙ h.active.0,
      filter_push j e (suc ended) (λ p. refl) ∙ h.active.1,
      on_same j e (λ p. refl) refl ∙ h.active.2,
      λ off. h.active.3 (off_less j e (suc ended) (λ p. refl) off),
    ) h

-- a request that is dropped is counted
pub reads_drop : (node : Node) (j : List Entry) (request : Request) (ended free left : ℕ) →
    Pays free left (Item (Send request)) → Reads node j ended IsOff free →
    Reads node (j ++ Item (Send request) ∷ []) ended OffAndAsked left
reads_drop node j request ended free left pays h =
    let e : Entry = Item (Send request) in
    let was = h.active.2 in
    let at = here_in IsOff node j ended free e (λ p. refl) refl h in
    let asked : HasAskedOff (part (j ++ e ∷ []) (suc ended)) = record {
      before = was.before;
      between = was.after;
      request = request;
      after = [];
      whole = part_here j e (suc ended) at ∙ ap (λ l. l ++ e ∷ []) was.whole
          ∙ append_assoc was.before (Off ∷ was.after) (e ∷ []);
    } in
    reads_with node node j e ended IsOff OffAndAsked free left (λ p. refl) refl refl refl pays
    (reads_running IsOff node j ended free refl h) (off_same j e (λ p. refl) ∙ h.active.0, h.active.1, asked) h

pub reads_stop : (old new : Node) (j : List Entry) (ended : ℕ) (activity : Activity) (free : ℕ) → open_in activity ≡ 1 →
    InReset new → Reads old j ended activity free →
    Reads new (j ++ Item Stop ∷ []) (suc ended) Between 64
reads_stop old new j ended activity free runs reset h =
    let e : Entry = Item Stop in
    let same = begun_same j e (λ p. refl) in
    let begun : (place_of (j ++ e ∷ [])).activation ≡ suc ended = let b = h.begun in omega (arith, b, same, runs) in
    let none : part (j ++ e ∷ []) (suc (suc ended)) ≡ [] =
    of_part_later entry_at (j ++ e ∷ []) (suc (suc ended)) (omega (arith, begun)) in record {
      begun = begun ∙ omega arith;
      stopped = let t = total_push stops_in j e in let was = h.stopped in omega (arith, t, was);
      free_is = subst (λ (p : List Entry). IsFree p 64) (sym none) refl;
      stopless = ap (λ (p : List Entry). total is_stop (taken_of p)) none;
      orderly = orderly_here j e (suc ended) h.orderly (here_in activity old j ended free e (λ p. refl) runs h)
          (reads_running activity old j ended free runs h);
      active = reset;
    }

-- ---- bus-off

pub reads_off : (node : Node) (j : List Entry) (ended : ℕ) (filter : Filter) (free : ℕ) → InReset node →
    Reads node j ended (Running filter) free →
    Reads node (j ++ Off ∷ []) ended IsOff free
reads_off node j ended filter free reset h =
    let b = h.begun in let at : (past (place_of j) Off).activation ≡ suc ended = omega (arith, b) in record {
      begun = begun_same j Off (λ p. refl) ∙ h.begun;
      stopped = stopped_same j Off ended refl h.stopped;
      free_is = free_on j Off (suc ended) free free (omega arith) (refl, refl) h.free_is;
      stopless = stopless_with j Off (suc ended) refl h.stopless;
      orderly = orderly_here j Off (suc ended) h.orderly at
          (reads_running (Running filter) node j ended free refl h, no_off_put (part j (suc ended)) h.active.3);
      active = (
        ap (λ (p : JournalPlace). p.off) (place_push j Off),
        reset,
        record { before = part j (suc ended); after = []; whole = part_here j Off (suc ended) at },
        λ asked. h.active.3 (off_of_asked (part j (suc ended)) (asked_less j Off (suc ended) refl asked)),
      );
    }

-- while one runs what the bus knows of it doesn't hang on the node
pub reads_swap : (old new : Node) (j : List Entry) (ended : ℕ) (filter : Filter) (free : ℕ) →
    Reads old j ended (Running filter) free → Reads new j ended (Running filter) free
reads_swap old new j ended filter free h = record {
  begun = h.begun;
  stopped = h.stopped;
  free_is = h.free_is;
  stopless = h.stopless;
  orderly = h.orderly;
  active = h.active;
}

-- an abort that changed the node, while one runs
pub reads_abort : (old new : Node) (j : List Entry) (ended : ℕ) (activity : Activity) (filter : Filter) (free : ℕ) →
    activity ≡ Running filter → Reads old j ended activity free → Reads new (j ++ Abort ∷ []) ended activity free
reads_abort old new j ended activity filter free runs h =
    let P : Activity → Type 0 = λ a. Reads old j ended a free in
    let Q : Activity → Type 0 = λ a. Reads new (j ++ Abort ∷ []) ended a free in
    subst Q (sym runs) (reads_quiet new new j Abort ended (Running filter) free (λ p. refl, refl, refl, refl) (λ r. r)
    (reads_swap old new j ended filter free (subst P runs h)))

-- the activation that runs is the one that is read
pub runs_at : (activity : Activity) (node : Node) (j : List Entry) (ended free : ℕ) → open_in activity ≡ 1 →
    Reads node j ended activity free → (place_of j).activation ≡ suc ended
runs_at activity node j ended free runs h = let b = h.begun in omega (arith, b, runs)
