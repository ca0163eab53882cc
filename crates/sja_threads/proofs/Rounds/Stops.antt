-- Why the bus of a run in threads stops.
use Rattle.std.proofs.Common.{◌≡◌, ◌≢◌, ℕ, ◌+◌, ◌<◌, List, length, refl, sym, ◌∙◌, subst, arith, inl, inr}
use Rattle.std.specs.Prelude.{◌⊎◌, None, Result, Ok, Err, IfErr}
use Rattle.sja_journal.specs.declared.entry.Entry.{Entry}
use Rattle.sja_link.specs.declared.bus_end.BusEnd.{Ghosts as Ends}
use Rattle.lemmas.specs.Related.{EachRelated}
use Rattle.sja_regs.specs.declared.orders.Orders.{Orders}
use Rattle.sja_rings.specs.declared.node_bus.NodeBus.{NodeBus}
use Rattle.sja_rings.specs.NodeRings.{SameNodeBus}
use Rattle.sja_plan.specs.Plan.{PlanValue}
use Rattle.sja_journal.specs.declared.bus_fault.BusFault.{BusFault}
use Rattle.sja_journal.specs.declared.bus_fault.BusFault.TheVariants.{BitsSpent, JournalFull}
use Rattle.sja_bus_rules.specs.Buses.{BusValue}
use Rattle.sja_bus_rules.specs.Lawful.{IsBusRun}
use Rattle.sja_bus_rules.specs.Reasons.{IsRefusedFor, IsBrokenFor, IsTakenAndRefused, StopsBit, room_for}
use Rattle.sja_bus_rules.specs.Reasons.StopsBit.{spent, not_taken, not_aborted, broken_off}
use Rattle.sja_bus_rules.specs.Wire.{journal_at}
use Rattle.sja_threads.specs.declared.bus_thread.BusThread.{BusThread}
use Rattle.sja_thread_promises.specs.Gathering.{AreBusEnds, StandFor}
use Rattle.sja_thread_promises.specs.Stopping.{any_orders, ring_ends, StopsOn}
use Rattle.sja_threads.specs.Inside.Rounds.{IsUnderWay, GoesOn, Stops}
use Rattle.sja_threads.proofs.Rounds.SameEnds.{ends_kept, sames_trans}

-- an item that wasn't taken is no want of bits
taken_not_spent : {E : Type 0} (e : Ends E) (bits : ℕ) (steps : List ℕ)
    (before now : List (List Entry)) (links after : List E) (f : BusFault) →
    IsTakenAndRefused e bits steps before now links after f → f ≢ BitsSpent
taken_not_spent e bits steps before now links after f n same =
    subst (λ (x : BusFault). IsRefusedFor n.node (room_for bits steps n.node) (journal_at now n.node) n.refuses.item x)
    same n.refuses.why

no_full : (node : ℕ) → BitsSpent ≡ JournalFull node → ⊥
no_full node e = cc

-- nor is a bit that broke off where bits are left
bit_not_spent : {E : Type 0} (e : Ends E) (orders_are : ℕ → Orders → Type 0) (before now : BusValue)
    (links after : List E) (f : BusFault) → before.left ≢ 0 → StopsBit e orders_are before now links after f →
    f ≢ BitsSpent
bit_not_spent e orders_are before now links after f some (spent is none) same = some none
bit_not_spent e orders_are before now links after f some (not_taken n) same =
    taken_not_spent e (before.run + before.left) before.steps before.journals now.journals links after f n same
bit_not_spent e orders_are before now links after f some (not_aborted n) same = no_full n.node (sym same ∙ n.is)
bit_not_spent e orders_are before now links after f some (broken_off n) same =
    subst (λ (x : BusFault). IsBrokenFor e n.node (room_for (before.run + before.left) before.steps n.node) n.opened
    (journal_at now.journals n.node) n.end x) same n.broken

-- why a bit doesn't come to its end, whatever the ports order
pub by_any_orders : {E : Type 0} {e : Ends E} (before now : BusValue) (links after : List E) (f : BusFault)
    (orders_are : ℕ → Orders → Type 0) → StopsBit e orders_are before now links after f →
    StopsBit e any_orders before now links after f
by_any_orders before now links after f orders_are (spent is none) = spent is none
by_any_orders before now links after f orders_are (not_taken n) = not_taken n
by_any_orders before now links after f orders_are (not_aborted n) = not_aborted (record {
  node = n.node;
  few = n.few;
  is = n.is;
  items = n.items;
  orders = n.orders;
  are_orders = tt;
  ordered = n.ordered;
  due = n.due;
  full = n.full;
  kept = n.kept;
  within = n.within;
})
by_any_orders before now links after f orders_are (broken_off n) = broken_off (record {
  node = n.node;
  few = n.few;
  opened = n.opened;
  between = n.between;
  sames = n.sames;
  opens = record {
    taken = n.opens.taken;
    items = n.opens.items;
    aborts = n.opens.aborts;
    orders = n.opens.orders;
    are_orders = tt;
    unasked = n.opens.unasked;
    applied = n.opens.applied;
  };
  kept = n.kept;
  end = n.end;
  is_end = n.is_end;
  within = n.within;
  on_link = n.on_link;
  broken = n.broken;
})

module _ (plan : PlanValue) (t next : BusThread) (now : BusValue) (links after : List NodeBus) (f : BusFault)
    (these : links ≡ t.links.items) (those : next.links.items ≡ after) (same : EachRelated SameNodeBus links after)
    (w : IsUnderWay plan t) (laws : IsBusRun t.bus.script t.bus.run t.bus.journals) where
  sames : EachRelated SameNodeBus t.links.items next.links.items
  sames =
      subst (λ (l : List NodeBus). EachRelated SameNodeBus l next.links.items) these
      (subst (λ (l : List NodeBus). EachRelated SameNodeBus links l) (sym those) same)

  stops_for : IsTakenAndRefused ring_ends plan.bits t.bus.steps t.bus.journals now.journals links after f
      ⊎ StopsBit ring_ends any_orders t.bus now links after f → f ≢ BitsSpent → Stops plan t next f
  stops_for why unspent = record {
    stop = subst (λ (l : List NodeBus). StopsOn t.bus.steps plan l f) (sym those) (record {
      was = t.bus;
      now = now;
      links = links;
      script = w.script;
      starts = w.links;
      steps = refl;
      bits = w.all_bits;
      nodes = w.journals;
      right = w.right;
      lawful = laws;
      stood =
          subst (λ (l : List NodeBus). StandFor plan t.bus.journals l) (sym these)
          (record { ends = w.ends; kept = w.kept });
      sames = same;
      why = why;
      not_spent = unspent;
      ends = subst (λ (l : List NodeBus). AreBusEnds (length plan.nodes) l) those
          (ends_kept (length plan.nodes) t.links.items next.links.items sames w.ends);
    });
    sames = sames;
  }

  -- an item wasn't taken
  pub stops_taking : IsTakenAndRefused ring_ends (t.bus.run + t.bus.left) t.bus.steps t.bus.journals now.journals
      links after f → Stops plan t next f
  stops_taking n = stops_for
      (inl (subst (λ (bits : ℕ). IsTakenAndRefused ring_ends bits t.bus.steps t.bus.journals now.journals links
      after f) w.all_bits n))
      (taken_not_spent ring_ends (t.bus.run + t.bus.left) t.bus.steps t.bus.journals now.journals links after f n)

  -- a bit didn't come to its end, where bits were left
  pub stops_bit : t.run < plan.bits → StopsBit ring_ends any_orders t.bus now links after f →
      Stops plan t next f
  stops_bit less b = stops_for (inr b)
      (bit_not_spent ring_ends any_orders t.bus now links after f
      (λ none. let all = w.all_bits in let run = w.run in omega (arith, all, none, run, less)) b)

-- an item that wasn't taken, by what the bus answers
pub stops_gather : (t next : BusThread) (now : BusValue) (links after : List NodeBus) → links ≡ t.links.items →
    next.links.items ≡ after → EachRelated SameNodeBus links after → {A : Type 0} (r : Result A BusFault) →
    (t.bus.fault ≡ None → IsBusRun t.bus.script t.bus.run t.bus.journals) →
    IfErr r (λ f. t.bus.fault ≡ None →
    IsTakenAndRefused ring_ends (t.bus.run + t.bus.left) t.bus.steps t.bus.journals now.journals links after f) →
    IfErr r (λ f. (plan : PlanValue) → IsUnderWay plan t → Stops plan t next f)
stops_gather t next now links after these those same (Ok a) laws why = tt
stops_gather t next now links after these those same (Err f) laws why = λ plan w.
    stops_taking plan t next now links after f these those same w (laws w.right) (why w.right)

-- it went on, and then stopped
pub stops_later : (plan : PlanValue) (a b c : BusThread) (f : BusFault) → GoesOn plan a b → Stops plan b c f →
    Stops plan a c f
stops_later plan a b c f on stops = record {
  stop = subst (λ (steps : List ℕ). StopsOn steps plan c.links.items f) on.steps stops.stop;
  sames = sames_trans a.links.items b.links.items c.links.items on.sames stops.sames;
}

pub stops_then : (plan : PlanValue) (a b c : BusThread) → GoesOn plan a b → {A : Type 0} (r : Result A BusFault) →
    IfErr r (Stops plan b c) → IfErr r (Stops plan a c)
stops_then plan a b c on (Ok x) stops = tt
stops_then plan a b c on (Err f) stops = stops_later plan a b c f on stops
