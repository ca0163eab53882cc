-- The bus of a run in threads goes on from one round to the next.
use Rattle.std.proofs.Common.{◌≡◌, ℕ, ◌+◌, ◌<◌, ◌≤◌, ◌⊎◌, Bool, false, true, List, length, refl, sym, ap, ◌∙◌}
use Rattle.std.proofs.Common.{subst, arith, inl, inr}
use Rattle.std.specs.Prelude.{None, Result, Ok, Err, OnOk}
use Rattle.sja_journal.specs.declared.entry.Entry.{Entry}
use Rattle.sja_journal.specs.Records.{record_of}
use Rattle.lemmas.specs.Related.{EachRelated}
use Rattle.sja_rings.specs.declared.node_bus.NodeBus.{NodeBus}
use Rattle.sja_rings.specs.NodeRings.{NodeBusLists, SameNodeBus, ShowsNothingUp}
use Rattle.sja_plan.specs.Plan.{PlanValue}
use Rattle.sja_regs.specs.declared.bus_turn.BusTurn.{BusTurn}
use Rattle.sja_regs.specs.declared.orders.Orders.{Orders}
use Rattle.sja_bus_rules.specs.Buses.{AllDry, EachJournal, KeepsAll, IsBit}
use Rattle.sja_bus.specs.BusRest.{RestsAs}
use Rattle.sja_journal.specs.declared.bus_fault.BusFault.{BusFault}
use Rattle.sja_bus_rules.specs.Lawful.{IsBusRun}
use Rattle.sja_journal.specs.BitEntries.{MayHaveItems}
use Rattle.sja_bus_rules.specs.Wire.{journal_at}
use Rattle.sja_threads.specs.declared.bus_thread.BusThread.{BusThread}
use Rattle.sja_thread_promises.specs.Gathering.{StandFor}
use Rattle.sja_thread_promises.specs.Needed.{IsBitDue, AllDue, AllAtRest, last_awaited}
use Rattle.sja_threads.specs.Inside.Rounds.{TakesNoneBefore, IsUnderWay, GoesOn}
use Rattle.sja_threads.proofs.Rounds.SameEnds.{ends_kept, sames_refl, sames_trans}
use Rattle.sja_threads.proofs.Rounds.StaysDue.{AllGrow, IsWanted, due_stays, due_kept, due_more, due_now}
use Rattle.sja_threads.proofs.Rounds.TakesNoneBefore.{none_by_items, items_grow, none_by_bit, bit_grows}

-- its ends stand for its journals
stands_for : (plan : PlanValue) (t : BusThread) → IsUnderWay plan t → StandFor plan t.bus.journals t.links.items
stands_for plan t w = record { ends = w.ends; kept = w.kept }

-- with its links lent for a call
module _ (was now : BusThread) (lent after : List NodeBus) (these : lent ≡ was.links.items)
    (those : now.links.items ≡ after) (script : now.bus.script ≡ was.bus.script)
    (starts : now.bus.starts ≡ was.bus.starts) (room : now.bus.steps ≡ was.bus.steps)
    (nodes : length now.bus.journals ≡ length was.bus.journals)
    (lent_sames : EachRelated SameNodeBus lent after) where
  sames : EachRelated SameNodeBus was.links.items now.links.items
  sames =
      subst (λ (l : List NodeBus). EachRelated SameNodeBus l now.links.items) these
      (subst (λ (l : List NodeBus). EachRelated SameNodeBus lent l) (sym those) lent_sames)

  module _ (plan : PlanValue) (w : IsUnderWay plan was) (right : now.bus.fault ≡ None)
      (lent_kept : KeepsAll NodeBusLists was.bus.journals now.bus.journals lent after) where
    few : (node : ℕ) → node < length plan.nodes → node < length was.bus.journals
    few node less = let e = w.journals in omega (arith, e, less)

    kept : KeepsAll NodeBusLists was.bus.journals now.bus.journals was.links.items now.links.items
    kept =
        subst (λ (l : List NodeBus). KeepsAll NodeBusLists was.bus.journals now.bus.journals l now.links.items) these
        (subst (λ (l : List NodeBus). KeepsAll NodeBusLists was.bus.journals now.bus.journals lent l) (sym those)
        lent_kept)

    -- the bus is under way still, where its bits are counted, items were taken in such activations, and bits were due
    goes_on : now.bus.run + now.bus.left ≡ plan.bits →
        ((node : ℕ) → node < length plan.nodes → TakesNoneBefore (journal_at now.bus.journals node)) →
        AllDue plan w.first now.bus.run now.bus.journals → now.bus.run ≡ now.run →
        (now.spent ≡ true → (now.run ≡ plan.bits)
        × IsBitDue plan w.first plan.bits now.bus.journals) → GoesOn plan was now
    goes_on all none due run spent = record {
      way = record {
        right = right;
        script = script ∙ w.script;
        all_bits = all;
        journals = nodes ∙ w.journals;
        ends = ends_kept (length plan.nodes) was.links.items now.links.items sames w.ends;
        links = starts ∙ w.links;
        kept = λ node b h less. kept node b h (few node less) (w.kept node b h less);
        none = none;
        first = w.first;
        since = sames_trans w.first was.links.items now.links.items w.since sames;
        due = due;
        run = run;
        spent = spent;
      };
      steps = room;
      sames = sames;
    }

    -- items were taken
    pub after_gather : (now.bus.run ≡ was.bus.run) × (now.bus.left ≡ was.bus.left) →
        EachJournal MayHaveItems was.bus.journals now.bus.journals → now.run ≡ was.run → now.spent ≡ was.spent →
        GoesOn plan was now
    after_gather bits items same_run same_spent = goes_on
        (let all = w.all_bits in let run = bits.0 in let left = bits.1 in omega (arith, all, run, left))
        (λ node less. none_by_items (journal_at was.bus.journals node) (journal_at now.bus.journals node)
        (items node (few node less)) (w.none node less))
        (subst (λ (n : ℕ). AllDue plan w.first n now.bus.journals) (sym bits.0)
        (due_kept plan w.first was.bus.run was.bus.journals now.bus.journals nodes grow w.due))
        (bits.0 ∙ w.run ∙ sym same_run)
        (λ e.
        let all = w.spent (sym same_spent ∙ e) in (
          same_run ∙ all.0,
          due_stays plan w.first was.bus.journals now.bus.journals nodes grow plan.bits all.1,
        ))
      where
        grow : AllGrow was.bus.journals now.bus.journals
        grow node less =
            items_grow (journal_at was.bus.journals node) (journal_at now.bus.journals node) (items node less)

    -- a bit was run, which was due once all that was shown was taken
    pub after_bit : (orders_are : ℕ → Orders → Type 0) (was_told : ℕ → BusTurn → Type 0) (was_kept : ℕ → Type 0) →
        (now.bus.run ≡ was.bus.run + 1) × (now.bus.left + 1 ≡ was.bus.left) →
        IsBusRun was.bus.script was.bus.run was.bus.journals → AllDry ShowsNothingUp was.bus.journals was.links.items →
        IsWanted (last_awaited plan.nodes) was.run was.bus.journals → was.run < plan.bits →
        IsBit orders_are was_told was_kept was.bus.script was.bus.run was.bus.untold was.bus.journals
        now.bus.journals → now.run ≡ was.run + 1 → now.spent ≡ was.spent → GoesOn plan was now
    after_bit orders_are was_told was_kept bits laws dry wanted less bit next_run same_spent = goes_on
        (let all = w.all_bits in let run = bits.0 in let left = bits.1 in omega (arith, all, run, left))
        (λ node less. none_by_bit _ _ _ _ (journal_at was.bus.journals node) (journal_at now.bus.journals node) _ _
        (bit.nodes node (few node less)) (w.none node less))
        (subst (λ (n : ℕ). AllDue plan w.first n now.bus.journals) (sym bits.0)
        (due_more plan w.first was.bus.run was.bus.journals now.bus.journals nodes
        (λ node less. bit_grows _ _ _ _ (journal_at was.bus.journals node) (journal_at now.bus.journals node) _ _
        (bit.nodes node less))
        (due_now plan w.first was.links.items was.bus.run was.bus.journals laws.wired.count w.since
        (stands_for plan was w) dry
        (subst (λ (n : ℕ). IsWanted (last_awaited plan.nodes) n was.bus.journals) (sym w.run) wanted)) w.due))
        (bits.0 ∙ ap (λ (n : ℕ). n + 1) w.run ∙ sym next_run)
        (λ e. let all = (w.spent (sym same_spent ∙ e)).0 in absurd (omega (arith, all, less)))

-- what was taken, by what the bus answers
pub gathered : (was now : BusThread) (lent after : List NodeBus) → lent ≡ was.links.items →
    now.links.items ≡ after → now.bus.script ≡ was.bus.script → now.bus.starts ≡ was.bus.starts →
    now.bus.steps ≡ was.bus.steps →
    length now.bus.journals ≡ length was.bus.journals → EachRelated SameNodeBus lent after →
    (now.bus.run ≡ was.bus.run) × (now.bus.left ≡ was.bus.left) → now.run ≡ was.run → now.spent ≡ was.spent →
    {A : Type 0} (r : Result A BusFault) →
    OnOk r (KeepsAll NodeBusLists was.bus.journals now.bus.journals lent after) →
    OnOk r (EachJournal MayHaveItems was.bus.journals now.bus.journals) → OnOk r (now.bus.fault ≡ None) →
    OnOk r ((plan : PlanValue) → IsUnderWay plan was → GoesOn plan was now)
gathered was now lent after these those script starts room nodes sames bits same_run same_spent (Ok a) kept items
    right = λ plan w.
    after_gather was now lent after these those script starts room nodes sames plan w right kept bits items same_run
    same_spent
gathered was now lent after these those script starts room nodes sames bits same_run same_spent (Err f) kept items
    right = tt

-- ---- without a bit

-- nothing was done
pub stays_on : (plan : PlanValue) (t : BusThread) → IsUnderWay plan t → GoesOn plan t t
stays_on plan t w = record { way = w; steps = refl; sames = sames_refl t.links.items }

-- it went on twice
pub on_twice : (plan : PlanValue) (a b c : BusThread) → GoesOn plan a b → GoesOn plan b c → GoesOn plan a c
on_twice plan a b c p q = record {
  way = q.way;
  steps = q.steps ∙ p.steps;
  sames = sames_trans a.links.items b.links.items c.links.items p.sames q.sames;
}

-- and the second time by what is answered
pub on_then : (plan : PlanValue) (a b c : BusThread) → GoesOn plan a b → {A X : Type 0} (r : Result A X) →
    OnOk r (GoesOn plan b c) → OnOk r (GoesOn plan a c)
on_then plan a b c p (Ok x) q = on_twice plan a b c p q
on_then plan a b c p (Err x) q = tt

-- the bits are spent, and one more is due
pub spent_now : (plan : PlanValue) (t : BusThread) → IsUnderWay plan t → plan.bits ≤ t.run →
    IsBusRun t.bus.script t.bus.run t.bus.journals → AllDry ShowsNothingUp t.bus.journals t.links.items →
    IsWanted (last_awaited plan.nodes) t.run t.bus.journals → GoesOn plan t (record t { spent = true })
spent_now plan t w many laws dry wanted =
    let all = w.all_bits in let same = w.run in
    let last : t.run ≡ plan.bits = omega (arith, all, same, many) in record {
      way = record {
        right = w.right;
        script = w.script;
        all_bits = w.all_bits;
        journals = w.journals;
        ends = w.ends;
        links = w.links;
        kept = w.kept;
        none = w.none;
        first = w.first;
        since = w.since;
        due = w.due;
        run = w.run;
        spent = λ e. (
          last,
          due_now plan w.first t.links.items plan.bits t.bus.journals
              (λ node few. laws.wired.count node few ∙ same ∙ last) w.since (stands_for plan t w) dry
              (subst (λ (n : ℕ). IsWanted (last_awaited plan.nodes) n t.bus.journals) last wanted),
        );
      };
      steps = refl;
      sames = sames_refl t.links.items;
    }

-- a bit is wanted, where not all rest, or fewer have run than are waited for
pub wanted_now : (awaited last : ℕ) (t : BusThread) (rests : Bool) → awaited ≡ last →
    (rests ≡ false) ⊎ (t.run < awaited) → (rests ≡ false → (node : ℕ) × (node < length t.bus.journals)
    × RestsAs (record_of (journal_at t.bus.journals node)) false) → IsWanted last t.run t.bus.journals
wanted_now awaited last t rests same (inl not) busy = inr (busy not)
wanted_now awaited last t rests same (inr few) busy = inl (omega (arith, same, few))

-- where each node is at rest, it is so by a cut
pub all_rest : (journals : List (List Entry)) →
    ((node : ℕ) → node < length journals → RestsAs (record_of (journal_at journals node)) true) → AllAtRest journals
all_rest journals rests node few = let r = rests node few in (r.found, r.cut, r.is)
