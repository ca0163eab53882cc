-- The bus of a run in threads before its first round.
use Rattle.std.proofs.Common.{◌≡◌, ℕ, ◌<◌, false, List, [], length, sym, ap, ◌∙◌, subst, arith}
use Rattle.std.specs.Prelude.{slice_index_or}
use Rattle.std.proofs.lemmas.List.{length-replicate}
use Rattle.lemmas.proofs.Lists.{some_of}
use Rattle.sja_journal.specs.declared.entry.Entry.{Entry}
use Rattle.sja_journal.specs.Carried.{taken_of}
use Rattle.sja_journal.specs.Links.{Kept}
use Rattle.sja_journal.specs.Parts.{part}
use Rattle.sja_rings.specs.declared.node_bus.NodeBus.{NodeBus}
use Rattle.sja_rings.specs.NodeRings.{NodeBusLists}
use Rattle.sja_plan.specs.Plan.{PlanValue}
use Rattle.sja_bus_rules.specs.Buses.{BusValue, new_bus}
use Rattle.sja_bus_rules.specs.Wire.{journal_at}
use Rattle.sja_bus_rules.proofs.Wires.{no_journal}
use Rattle.sja_threads.specs.declared.bus_thread.BusThread.{BusThread}
use Rattle.sja_threads.specs.declared.thread_start.ThreadStart.{ThreadStart}
use Rattle.sja_threads.specs.Inside.Making.{AreNewEnds, AreMade}
use Rattle.sja_threads.specs.Inside.Rounds.{IsUnderWay}
use Rattle.sja_threads.proofs.Rounds.SameEnds.{sames_refl}
use Rattle.sja_threads.proofs.Start.NewEnds.{kept_new}

pub begins : {G : Type 0} (plan : PlanValue) (t : BusThread) (starts : List (ThreadStart G)) →
    (counts : List ℕ) → t.bus ≡ new_bus plan.strikes plan.bits (length plan.nodes) 64 counts →
    length t.links.items ≡ length plan.nodes → t.run ≡ 0 → t.spent ≡ false → length starts ≡ length plan.nodes →
    AreMade plan (length plan.nodes) starts t.links.items → IsUnderWay plan t
begins {G} plan t starts counts is count run spent many made = record {
  right = ap (λ (b : BusValue). b.fault) is;
  script = ap (λ (b : BusValue). b.script) is;
  all_bits = let run = none_run in let left = ap (λ (b : BusValue). b.left) is in omega (arith, run, left);
  journals = ap (λ (b : BusValue). length b.journals) is ∙ length-replicate (length plan.nodes) [];
  ends = record { count = count; each = λ node b few. (at node b few).is_bus };
  links = ap (λ (b : BusValue). b.starts) is;
  kept = λ node b h few.
      subst (λ (j : List Entry). Kept NodeBusLists j (slice_index_or t.links.items node b) h) (sym (empty node))
      (kept_new (slice_index_or t.links.items node b) h (at node b few).bus_lists);
  none = λ node few. ap (λ (j : List Entry). taken_of (part j 0)) (empty node);
  first = t.links.items;
  since = sames_refl t.links.items;
  due = λ i less. let run = none_run in absurd (omega (arith, less, run));
  run = none_run ∙ sym run;
  spent = λ e. absurd (let two = sym spent ∙ e in cc);
}
  where
    none_run : t.bus.run ≡ 0
    none_run = ap (λ (b : BusValue). b.run) is

    empty : (node : ℕ) → journal_at t.bus.journals node ≡ []
    empty node = ap (λ (b : BusValue). journal_at b.journals node) is ∙ no_journal (length plan.nodes) node

    at : (node : ℕ) (b : NodeBus) (few : node < length plan.nodes) →
        let s : ThreadStart G = some_of starts 0 (omega (arith, few, many)) in
        AreNewEnds node (slice_index_or t.links.items node b) (slice_index_or starts node s).end
    at node b few = (made node (some_of starts 0 (omega (arith, few, many))) b few).ends
