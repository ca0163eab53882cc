-- Bits that were due stay so as the journals grow.
use Rattle.std.proofs.Common.{◌≡◌, ℕ, ◌+◌, ◌<◌, ◌⊎◌, false, List, [], ◌++◌, length, refl, sym, ap, ◌∙◌, append_assoc}
use Rattle.std.proofs.Common.{append-nil, subst, arith, inl, inr}
use Rattle.lemmas.proofs.Numbers.{earlier_or_last}
use Rattle.sja_journal.specs.declared.entry.Entry.{Entry}
use Rattle.sja_journal.specs.Carried.{bits_of}
use Rattle.sja_journal.specs.Records.{record_of}
use Rattle.sja_journal.specs.Links.{Grows}
use Rattle.sja_bus.specs.BusRest.{RestsAs}
use Rattle.lemmas.specs.Related.{EachRelated}
use Rattle.sja_plan.specs.Plan.{PlanValue}
use Rattle.sja_rings.specs.declared.node_bus.NodeBus.{NodeBus}
use Rattle.sja_rings.specs.NodeRings.{SameNodeBus, ShowsNothingUp}
use Rattle.sja_bus_rules.specs.Buses.{AllDry}
use Rattle.sja_bus_rules.specs.Wire.{journal_at}
use Rattle.sja_thread_promises.specs.Gathering.{Gathered, StandFor}
use Rattle.sja_thread_promises.specs.Needed.{IsBitDue, AllDue, last_awaited}
use Rattle.sja_threads.specs.Inside.Rounds.{StayDue}

-- each journal grew
abbrev pub AllGrow : List (List Entry) → List (List Entry) → Type 0
AllGrow old new = (node : ℕ) → node < length old → Grows (journal_at old node) (journal_at new node)

grows_twice : (i j k : List Entry) → Grows i j → Grows j k → Grows i k
grows_twice i j k p q = (p.0 ++ q.0, q.1 ∙ ap (λ (l : List Entry). l ++ q.0) p.1 ∙ append_assoc i p.0 q.0)

module _ (plan : PlanValue) (ends : List NodeBus) where
  -- a moment of the run so far is one of it later
  moment_stays : (bits : ℕ) (old new : List (List Entry)) → length new ≡ length old → AllGrow old new →
      Gathered plan ends bits old → Gathered plan ends bits new
  moment_stays bits old new count grow m = record {
    fronts = m.fronts;
    links = m.links;
    count = m.count ∙ sym count;
    are = λ node less.
        let few : node < length old = omega (arith, less, count) in
        grows_twice (journal_at m.fronts node) (journal_at old node) (journal_at new node) (m.are node few)
        (grow node few);
    many = λ node less. m.many node (omega (arith, less, count));
    sames = m.sames;
    stand = m.stand;
    dry = m.dry;
  }

  pub due_stays : (old new : List (List Entry)) → length new ≡ length old → AllGrow old new →
      StayDue plan ends old new
  unfolding moment_stays
  due_stays old new count grow i w = record {
    gathered = moment_stays i old new count grow w.gathered;
    why = elim w.why [
      | inl few ↦ inl few
      | inr busy ↦ inr (busy.0, (let few = busy.1 in omega (arith, few, count)), busy.2)
    ];
  }

  pub due_kept : (bits : ℕ) (old new : List (List Entry)) → length new ≡ length old → AllGrow old new →
      AllDue plan ends bits old → AllDue plan ends bits new
  due_kept bits old new count grow due i less = due_stays old new count grow i (due i less)

  -- a bit more, which was due
  pub due_more : (bits : ℕ) (old new : List (List Entry)) → length new ≡ length old → AllGrow old new →
      IsBitDue plan ends bits old → AllDue plan ends bits old → AllDue plan ends (bits + 1) new
  due_more bits old new count grow one due i less = elim (earlier_or_last i bits less) [
    | inl before ↦ due_kept bits old new count grow due i before
    | inr last ↦ due_stays old new count grow i
        (subst (λ (n : ℕ). IsBitDue plan ends n old) (sym last) one)
  ]

-- fewer bits have run than are waited for, or some node isn't at rest
abbrev pub IsWanted : ℕ → ℕ → List (List Entry) → Type 0
IsWanted awaited bits journals = (bits < awaited)
    ⊎ ((node : ℕ) × (node < length journals) × RestsAs (record_of (journal_at journals node)) false)

-- so after so many bits one more is due, where all that was shown was taken
pub due_now : (plan : PlanValue) (ends links : List NodeBus) (bits : ℕ) (journals : List (List Entry)) →
    ((node : ℕ) → node < length journals → length (bits_of (journal_at journals node)) ≡ bits) →
    EachRelated SameNodeBus ends links → StandFor plan journals links → AllDry ShowsNothingUp journals links →
    IsWanted (last_awaited plan.nodes) bits journals → IsBitDue plan ends bits journals
due_now plan ends links bits journals many sames stand dry wanted = record {
  gathered = record {
    fronts = journals;
    links = links;
    count = refl;
    are = λ node less. ([], sym (append-nil (journal_at journals node)));
    many = many;
    sames = sames;
    stand = stand;
    dry = dry;
  };
  why = elim wanted [
    | inl few ↦ inl few
    | inr busy ↦ inr (busy.0, busy.1, (busy.2.found, busy.2.cut, busy.2.is))
  ];
}
