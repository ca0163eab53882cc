-- The bus refuses nothing that a driver gives.
use Rattle.sja_steps.specs.declared.step_answer.StepAnswer.{StepAnswer}
use Rattle.std.proofs.Common.{◌≡◌, ℕ, ◌+◌, ◌<◌, ◌≤◌, List, length, sym, ap, ◌∙◌}
use Rattle.std.proofs.Common.{subst, arith, inl, inr}
use Rattle.std.specs.Prelude.{slice_index_or, slice_set, Option, Some, None}
use Rattle.std.proofs.lemmas.Bool.{cases_eq}
use Rattle.std.proofs.lemmas.List.{get_or-set_same, get_or-set_other}
use Rattle.sja_journal.specs.declared.entry.Entry.{Entry}
use Rattle.sja_link.specs.Deques.{Deques}
use Rattle.sja_link.proofs.QueuedLinks.Ends.{ends}
use Rattle.sja_journal.specs.Places.{place_of}
use Rattle.sja_journal.specs.Verdicts.{IsLawful as IsLawfulJournal}
use Rattle.sja_journal.specs.declared.bus_fault.BusFault.{BusFault}
use Rattle.sja_bus_rules.specs.Reasons.{RefusesItem, IsTakenAndRefused, room_for}
use Rattle.sja_bus_rules.specs.Wire.{journal_at}
use Rattle.sja_regs.specs.declared.registers.Registers.{Registers}
use Rattle.sja_steps.specs.declared.step.Step.{Step}
use Rattle.sja_driver.specs.declared.logged_driver.LoggedDriver.{LoggedDriver}
use Rattle.sja_driver.specs.TypedActs.{TypedAct, acts_at}
use Rattle.sja_driver.proofs.Trace.Stepping.{given_taken}
use Rattle.sja_promises.specs.Nodes.{IsNode}
use Rattle.sja_serial.specs.Serial.{Setup, SerialValue, StandsAt}
use Rattle.sja_promises.proofs.OneNode.Taken.{none_taken, done_taken, waits_taken}
use Rattle.sja_promises.proofs.OneNode.Trying.{StepsHere}

-- ---- a taking after a step

-- no item of any node is refused
pub gather_takes : {setup : Setup} {r : SerialValue} {acts : List (List TypedAct)} {node : ℕ} {was now : LoggedDriver}
    {p q : Registers} {old given : Deques} {after : List Deques} {journals : List (List Entry)} {one : Step}
    {f : BusFault} {b : Option StepAnswer} → StandsAt setup r acts → node < setup.nodes →
    IsNode setup.version (slice_index_or setup.steps node 0) (journal_at r.bus.journals node) (acts_at acts node)
    was p old →
    IsLawfulJournal (journal_at r.bus.journals node) →
    length (acts_at acts node) ≤ slice_index_or setup.steps node 0 →
    (place_of (journal_at r.bus.journals node)).bits ≡ r.bits →
    StepsHere was now old given p q one b →
    IsTakenAndRefused ends (r.bus.run + r.bus.left) r.bus.steps r.bus.journals journals (slice_set r.links node given)
    after f → ⊥
gather_takes {setup} {r} {acts} {node} {was} {now} {p} {q} {old} {given} {after} {journals} {one} {f} {b} h there w
    lawful short place st r_not =
    let m = r_not.node in
    let Refuses : ℕ → Deques → Type 0 = λ x s. RefusesItem ends (room_for (r.bus.run + r.bus.left) r.bus.steps x)
    (journal_at r.bus.journals x) (journal_at journals x) s r_not.end_after x f in
    elim (cases_eq m node) [
      | inl e ↦
          let is : r_not.end ≡ given = sym (r_not.is_end given)
          ∙ ap (λ (x : ℕ). slice_index_or (slice_set r.links node given) x given) e
          ∙ get_or-set_same r.links node given given (let c = h.ends.count in omega (arith, c, there)) in
          here b st (subst (λ x. Refuses x given) e (subst (Refuses m) is r_not.refuses))
      | inr differ ↦
          let few : m < setup.nodes = let c = h.count.journals in let l = r_not.few in omega (arith, c, l) in
          let n = h.nodes m now p old few in
          let is : r_not.end ≡ slice_index_or r.links m old =
          sym (r_not.is_end old) ∙ get_or-set_other r.links node m given old differ in
          none_taken n.linked.holds
          (λ a. given_taken (acts_at acts m) (journal_at r.bus.journals m) a (n.in_time.when a))
          (subst (Refuses m) is r_not.refuses)
    ]
  where
    j : List Entry
    j = journal_at r.bus.journals node

    run : (place_of j).bits ≤ r.bus.run + r.bus.left
    run = let e = h.bits in omega (arith, e, place)

    enough : room_for (r.bus.run + r.bus.left) r.bus.steps node
        ≡ room_for (r.bus.run + r.bus.left) setup.steps node
    enough = ap (λ (l : List ℕ). room_for (r.bus.run + r.bus.left) l node) h.steps

    here : (x : Option StepAnswer) → StepsHere was now old given p q one x →
        RefusesItem ends (room_for (r.bus.run + r.bus.left) r.bus.steps node) j (journal_at journals node) given
        r_not.end_after node f → ⊥
    here (Some answer) = done_taken w lawful (r.bus.run + r.bus.left) (room_for (r.bus.run + r.bus.left) r.bus.steps
        node) short
        enough run
    here None = waits_taken w lawful (r.bus.run + r.bus.left) (room_for (r.bus.run + r.bus.left) r.bus.steps node)
        short enough run
