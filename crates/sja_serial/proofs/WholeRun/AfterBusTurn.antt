-- What follows a turn of the bus, or rest, in a run follows, with that turn, from where the run stood before.
use Rattle.std.proofs.Common.{◌≡◌, ℕ, ◌+◌, ◌-◌, ◌<◌, true, false, List, ◌∷◌, length}
use Rattle.std.proofs.Common.{map, take, refl, sym, ap, ◌∙◌, subst, arith, inl, inr}
use Rattle.std.specs.Prelude.{slice_index}
use Rattle.std.proofs.lemmas.Bool.{cases_lt, false≢true}
use Rattle.sja_journal.specs.NodeWords.{NodeEntry}
use Rattle.sja_journal.specs.declared.entry.Entry.{Entry}
use Rattle.sja_journal.specs.Records.{record_of}
use Rattle.sja_bus_rules.specs.Wire.{journal_at}
use Rattle.sja_plan.specs.Plan.{PlanValue}
use Rattle.sja_plan.specs.declared.turn.Turn.{Turn}
use Rattle.sja_plan.specs.declared.turn.Turn.TheVariants.{Bus, Rest}
use Rattle.sja_driver.specs.StepRuns.{StepRun, step_runs_at, acts_in}
use Rattle.sja_log.specs.declared.end.End.{End}
use Rattle.sja_log.specs.declared.end.End.TheVariants.{Bits as BitsSpent}
use Rattle.sja_driver.specs.Moments.{record_at}
use Rattle.sja_driver.specs.NodeRest.{IsAtRest}
use Rattle.sja_promises.specs.Turns.{Progress, with_bits, AllAtRest, RunsTo}
use Rattle.sja_promises.specs.Turns.RunsTo.{bus, bus_spent, rest, rest_spent}
use Rattle.sja_serial.specs.Bits.{TakesBits, SomeWorks, TakesBusTurn, TakesRest}
use Rattle.sja_serial.specs.Bits.TakesBits.{no_bit, one_more}
use Rattle.sja_serial.specs.Ending.{progress, setup_of}
use Rattle.sja_serial.specs.Serial.{SerialValue, StandsAt, all_acts}
use Rattle.sja_serial.proofs.ManyBits.SomeBits.{bits_within}
use Rattle.sja_serial.proofs.WholeRun.GoingOn.{run_acts_of, GoesOn, ArePresent, acts_then, record_then}
use Rattle.sja_serial.proofs.WholeRun.GoingOn.{back_bit, present_bits, bits_run, stands_bits}

module _ (plan : PlanValue) (step_runs : List (List StepRun)) (journals : List (List Entry)) (all : List (List StepRun))
  where
    bits_on : (was now : SerialValue) (n : ℕ) → now.bits ≡ was.bits + n →
        progress now step_runs ≡ with_bits (progress was step_runs) n
    bits_on was now n e = ap (λ b. let p : Progress =
        record { bits = b; done = map (λ (l : List StepRun). length l) step_runs } in p) e

    pub bus_whole : (was now : SerialValue) (count : ℕ) (turns : List Turn) (q : Progress) (end : End) →
        StandsAt (setup_of plan) was (all_acts step_runs) → TakesBusTurn (setup_of plan) (all_acts step_runs) was now
        count true →
        RunsTo (run_acts_of plan journals all) (progress now step_runs) turns q end →
        RunsTo (run_acts_of plan journals all) (progress was step_runs) (Bus count ∷ turns) q end
    bus_whole was now count turns q end h t follows =
        let n = bits_run (setup_of plan) (all_acts step_runs) _ was now t.run t.bits in
        let stands = stands_bits (setup_of plan) (all_acts step_runs) _ was now t.run t.bits h in
        let few = bits_within (setup_of plan) now (all_acts step_runs) stands in let w = t.whole refl in
        let e : now.bits ≡ was.bits + count = omega (arith, n, w) in
        bus (progress was step_runs) q count turns end (omega (arith, few, e))
        (subst (λ (p : Progress). RunsTo (run_acts_of plan journals all) p turns q end) (bits_on was now count e)
        follows)

    spent_at : (was now : SerialValue) → now.bits ≡ plan.bits →
        (record (progress was step_runs) { bits = plan.bits }) ≡ progress now step_runs
    spent_at was now e = ap (λ b. let p : Progress =
        record { bits = b; done = map (λ (l : List StepRun). length l) step_runs } in p) (sym e)

    pub bus_short : (was now : SerialValue) (count : ℕ) (turns : List Turn) →
        TakesBusTurn (setup_of plan) (all_acts step_runs) was now count false →
        RunsTo (run_acts_of plan journals all) (progress was step_runs) (Bus count ∷ turns) (progress now step_runs)
        BitsSpent
    bus_short was now count turns t =
        let n = bits_run (setup_of plan) (all_acts step_runs) _ was now t.run t.bits in let s = t.spent refl in let few
        = s.0 in let e
        = s.1 in
        subst (λ (q : Progress). RunsTo (run_acts_of plan journals all) (progress was step_runs)
        (Bus count ∷ turns) q BitsSpent) (spent_at was now e)
        (bus_spent (progress was step_runs) count turns (omega (arith, n, few, e)))

    -- ---- rest

    rests_then : (at : Progress) (r : SerialValue) → at.done ≡ map (λ (l : List StepRun). length l) step_runs →
        StandsAt (setup_of plan) r (all_acts step_runs) → ArePresent (setup_of plan) r →
        GoesOn (setup_of plan) r step_runs journals all →
        (k : ℕ) → k < length plan.nodes →
        record_at (journal_at journals k) (acts_in (take (slice_index at.done k) (step_runs_at all k))) r.bits
        ≡ record_of (journal_at r.bus.journals k)
    rests_then at r e h present go k less =
        ap (λ l. record_at (journal_at journals k) l r.bits)
        (ap (λ l. acts_in (take (slice_index l k) (step_runs_at all k))) e
        ∙ acts_then (setup_of plan) r step_runs journals all go k less)
        ∙ record_then (setup_of plan) r step_runs journals all h present go k less

    -- where some node works not all are at rest
    works_then : (was r : SerialValue) → StandsAt (setup_of plan) r (all_acts step_runs) →
        ArePresent (setup_of plan) r → GoesOn (setup_of plan) r step_runs journals all →
        SomeWorks (setup_of plan) r → AllAtRest (run_acts_of plan journals all) (progress was step_runs) r.bits → ⊥
    works_then was r h present go works still =
        let k = works.0 in
        let rests = subst (λ (l : List NodeEntry). IsAtRest l)
        (rests_then (progress was step_runs) r refl h present go k works.1) (still k works.1) in
        false≢true (sym (works.2.every rests.0 rests.1) ∙ rests.2)

    works_before : (was now : SerialValue) (n : ℕ) → TakesBits (setup_of plan) (all_acts step_runs)
        (SomeWorks (setup_of plan)) was n
        now →
        StandsAt (setup_of plan) was (all_acts step_runs) → ArePresent (setup_of plan) was →
        GoesOn (setup_of plan) now step_runs journals all →
        (i : ℕ) → i < n → AllAtRest (run_acts_of plan journals all) (progress was step_runs) (was.bits + i) → ⊥
    works_before was now n (no_bit _) h present go i less still = omega (arith, less)
    works_before was now n (one_more _ mid _ m before holds bit) h present go i less still =
        let back = back_bit (setup_of plan) (all_acts step_runs) mid now step_runs journals all bit go in
        elim (cases_lt i m) [
          | inl few ↦ works_before was mid m before h present back i few still
          | inr far ↦
              let e = bits_run (setup_of plan) (all_acts step_runs) _ was mid m before in
              let now_is : was.bits + i ≡ mid.bits = omega (arith, e, far, less) in
              works_then was mid (stands_bits (setup_of plan) (all_acts step_runs) _ was mid m before h)
              (present_bits (setup_of plan) (all_acts step_runs) _ was mid m before present) back holds
              (subst (λ (b : ℕ). AllAtRest (run_acts_of plan journals all) (progress was step_runs) b) now_is still)
        ]

    pub rest_whole : (was now : SerialValue) (turns : List Turn) (q : Progress) (end : End) →
        StandsAt (setup_of plan) was (all_acts step_runs) →
        ArePresent (setup_of plan) was → GoesOn (setup_of plan) now step_runs journals all →
        TakesRest (setup_of plan) (all_acts step_runs) was now plan.bits true →
        RunsTo (run_acts_of plan journals all) (progress now step_runs) turns q end →
        RunsTo (run_acts_of plan journals all) (progress was step_runs) (Rest ∷ turns) q end
    rest_whole was now turns q end h present go t follows =
        let e = bits_run (setup_of plan) (all_acts step_runs) _ was now t.run t.bits in
        let stands = stands_bits (setup_of plan) (all_acts step_runs) _ was now t.run t.bits h in
        let there = present_bits (setup_of plan) (all_acts step_runs) _ was now t.run t.bits present in
        let few = bits_within (setup_of plan) now (all_acts step_runs) stands in
        let still : AllAtRest (run_acts_of plan journals all) (progress was step_runs) now.bits = λ k less.
        let rests = t.whole refl k less in
        subst (λ (l : List NodeEntry). IsAtRest l)
        (sym (rests_then (progress was step_runs) now refl stands there go k less)) (rests.found, rests.cut, rests.is)
        in
        rest (progress was step_runs) q t.run turns end (omega (arith, few, e))
        (works_before was now t.run t.bits h present go)
        (subst (λ (b : ℕ). AllAtRest (run_acts_of plan journals all) (progress was step_runs) b) e still)
        (subst (λ (p : Progress). RunsTo (run_acts_of plan journals all) p turns q end) (bits_on was now t.run e)
        follows)

    pub rest_short : (was now : SerialValue) (turns : List Turn) → StandsAt (setup_of plan) was (all_acts step_runs) →
        ArePresent (setup_of plan) was →
        GoesOn (setup_of plan) now step_runs journals all →
        TakesRest (setup_of plan) (all_acts step_runs) was now plan.bits false →
        RunsTo (run_acts_of plan journals all) (progress was step_runs) (Rest ∷ turns) (progress now step_runs)
        BitsSpent
    rest_short was now turns h present go t =
        let e = bits_run (setup_of plan) (all_acts step_runs) _ was now t.run t.bits in
        let stands = stands_bits (setup_of plan) (all_acts step_runs) _ was now t.run t.bits h in
        let there = present_bits (setup_of plan) (all_acts step_runs) _ was now t.run t.bits present in
        let few = bits_within (setup_of plan) now (all_acts step_runs) stands in let s = t.spent refl in
        let last : now.bits ≡ plan.bits = elim s.1 [ inl all ↦ omega (arith, all, e, few) | inr is ↦ is ] in
        subst (λ (q : Progress). RunsTo (run_acts_of plan journals all) (progress was step_runs)
        (Rest ∷ turns) q BitsSpent)
        (spent_at was now last)
        (rest_spent (progress was step_runs) turns (λ bits from to still. elim (cases_lt (bits - was.bits) t.run) [
          | inl few ↦
              let same : bits ≡ was.bits + (bits - was.bits) = omega (arith, from) in
              works_before was now t.run t.bits h present go (bits - was.bits) few
              (subst (λ (b : ℕ). AllAtRest (run_acts_of plan journals all) (progress was step_runs) b) same still)
          | inr far ↦
              let same : bits ≡ now.bits = omega (arith, from, to, far, e, last) in
              works_then was now stands there go s.0
              (subst (λ (b : ℕ). AllAtRest (run_acts_of plan journals all) (progress was step_runs) b) same still)
        ]))
