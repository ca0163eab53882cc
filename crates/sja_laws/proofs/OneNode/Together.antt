-- Two runs of one node that have come to the same point, and a step more of both, or a bit.
use Rattle.std.proofs.Common.{◌≡◌, ◌<◌, ◌+◌, ℕ, List, [], ◌∷◌, ◌++◌, length, map, take, drop, refl, sym, ap, ◌∙◌}
use Rattle.std.proofs.Common.{subst, arith, append_assoc, append-nil}
use Rattle.std.specs.Prelude.{slice_index_or}
use Rattle.std.proofs.lemmas.List.{length-append, length-map, take-append-drop}
use Rattle.lemmas.specs.Picking.{EachAfter}
use Rattle.lemmas.proofs.Gathered.{gathered_append}
use Rattle.sja_journal.specs.declared.entry.Entry.{Entry}
use Rattle.sja_journal.specs.Places.{place_of}
use Rattle.sja_journal.specs.Verdicts.{IsLawful}
use Rattle.sja_regs.specs.declared.registers.Registers.{Registers}
use Rattle.sja_steps.specs.declared.step.Step.{Step}
use Rattle.sja_driver.specs.declared.unmodelled_registers.UnmodelledRegisters.{UnmodelledRegisters}
use Rattle.sja_driver.specs.StepRuns.{StepRun, acts_in}
use Rattle.sja_promises.specs.Registering.{StepRunsLeadTo}
use Rattle.sja_promises.specs.Registering.StepRunsLeadTo.{step_run, bit}
use Rattle.sja_promises.proofs.NodeLog.Onward.{put_then}
use Rattle.sja_laws.specs.LongerJournals.{GoesOn}
use Rattle.sja_laws.specs.Promised.{IsPromised}
use Rattle.sja_laws.proofs.OneNode.OneStepRun.{step_run_once, bits_on, promised_then}
use Rattle.sja_laws.proofs.OneNode.OneBit.{bit_once}
use Rattle.sja_laws.proofs.OneNode.OnePort.{bits_with_bit}
use Rattle.sja_laws.proofs.OneNode.Coming.{NextStepRun, NextBit, at_end}
use Rattle.sja_laws.proofs.OneNode.Onward.{Onward, StepsCome, extends, goes_on}
use Rattle.sja_laws.proofs.OneNode.Onward.{steps_come}

-- of a node of a run: its journal is lawful, its acts are as promised, and its steps are the first ones of the plan
pub record IsOfRun (version : ℕ) (steps : List Step) (whole : List Entry) (all : List StepRun) : Type 0 where
  pub lawful : IsLawful whole
  pub promised : EachAfter (IsPromised version whole) [] (acts_in all)
  pub first : map (λ (a : StepRun). a.step) all ≡ take (length all) steps

-- after so many bits, and so many steps, both have the same entries, steps, kept bytes and registers
pub record Together (version : ℕ) (whole : List Entry) (all : List StepRun) (other : List Entry) (others : List StepRun)
    (bits count : ℕ) : Type 0 where
  pub entries : List Entry
  pub steps : List StepRun
  pub kept : UnmodelledRegisters
  pub port : Registers
  pub past : StepRunsLeadTo version entries steps kept port
  pub one : Onward version whole all entries steps kept port
  pub two : Onward version other others entries steps kept port
  pub bits_are : (place_of entries).bits ≡ bits
  pub count_is : length steps ≡ count

-- ---- lists

pub each_split : {X : Type 0} (P : List X → X → Type 0) (before xs ys : List X) → EachAfter P before (xs ++ ys) →
    EachAfter P before xs × EachAfter P (before ++ xs) ys
each_split P before [] ys h = (tt, subst (λ l. EachAfter P l ys) (sym (append-nil before)) h)
each_split P before (x ∷ xs) ys h =
    let rest = each_split P (before ++ x ∷ []) xs ys h.1 in
    ((h.0, rest.0), subst (λ l. EachAfter P l ys) (append_assoc before (x ∷ []) xs) rest.1)

map_at : (step_runs : List StepRun) (a : StepRun) (more : List StepRun) →
    map (λ (x : StepRun). x.step) (step_runs ++ a ∷ more)
    ≡ map (λ (x : StepRun). x.step) step_runs ++ a.step ∷ map (λ (x : StepRun). x.step) more
map_at [] a more = refl
map_at (x ∷ step_runs) a more = ap (λ l. x.step ∷ l) (map_at step_runs a more)

-- the step that comes is that of the plan
pub record IsStepOf (steps : List Step) (n : ℕ) (s : Step) : Type 0 where
  pub there : (d : Step) → slice_index_or steps n d ≡ s
  pub less : n < length steps

pub step_of : (steps : List Step) (all step_runs more : List StepRun) (a : StepRun) →
    map (λ (x : StepRun). x.step) all ≡ take (length all) steps → all ≡ step_runs ++ a ∷ more →
    IsStepOf steps (length step_runs) a.step
step_of steps all step_runs more a first split =
    let done = map (λ (x : StepRun). x.step) step_runs in
    let later = map (λ (x : StepRun). x.step) more ++ drop (length all) steps in
    let whole : steps ≡ done ++ a.step ∷ later =
    sym (take-append-drop (length all) steps)
    ∙ ap (λ l. l ++ drop (length all) steps)
    (sym first ∙ ap (λ l. map (λ (x : StepRun). x.step) l) split ∙ map_at step_runs a more)
    ∙ append_assoc done (a.step ∷ map (λ (x : StepRun). x.step) more) (drop (length all) steps) in
    let long = length-map step_runs (λ (x : StepRun). x.step) in
    let all_long = ap (λ (l : List Step). length l) whole ∙ length-append done (a.step ∷ later) in
    record {
      there = λ d. ap (λ n. slice_index_or steps n d) (sym long)
          ∙ ap (λ l. slice_index_or l (length done) d) whole ∙ at_end done later a.step d;
      less = omega (arith, long, all_long);
    }

-- ---- a step

module _ (version : ℕ) (steps : List Step) (whole : List Entry) (all : List StepRun)
    (run : IsOfRun version steps whole all) (j : List Entry) (step_runs : List StepRun) (kept : UnmodelledRegisters)
    (p : Registers) (next : NextStepRun version whole all j step_runs kept p) where
  come : StepsCome (place_of next.entries).bits (step_runs ++ next.step ∷ []) all
  come = steps_come version whole all next.entries (step_runs ++ next.step ∷ []) next.kept_now next.port next.onward

  split : all ≡ step_runs ++ next.step ∷ come.more
  split = come.is ∙ append_assoc step_runs (next.step ∷ []) come.more

  pub step_is : IsStepOf steps (length step_runs) next.step.step
  step_is = step_of steps all step_runs come.more next.step run.first split

  acts_split : acts_in all ≡ acts_in step_runs ++ (next.step.acts ++ acts_in come.more)
  acts_split = ap (λ l. acts_in l) split
      ∙ gathered_append (λ (a : StepRun). a.acts) step_runs (next.step ∷ come.more)

  pub promised_past : EachAfter (IsPromised version whole) [] (acts_in step_runs)
  promised_past = (each_split (IsPromised version whole) [] (acts_in step_runs)
      (next.step.acts ++ acts_in come.more)
      (subst (λ l. EachAfter (IsPromised version whole) [] l) acts_split run.promised)).0

  pub promised_now : GoesOn j whole → EachAfter (IsPromised version j) (acts_in step_runs) next.step.acts
  promised_now on =
      let later = (each_split (IsPromised version whole) [] (acts_in step_runs)
      (next.step.acts ++ acts_in come.more)
      (subst (λ l. EachAfter (IsPromised version whole) [] l) acts_split run.promised)).1 in
      let now = (each_split (IsPromised version whole) (acts_in step_runs) next.step.acts (acts_in come.more)
      later).0 in
      promised_then version (place_of j).bits j whole (acts_in step_runs) next.step.acts
      (λ a. put_then j whole (place_of j).bits a (extends j whole on) refl)
      (bits_on (acts_in step_runs) j p next.entries next.port next.step.acts next.leads).1 now

module _ (version : ℕ) (steps : List Step) (whole : List Entry) (all : List StepRun) (other : List Entry)
    (others : List StepRun) (run : IsOfRun version steps whole all) (too : IsOfRun version steps other others)
    (bits count : ℕ) (t : Together version whole all other others bits count) where
  pub step_both : NextStepRun version whole all t.entries t.steps t.kept t.port →
      NextStepRun version other others t.entries t.steps t.kept t.port →
      Together version whole all other others bits (count + 1)
  step_both a b =
      let before = acts_in t.steps in
      let same : a.step.step ≡ b.step.step =
      sym ((step_is version steps whole all run t.entries t.steps t.kept t.port a).there a.step.step)
      ∙ (step_is version steps other others too t.entries t.steps t.kept t.port b).there a.step.step in
      let one = step_run_once version t.entries before t.entries a.entries b.entries t.port a.port b.port t.kept
      a.kept_now b.kept_now a.step b.step same (a.bits ∙ sym b.bits) a.is b.is a.leads b.leads
      (promised_now version steps whole all run t.entries t.steps t.kept t.port a
      (goes_on version whole all t.entries t.steps t.kept t.port t.one))
      (promised_now version steps other others too t.entries t.steps t.kept t.port b
      (goes_on version other others t.entries t.steps t.kept t.port t.two)) in
      let A : List Entry → Type 0 = λ k. Onward version other others k (t.steps ++ b.step ∷ []) b.kept_now b.port in
      let B : StepRun → Type 0 = λ x. Onward version other others a.entries (t.steps ++ x ∷ []) b.kept_now b.port in
      let C : UnmodelledRegisters → Type 0 = λ x. Onward version other others a.entries (t.steps
      ++ a.step ∷ []) x b.port in
      let D : Registers → Type 0 =
      λ x. Onward version other others a.entries (t.steps ++ a.step ∷ []) a.kept_now x in
      let long = length-append t.steps (a.step ∷ []) in
      let counted = t.count_is in
      record {
        entries = a.entries;
        steps = t.steps ++ a.step ∷ [];
        kept = a.kept_now;
        port = a.port;
        past = step_run t.entries a.entries t.steps a.step t.kept a.kept_now t.port a.port t.past a.bits a.is a.leads;
        one = a.onward;
        two = subst D (sym one.port) (subst C (sym one.kept) (subst B (sym one.step_run)
            (subst A (sym one.entries) b.onward)));
        bits_are = (bits_on before t.entries t.port a.entries a.port a.step.acts a.leads).0 ∙ t.bits_are;
        count_is = omega (arith, long, counted);
      }

  -- ---- a bit, in which both saw the same

  pub bit_both : (a : NextBit version whole all t.entries t.steps t.kept t.port)
      (b : NextBit version other others t.entries t.steps t.kept t.port) → a.bit.seen ≡ b.bit.seen →
      Together version whole all other others (bits + 1) count
  bit_both a b seen =
      let one = bit_once t.entries a.entries b.entries t.port a.port b.port a.bit b.bit whole other run.lawful
      too.lawful (goes_on version whole all a.entries t.steps t.kept a.port a.onward)
      (goes_on version other others b.entries t.steps t.kept b.port b.onward) seen in
      let A : List Entry → Type 0 = λ k. Onward version other others k t.steps t.kept b.port in
      let B : Registers → Type 0 = λ x. Onward version other others a.entries t.steps t.kept x in
      record {
        entries = a.entries;
        steps = t.steps;
        kept = t.kept;
        port = a.port;
        past = bit t.entries a.entries t.steps t.kept t.port a.port t.past a.bit;
        one = a.onward;
        two = subst B (sym one.port) (subst A (sym one.entries) b.onward);
        bits_are = bits_with_bit t.entries a.entries t.port a.port a.bit ∙ ap (λ n. n + 1) t.bits_are;
        count_is = t.count_is;
      }
