-- The interrupt line of a node in two runs that have come to the same point, and rounds of all drivers in both.
use Rattle.std.proofs.Common.{◌≡◌, ◌<◌, ◌≤◌, ◌+◌, ℕ, zero, suc, true, false, List, [], ◌∷◌, length, take, refl, sym, ap}
use Rattle.std.proofs.Common.{◌∙◌, subst, arith, inl, inr, take_at}
use Rattle.std.specs.Prelude.{slice_index, slice_index_or}
use Rattle.std.proofs.lemmas.Bool.{cases_lt, false≢true}
use Rattle.sja_journal.specs.declared.entry.Entry.{Entry}
use Rattle.sja_bus_rules.specs.Wire.{journal_at}
use Rattle.sja_plan.specs.Plan.{PlanValue, steps_at}
use Rattle.sja_driver.specs.StepRuns.{StepRun, step_runs_at, acts_in}
use Rattle.sja_driver.specs.TypedActs.{TypedAct, given_in, is_active}
use Rattle.sja_driver.specs.Moments.{at_moment}
use Rattle.sja_regs.specs.declared.registers.Registers.{Registers}
use Rattle.sja_regs.specs.InterruptLine.{is_line_active}
use Rattle.sja_promises.specs.Registering.{IsLineActive, IsLineInactive, LeadTo, seen_now}
use Rattle.sja_promises.specs.Turns.{Acts, AllDo, DoesAll, DoesSteps, Progress, acts_by, entries_by, steps_done}
use Rattle.sja_promises.specs.Turns.{with_steps}
use Rattle.sja_promises.specs.Turns.AllDo.{no_node_more, one_node}
use Rattle.sja_promises.proofs.Trace.StepRunActs.{forget}
use Rattle.sja_laws.proofs.AllNodes.Bits.{TwoRuns}
use Rattle.sja_laws.proofs.OneNode.OnePort.{port_once}
use Rattle.sja_laws.proofs.OneNode.Onward.{goes_on, steps_come}
use Rattle.sja_laws.proofs.OneNode.Stuck.{moment_is_front}
use Rattle.sja_laws.proofs.OneNode.Together.{Together}
use Rattle.sja_laws.proofs.WholeRun.NodeTurn.{turned}
use Rattle.sja_laws.proofs.WholeRun.Progressing.{steps_long}
use Rattle.sja_laws.proofs.WholeRun.Turns.{Both, node_turn, one, two}

-- ---- one line

-- by the same entries and acts a line isn't active and active
pub two_lines : (version : ℕ) (j k : List Entry) (acts more : List TypedAct) → j ≡ k → acts ≡ more →
    IsLineInactive version j acts → IsLineActive version k more → ⊥
two_lines version j k acts more same also down up =
    let P : List Entry → List TypedAct → Type 0 = λ l d. IsLineActive version l d in
    let there = subst (λ d. P j d) (sym also) (subst (λ l. P l more) (sym same) up) in
    let port = port_once version j acts down.registers there.registers down.lead there.lead in
    false≢true (sym down.inactive ∙ ap (λ p. is_line_active p (seen_now (is_active acts) j acts)) port
    ∙ there.active)

-- past the end of a list
number_past : (l : List ℕ) (k : ℕ) → length l ≤ k → slice_index l k ≡ 0
number_past [] k past = refl
number_past (x ∷ l) zero past = absurd (omega (arith, past))
number_past (x ∷ l) (suc k) past = number_past l k (omega (arith, past))

entries_past : (l : List (List Entry)) (k : ℕ) → length l ≤ k → slice_index_or l k [] ≡ []
entries_past [] k past = refl
entries_past (x ∷ l) zero past = absurd (omega (arith, past))
entries_past (x ∷ l) (suc k) past = entries_past l k (omega (arith, past))

-- the acts of a node, and its entries, at a point to which its run has come
acts_then : (version : ℕ) (whole : List Entry) (all : List StepRun) (other : List Entry) (others : List StepRun)
    (bits count : ℕ) (t : Together version whole all other others bits count) → take count all ≡ t.steps
acts_then version whole all other others bits count t =
    let come = steps_come version whole all t.entries t.steps t.kept t.port t.one in
    ap (λ l. take count l) come.is ∙ take_at t.steps come.more count t.count_is

entries_then : (version : ℕ) (whole : List Entry) (all : List StepRun) (other : List Entry) (others : List StepRun)
    (bits count : ℕ) (t : Together version whole all other others bits count) →
    at_moment bits (length (given_in (acts_in (take count all)))) whole ≡ t.entries
entries_then version whole all other others bits count t =
    ap (λ l. at_moment bits (length (given_in (acts_in l))) whole)
    (acts_then version whole all other others bits count t)
    ∙ moment_is_front version whole t.entries (acts_in t.steps) t.port bits
    (forget version t.entries t.steps t.kept t.port t.past)
    (goes_on version whole all t.entries t.steps t.kept t.port t.one) t.bits_are

module _ (plan : PlanValue) (r : TwoRuns plan) where
  -- both have the same acts of a node, and the same entries
  record IsSame (p : Progress) (k bits : ℕ) : Type 0 where
    acts : acts_by (one plan r) p k ≡ acts_by (two plan r) p k
    entries : entries_by (one plan r) p k bits ≡ entries_by (two plan r) p k bits

  same : (p : Progress) (k bits : ℕ) → length p.done ≡ length plan.nodes → Both plan r bits (steps_done p) →
      IsSame p k bits
  same p k bits long t = elim (cases_lt k (length plan.nodes)) [
    | inl here ↦
        let x = t k here in
        let a = journal_at r.first k in let b = step_runs_at r.all k in
        let c = journal_at r.second k in let d = step_runs_at r.others k in
        let n = steps_done p k in
        record {
          acts = ap acts_in (acts_then plan.version a b c d bits n x
              ∙ sym (acts_then plan.version c d a b bits n (turned plan.version a b c d bits n x)));
          entries = entries_then plan.version a b c d bits n x
              ∙ sym (entries_then plan.version c d a b bits n (turned plan.version a b c d bits n x));
        }
    | inr past ↦
        let none = number_past p.done k (omega (arith, past, long)) in
        let count = r.count in let number = r.number in
        let first = entries_past r.first k (omega (arith, past, count)) in
        let second = entries_past r.second k (omega (arith, past, number)) in
        let acts : acts_by (one plan r) p k ≡ acts_by (two plan r) p k =
        ap (λ n. acts_in (take n (step_runs_at r.all k))) none
        ∙ sym (ap (λ n. acts_in (take n (step_runs_at r.others k))) none) in
        record {
          acts = acts;
          entries = ap (λ l. at_moment bits (length (given_in (acts_by (one plan r) p k))) l) (first ∙ sym second)
              ∙ ap (λ l. at_moment bits (length (given_in l)) (journal_at r.second k)) acts;
        }
  ]

  pub line_there : (p : Progress) (k bits : ℕ) → length p.done ≡ length plan.nodes → Both plan r bits (steps_done p) →
      IsLineInactive plan.version (entries_by (one plan r) p k bits) (acts_by (one plan r) p k) →
      IsLineActive plan.version (entries_by (two plan r) p k bits) (acts_by (two plan r) p k) → ⊥
  line_there p k bits long t = let s = same p k bits long t in
      two_lines plan.version (entries_by (one plan r) p k bits) (entries_by (two plan r) p k bits)
      (acts_by (one plan r) p k) (acts_by (two plan r) p k) s.entries s.acts

  pub line_here : (p : Progress) (k bits : ℕ) → length p.done ≡ length plan.nodes → Both plan r bits (steps_done p) →
      IsLineInactive plan.version (entries_by (two plan r) p k bits) (acts_by (two plan r) p k) →
      IsLineActive plan.version (entries_by (one plan r) p k bits) (acts_by (one plan r) p k) → ⊥
  line_here p k bits long t = let s = same p k bits long t in
      two_lines plan.version (entries_by (two plan r) p k bits) (entries_by (one plan r) p k bits)
      (acts_by (two plan r) p k) (acts_by (one plan r) p k) (sym s.entries) (sym s.acts)

  -- ---- all that a driver can do

  -- of more steps that are asked for it does as many
  any_most : (a : Acts) (p : Progress) (k m n : ℕ) → m ≤ n → DoesAll a p k m → DoesSteps a p k n m
  any_most a p k m n few d = record {
    most = few;
    exist = d.exist;
    now = d.now;
    stuck = λ less. d.stuck (omega arith);
  }

  pub record IsSameRound (p q s : Progress) : Type 0 where
    pub progress : q ≡ s
    pub bits : q.bits ≡ p.bits
    pub long : length q.done ≡ length plan.nodes
    pub together : Both plan r q.bits (steps_done q)

  pub all_turn : (p : Progress) (k m n : ℕ) → length p.done ≡ length plan.nodes → Both plan r p.bits (steps_done p) →
      DoesAll (one plan r) p k m → DoesAll (two plan r) p k n → IsSameRound p (with_steps p k m) (with_steps p k n)
  all_turn p k m n long t a b =
      let x = node_turn plan r p k (m + n) m n long t (any_most (one plan r) p k m (m + n) (omega arith) a)
      (any_most (two plan r) p k n (m + n) (omega arith) b) in record {
        progress = x.same;
        bits = refl;
        long = steps_long p k m ∙ long;
        together = x.together;
      }

  pub all_round : (k : ℕ) (p q s : Progress) → length p.done ≡ length plan.nodes →
      Both plan r p.bits (steps_done p) → AllDo (one plan r) k p q → AllDo (two plan r) k p s → IsSameRound p q s
  all_round k p q s long t (no_node_more _ _ past) (no_node_more _ _ also) =
      record { progress = refl; bits = refl; long = long; together = t }
  all_round k p q s long t (no_node_more _ _ past) (one_node _ n _ _ less b more) = absurd (omega (arith, past, less))
  all_round k p q s long t (one_node _ m _ _ less a rest) (no_node_more _ _ past) = absurd (omega (arith, past, less))
  all_round k p q s long t (one_node _ m _ _ less a rest) (one_node _ n _ _ also b more) =
      let x = all_turn p k m n long t a b in
      let here = subst (λ (o : Progress). AllDo (two plan r) (suc k) o s) (sym x.progress) more in
      let y = all_round (suc k) (with_steps p k m) q s x.long x.together rest here in
      record { progress = y.progress; bits = y.bits ∙ x.bits; long = y.long; together = y.together }
