-- Steps that aren't done yet come after all bits that were run.
use Rattle.std.proofs.Common.{◌≡◌, ◌<◌, ◌≤◌, ◌+◌, ◌-◌, ℕ, suc, List, ◌∷◌, length, refl, sym, ap, ◌∙◌, subst}
use Rattle.std.proofs.Common.{arith, inl, inr}
use Rattle.std.specs.Prelude.{slice_index_or}
use Rattle.std.proofs.lemmas.Bool.{cases_eq, cases_lt}
use Rattle.sja_plan.specs.declared.turn.Turn.{Turn}
use Rattle.sja_plan.specs.declared.turn.Turn.TheVariants.{Bus, Rest, Go}
use Rattle.sja_driver.specs.StepRuns.{StepRun}
use Rattle.sja_log.specs.declared.end.End.{End}
use Rattle.sja_promises.specs.Turns.{Acts, AllDo, Progress, RunsTo, DoesSteps, all_step_runs, steps_done, with_bits}
use Rattle.sja_promises.specs.Turns.{with_steps}
use Rattle.sja_promises.specs.Turns.AllDo.{no_node_more, one_node}
use Rattle.sja_promises.specs.Turns.RunsTo.{all_done, bus, bus_spent, rest, rest_spent, node, irq, irq_spent, go}
use Rattle.sja_promises.specs.Turns.RunsTo.{go_over}
use Rattle.sja_promises.specs.Turns.RunsTo.{all as all_steps}
use Rattle.sja_laws.proofs.WholeRun.Progressing.{steps_same, steps_other, steps_long}

-- the bits don't fall, and aren't more than the plan has
pub record Rises (p q : Progress) (most : ℕ) : Type 0 where
  pub more : p.bits ≤ q.bits
  pub most_bits : q.bits ≤ most

-- a round runs no bit
pub round_bits : (r : Acts) (k : ℕ) (p q : Progress) → AllDo r k p q → p.bits ≡ q.bits
round_bits r k p q (no_node_more _ _ past) = refl
round_bits r k p q (one_node _ m _ _ less does on) = round_bits r (suc k) (with_steps p k m) q on

round_long : (r : Acts) (k : ℕ) (p q : Progress) → AllDo r k p q → length q.done ≡ length p.done
round_long r k p q (no_node_more _ _ past) = refl
round_long r k p q (one_node _ m _ _ less does on) =
    round_long r (suc k) (with_steps p k m) q on ∙ steps_long p k m

-- what follows a round rises
rises_round : (p m q : Progress) (most : ℕ) → p.bits ≡ m.bits → Rises m q most → Rises p q most
rises_round p m q most same x = let r = x.more in record { more = omega (arith, same, r); most_bits = x.most_bits }

pub rises : (r : Acts) (p q : Progress) (turns : List Turn) (e : End) → RunsTo r p turns q e →
    p.bits ≤ r.plan.bits → Rises p q r.plan.bits
rises r p q _ _ (all_done _) few = record { more = omega arith; most_bits = few }
rises r p q _ e (bus _ _ n turns _ within h) few =
    let x = rises r (with_bits p n) q turns e h within in
    let m = x.more in
    record { more = omega (arith, m); most_bits = x.most_bits }
rises r p q _ _ (bus_spent _ n turns late) few = record { more = few; most_bits = omega arith }
rises r p q _ e (rest _ _ n turns _ within busy still h) few =
    let x = rises r (with_bits p n) q turns e h within in
    let m = x.more in
    record { more = omega (arith, m); most_bits = x.most_bits }
rises r p q _ _ (rest_spent _ turns busy) few = record { more = few; most_bits = omega arith }
rises r p q _ e (node _ _ k n m turns _ does h) few =
    let x = rises r (with_steps p k m) q turns e h few in
    record { more = x.more; most_bits = x.most_bits }
rises r p q _ e (all_steps _ _ k m turns _ does h) few =
    let x = rises r (with_steps p k m) q turns e h few in
    record { more = x.more; most_bits = x.most_bits }
rises r p q _ e (irq _ _ k most n turns _ within fewer down up h) few =
    let x = rises r (with_bits p n) q turns e h within in
    let m = x.more in
    record { more = omega (arith, m); most_bits = x.most_bits }
rises r p q _ _ (irq_spent _ k most turns late down) few = record { more = few; most_bits = omega arith }
rises r p q _ e (go _ m _ turns _ round some h) few =
    let same = round_bits r 0 p m round in
    rises_round p m q r.plan.bits same (rises r m q (Bus 1 ∷ Go ∷ turns) e h (omega (arith, few, same)))
rises r p q _ e (go_over _ m _ turns _ round none h) few =
    let same = round_bits r 0 p m round in
    rises_round p m q r.plan.bits same (rises r m q (Rest ∷ turns) e h (omega (arith, few, same)))

-- of a node
abbrev pub LateAt : Acts → ℕ → ℕ → ℕ → Type 0
LateAt r bits k done = (i : ℕ) (d : StepRun) → done ≤ i → i < length (all_step_runs r k) →
    bits ≤ (slice_index_or (all_step_runs r k) i d).bits

none_late : (r : Acts) (bits k done : ℕ) → done ≡ length (all_step_runs r k) → LateAt r bits k done
none_late r bits k done all i d from less = absurd (omega (arith, all, from, less))

late_less : (r : Acts) (bits more k done : ℕ) → bits ≤ more → LateAt r more k done → LateAt r bits k done
late_less r bits more k done few h i d from less = let b = h i d from less in omega (arith, b, few)

late_with : (r : Acts) (p : Progress) (k n m : ℕ) → DoesSteps r p k n m → (now : ℕ) →
    now ≡ steps_done p k + m → LateAt r p.bits k now → LateAt r p.bits k (steps_done p k)
late_with r p k n m does now is h i d from less = elim (cases_lt i (steps_done p k + m)) [
  | inl early ↦
      let at : steps_done p k + (i - steps_done p k) ≡ i = omega (arith, from) in
      let b = ap (λ x. (slice_index_or (all_step_runs r k) x d).bits) (sym at)
      ∙ does.now (i - steps_done p k) d (omega (arith, early, from)) in
      omega (arith, b)
  | inr late ↦ h i d (omega (arith, late, is)) less
]

-- of one node of all, one of which does steps
late_turn : (r : Acts) (p : Progress) (a n m : ℕ) (nodes : ℕ) → DoesSteps r p a n m → length p.done ≡ nodes →
    (k : ℕ) → k < nodes → LateAt r p.bits k (steps_done (with_steps p a m) k) → LateAt r p.bits k (steps_done p k)
late_turn r p a n m nodes does count k few later = elim (cases_eq a k) [
  | inl same ↦
      let P : ℕ → Type 0 = λ x. x < nodes → LateAt r p.bits x (steps_done (with_steps p a m) x) →
      LateAt r p.bits x (steps_done p x) in
      subst P same (λ there late. late_with r p a n m does (steps_done (with_steps p a m) a)
      (steps_same p a m (omega (arith, there, count))) late) few later
  | inr other ↦
      subst (λ x. LateAt r p.bits k x) (steps_other p a k m other) later
]

-- and where all drivers do what they can
late_round : (r : Acts) (nodes a : ℕ) (p q : Progress) → AllDo r a p q → length p.done ≡ nodes →
    (k : ℕ) → k < nodes → LateAt r q.bits k (steps_done q k) → LateAt r p.bits k (steps_done p k)
late_round r nodes a p q (no_node_more _ _ past) count k few later = later
late_round r nodes a p q (one_node _ m _ _ less does on) count k few later =
    late_turn r p a (suc m) m nodes does count k few
    (late_round r nodes (suc a) (with_steps p a m) q on (steps_long p a m ∙ count) k few later)

pub late_from : (r : Acts) (p q : Progress) (turns : List Turn) (e : End) (nodes : ℕ) → RunsTo r p turns q e →
    length p.done ≡ nodes → ((k : ℕ) → k < nodes → steps_done q k ≡ length (all_step_runs r k)) →
    (k : ℕ) → k < nodes → LateAt r p.bits k (steps_done p k)
late_from r p q _ _ nodes (all_done _) count ends k few = none_late r p.bits k (steps_done p k) (ends k few)
late_from r p q _ e nodes (bus _ _ n turns _ within h) count ends k few =
    late_less r p.bits (p.bits + n) k (steps_done p k) (omega arith)
    (late_from r (with_bits p n) q turns e nodes h count ends k few)
late_from r p q _ _ nodes (bus_spent _ n turns late) count ends k few =
    none_late r p.bits k (steps_done p k) (ends k few)
late_from r p q _ e nodes (rest _ _ n turns _ within busy still h) count ends k few =
    late_less r p.bits (p.bits + n) k (steps_done p k) (omega arith)
    (late_from r (with_bits p n) q turns e nodes h count ends k few)
late_from r p q _ _ nodes (rest_spent _ turns busy) count ends k few =
    none_late r p.bits k (steps_done p k) (ends k few)
late_from r p q _ e nodes (node _ _ a n m turns _ does h) count ends k few = late_turn r p a n m nodes does count k few
    (late_from r (with_steps p a m) q turns e nodes h (steps_long p a m ∙ count) ends k few)
late_from r p q _ e nodes (all_steps _ _ a m turns _ does h) count ends k few =
    late_turn r p a (suc m) m nodes does count k few
    (late_from r (with_steps p a m) q turns e nodes h (steps_long p a m ∙ count) ends k few)
late_from r p q _ e nodes (irq _ _ a most n turns _ within fewer down up h) count ends k few =
    late_less r p.bits (p.bits + n) k (steps_done p k) (omega arith)
    (late_from r (with_bits p n) q turns e nodes h count ends k few)
late_from r p q _ _ nodes (irq_spent _ a most turns late down) count ends k few =
    none_late r p.bits k (steps_done p k) (ends k few)
late_from r p q _ e nodes (go _ m _ turns _ round some h) count ends k few =
    late_round r nodes 0 p m round count k few
    (late_from r m q (Bus 1 ∷ Go ∷ turns) e nodes h (round_long r 0 p m round ∙ count) ends k few)
late_from r p q _ e nodes (go_over _ m _ turns _ round none h) count ends k few =
    late_round r nodes 0 p m round count k few
    (late_from r m q (Rest ∷ turns) e nodes h (round_long r 0 p m round ∙ count) ends k few)
