-- Along the turns of a plan two runs end alike.
use Rattle.std.proofs.Common.{◌≡◌, ◌≤◌, ◌+◌, ℕ, List, ◌∷◌, refl, sym, ap, ◌∙◌, subst, arith, inl, inr}
use Rattle.std.proofs.lemmas.Bool.{cases_lt}
use Rattle.sja_plan.specs.Plan.{PlanValue}
use Rattle.sja_plan.specs.declared.turn.Turn.{Turn}
use Rattle.sja_plan.specs.declared.turn.Turn.TheVariants.{Bus, Rest, Go}
use Rattle.sja_log.specs.declared.end.End.{End}
use Rattle.sja_promises.specs.Turns.{Progress, RunsTo, steps_done, with_bits, with_steps}
use Rattle.sja_promises.specs.Turns.RunsTo.{all_done, bus, bus_spent, rest, rest_spent, node, irq, irq_spent, go}
use Rattle.sja_promises.specs.Turns.RunsTo.{go_over}
use Rattle.sja_promises.specs.Turns.RunsTo.{all as all_steps}
use Rattle.sja_laws.proofs.AllNodes.Bits.{TwoRuns}
use Rattle.sja_laws.proofs.WholeRun.Lines.{IsSameRound, all_round, all_turn, line_here, line_there}
use Rattle.sja_laws.proofs.WholeRun.Progressing.{steps_long}
use Rattle.sja_laws.proofs.WholeRun.Turns.{Both, IsSameEnd, Known, after_bits, before_spent, node_turn, one, rest_here}
use Rattle.sja_laws.proofs.WholeRun.Turns.{rest_there, spent, spent_before, two}

module _ (plan : PlanValue) (r : TwoRuns plan) where
  -- the same after so many bits
  known_on : (p q s : Progress) (n : ℕ) → Known plan r p q s → p.bits + n ≤ plan.bits →
      Both plan r (p.bits + n) (steps_done p) → Known plan r (with_bits p n) q s
  known_on p q s n k within t = record {
    few = within;
    long = k.long;
    done = k.done;
    also = k.also;
    bits = k.bits;
    spent_bits = k.spent_bits;
    together = t;
  }

  -- where the bits are spent
  ends_spent : (p : Progress) → Known plan r p (record p { bits = plan.bits }) (record p { bits = plan.bits }) →
      (e : End) → IsSameEnd plan r (record p { bits = plan.bits }) (record p { bits = plan.bits }) e e
  ends_spent p k e = record {
    progress = refl;
    ends = refl;
    together = spent plan r p k.together k.few k.bits k.spent_bits k.done k.also;
  }

  -- the same where drivers did all that they could
  known_round : (p q s m n : Progress) → Known plan r p q s → IsSameRound plan r p m n → Known plan r m q s
  known_round p q s m n k t = let b = t.bits in let few = k.few in record {
    few = omega (arith, b, few);
    long = t.long;
    done = k.done;
    also = k.also;
    bits = k.bits;
    spent_bits = k.spent_bits;
    together = t.together;
  }

  pub same_end : (p q s : Progress) (turns : List Turn) (e f : End) → RunsTo (one plan r) p turns q e →
      RunsTo (two plan r) p turns s f → Known plan r p q s → IsSameEnd plan r q s e f
  same_end p q s _ e f (all_done _) (all_done _) k = record { progress = refl; ends = refl; together = k.together }
  same_end p q s _ e f (bus _ _ n turns _ within h) (bus _ _ _ _ _ inside g) k =
      same_end (with_bits p n) q s turns e f h g
      (known_on p q s n k within
      (after_bits plan r p q s n n n turns e f k within inside h g (omega arith) (omega arith)))
  same_end p q s _ e f (bus _ _ n turns _ within h) (bus_spent _ _ _ late) k = absurd (omega (arith, within, late))
  same_end p q s _ e f (bus_spent _ n turns late) (bus _ _ _ _ _ within h) k = absurd (omega (arith, within, late))
  same_end p q s _ e f (bus_spent _ n turns late) (bus_spent _ _ _ later) k = ends_spent p k e
  same_end p q s _ e f (rest _ _ n turns _ within busy still h) (rest _ _ m _ _ inside working calm g) k =
      elim (cases_lt n m) [
        | inl fewer ↦
            let t = after_bits plan r p q s n n m turns e f k within inside h g (omega arith) (omega (arith, fewer)) in
            absurd (working n fewer (rest_there plan r p (p.bits + n) t still))
        | inr more ↦ elim (cases_lt m n) [
          | inl fewer ↦
              let t = after_bits plan r p q s m n m turns e f k within inside h g (omega (arith, fewer))
              (omega arith) in
              absurd (busy m fewer (rest_here plan r p (p.bits + m) t calm))
          | inr less ↦
              let same : m ≡ n = omega (arith, more, less) in
              let G : ℕ → Type 0 = λ x. RunsTo (two plan r) (with_bits p x) turns s f in
              let I : ℕ → Type 0 = λ x. p.bits + x ≤ plan.bits in
              let go = subst G same g in
              same_end (with_bits p n) q s turns e f h go
              (known_on p q s n k within
              (after_bits plan r p q s n n n turns e f k within (subst I same inside) h go (omega arith) (omega arith)))
        ]
      ]
  same_end p q s _ e f (rest _ _ n turns _ within busy still h) (rest_spent _ _ never) k =
      let t = before_spent plan r p q s n turns e k within h refl in
      absurd (never (p.bits + n) (omega arith) within (rest_there plan r p (p.bits + n) t still))
  same_end p q s _ e f (rest_spent _ turns never) (rest _ _ n _ _ within busy still h) k =
      let t = spent_before plan r p q s n turns f k within h refl in
      absurd (never (p.bits + n) (omega arith) within (rest_here plan r p (p.bits + n) t still))
  same_end p q s _ e f (rest_spent _ turns never) (rest_spent _ _ again) k = ends_spent p k e
  same_end p q s _ e f (node _ _ a n m turns _ does h) (node _ _ _ _ c _ _ did g) k =
      let t = node_turn plan r p a n m c k.long k.together does did in
      let G : Progress → Type 0 = λ x. RunsTo (two plan r) x turns s f in
      same_end (with_steps p a m) q s turns e f h (subst G (sym t.same) g) (record {
        few = k.few;
        long = steps_long p a m ∙ k.long;
        done = k.done;
        also = k.also;
        bits = k.bits;
        spent_bits = k.spent_bits;
        together = t.together;
      })
  same_end p q s _ e f (all_steps _ _ a m turns _ does h) (all_steps _ _ _ c _ _ did g) k =
      let t = all_turn plan r p a m c k.long k.together does did in
      let G : Progress → Type 0 = λ x. RunsTo (two plan r) x turns s f in
      same_end (with_steps p a m) q s turns e f h (subst G (sym t.progress) g)
      (known_round p q s (with_steps p a m) (with_steps p a c) k t)
  same_end p q s _ e f (irq _ _ a most n turns _ within few down up h) (irq _ _ _ _ m _ _ inside less dark bright g) k =
      elim (cases_lt n m) [
        | inl fewer ↦
            let t = after_bits plan r p q s n n m turns e f k within inside h g (omega arith) (omega (arith, fewer)) in
            absurd (elim up [
              | inl is ↦ omega (arith, is, fewer, less)
              | inr now ↦ line_here plan r p a (p.bits + n) k.long t (dark n fewer) now
            ])
        | inr more ↦ elim (cases_lt m n) [
          | inl fewer ↦
              let t = after_bits plan r p q s m n m turns e f k within inside h g (omega (arith, fewer))
              (omega arith) in
              absurd (elim bright [
                | inl is ↦ omega (arith, is, fewer, few)
                | inr now ↦ line_there plan r p a (p.bits + m) k.long t (down m fewer) now
              ])
          | inr least ↦
              let same : m ≡ n = omega (arith, more, least) in
              let G : ℕ → Type 0 = λ x. RunsTo (two plan r) (with_bits p x) turns s f in
              let I : ℕ → Type 0 = λ x. p.bits + x ≤ plan.bits in
              let go_on = subst G same g in
              same_end (with_bits p n) q s turns e f h go_on
              (known_on p q s n k within
              (after_bits plan r p q s n n n turns e f k within (subst I same inside) h go_on (omega arith)
              (omega arith)))
        ]
      ]
  same_end p q s _ e f (irq _ _ a most n turns _ within few down up h) (irq_spent _ _ _ _ late dark) k =
      let t = before_spent plan r p q s n turns e k within h refl in
      absurd (elim up [
        | inl is ↦ omega (arith, is, within, late)
        | inr now ↦ line_here plan r p a (p.bits + n) k.long t (dark (p.bits + n) (omega arith) within) now
      ])
  same_end p q s _ e f (irq_spent _ a most turns late dark) (irq _ _ _ _ n _ _ within few down up g) k =
      let t = spent_before plan r p q s n turns f k within g refl in
      absurd (elim up [
        | inl is ↦ omega (arith, is, within, late)
        | inr now ↦ line_there plan r p a (p.bits + n) k.long t (dark (p.bits + n) (omega arith) within) now
      ])
  same_end p q s _ e f (irq_spent _ a most turns late dark) (irq_spent _ _ _ _ later down) k = ends_spent p k e
  same_end p q s _ e f (go _ m _ turns _ round some h) (go _ n _ _ _ around left g) k =
      let t = all_round plan r 0 p m n k.long k.together round around in
      let G : Progress → Type 0 = λ x. RunsTo (two plan r) x (Bus 1 ∷ Go ∷ turns) s f in
      same_end m q s (Bus 1 ∷ Go ∷ turns) e f h (subst G (sym t.progress) g) (known_round p q s m n k t)
  same_end p q s _ e f (go _ m _ turns _ round some h) (go_over _ n _ _ _ around none g) k =
      let t = all_round plan r 0 p m n k.long k.together round around in
      let done = ap (λ (o : Progress). steps_done o some.0) t.progress in let left = some.2 in
      let over = none some.0 some.1 in absurd (omega (arith, done, left, over))
  same_end p q s _ e f (go_over _ m _ turns _ round none h) (go _ n _ _ _ around some g) k =
      let t = all_round plan r 0 p m n k.long k.together round around in
      let done = ap (λ (o : Progress). steps_done o some.0) t.progress in let left = some.2 in
      let over = none some.0 some.1 in absurd (omega (arith, done, left, over))
  same_end p q s _ e f (go_over _ m _ turns _ round none h) (go_over _ n _ _ _ around over g) k =
      let t = all_round plan r 0 p m n k.long k.together round around in
      let G : Progress → Type 0 = λ x. RunsTo (two plan r) x (Rest ∷ turns) s f in
      same_end m q s (Rest ∷ turns) e f h (subst G (sym t.progress) g) (known_round p q s m n k t)
