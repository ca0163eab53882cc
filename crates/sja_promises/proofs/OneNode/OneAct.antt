-- Acts that are one, or none.
use Rattle.std.proofs.Common.{◌≡◌, List, [], ◌∷◌, ◌++◌, map, refl, subst, append-nil}
use Rattle.sja_journal.specs.declared.entry.Entry.{Entry}
use Rattle.sja_regs.specs.declared.registers.Registers.{Registers}
use Rattle.sja_steps.specs.declared.step.Step.{Step}
use Rattle.sja_steps.specs.declared.step_answer.StepAnswer.{StepAnswer}
use Rattle.sja_driver.specs.TypedActs.{TypedAct}
use Rattle.sja_promises.specs.Registering.{IsPortAct, LeadOn}
use Rattle.sja_promises.specs.Registering.LeadOn.{nothing_more, one_more}

not_last : {A : Type 0} (xs : List A) (x : A) → xs ++ x ∷ [] ≡ [] → ⊥
not_last [] x e = absurd cc
not_last (y ∷ xs) x e = absurd cc

last_alone : {A : Type 0} (xs : List A) (x y : A) → xs ++ x ∷ [] ≡ y ∷ [] → (xs ≡ []) × (x ≡ y)
last_alone [] x y e = (refl, cc)
last_alone (z ∷ xs) x y e = elim (not_last xs x (behind e)) [ ]
  where
    behind : z ∷ (xs ++ x ∷ []) ≡ y ∷ [] → xs ++ x ∷ [] ≡ []
    behind e = cc

-- none lead nowhere else
lead_none : {before : List TypedAct} {j k : List Entry} {p q : Registers} {acts : List TypedAct} →
    LeadOn before j p acts k q → acts ≡ [] → (k ≡ j) × (q ≡ p)
lead_none nothing_more e = (refl, refl)
lead_none (one_more acts d k l q r led port) e = elim (not_last acts d e) [ ]

-- one is done at the port as it was
pub lead_one : {before : List TypedAct} {j k : List Entry} {p q : Registers} {acts : List TypedAct} {d : TypedAct} →
    LeadOn before j p acts k q → acts ≡ d ∷ [] → IsPortAct p q j k before d
lead_one nothing_more e = absurd cc
lead_one {before} {j} {p = p} (one_more acts e k l q r led port) is =
    let alone = last_alone acts e _ is in let first = lead_none led alone.0 in
    subst (λ (d : TypedAct). IsPortAct p r j l before d) alone.1
    (subst (λ (x : List TypedAct). IsPortAct p r j l x e) (append-nil before)
    (subst (λ (x : Registers). IsPortAct x r j l (before ++ []) e) first.1
    (subst (λ (x : List Entry). IsPortAct q r x l (before ++ []) e) first.0
    (subst (λ (x : List TypedAct). IsPortAct q r k l (before ++ x) e) alone.0 port))))

-- of a list of steps that is one, and of answers that is one
pub one_act : (acts : List TypedAct) (s : Step) (a : StepAnswer) → map (λ (d : TypedAct). d.step) acts ≡ s ∷ [] →
    map (λ (d : TypedAct). d.answer) acts ≡ a ∷ [] → (d : TypedAct) × (acts ≡ d ∷ []) × (d.step ≡ s) × (d.answer ≡ a)
one_act [] s a steps answers = absurd cc
one_act (d ∷ []) s a steps answers = (d, refl, cc, cc)
one_act (d ∷ e ∷ acts) s a steps answers = absurd cc
