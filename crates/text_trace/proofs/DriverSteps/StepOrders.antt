-- Which of the steps that a driver did stand before a bit, by their order.
use Rattle.std.proofs.Common.{◌≡◌, ℕ, ◌+◌, ◌<◌, ◌≤◌, zero, suc, false, List, [], ◌∷◌, ◌++◌}
use Rattle.std.proofs.Common.{length, drop, get_or, refl, sym, ap, ◌∙◌, subst, arith, append-nil}
use Rattle.std.proofs.lemmas.Bool.{ne_eqb}
use Rattle.std.proofs.Math.ListN.{drop_of_length-le}
use Rattle.sja_steps.specs.declared.step_record.StepRecord.{StepRecord}
use Rattle.sja_steps.specs.declared.step.Step.{Step}
use Rattle.text_trace.specs.TraceText.{is_due, line_where, step_line, steps_due}
use Rattle.text_trace.specs.Inside.StepOrder.{Ascends, ArePast, IsNext}

-- ---- those before a place

-- of later bits too
pub past_later : (few many place : ℕ) (done : List StepRecord) → few ≤ many → ArePast few place done →
    ArePast many place done
past_later few many zero done most past = tt
past_later few many (suc place) [] most past = tt
past_later few many (suc place) (d ∷ done) most past =
    let less = past.0 in (omega (arith, most, less), past_later few many place done most past.1)

-- one more
past_one : (bits place : ℕ) (done : List StepRecord) (d : StepRecord) → place < length done → d ≡ get_or done place d →
    d.bits < bits → ArePast bits place done → ArePast bits (suc place) done
past_one bits place [] d less is few past = absurd (omega (arith, less))
past_one bits zero (x ∷ done) d less is few past =
    let P : StepRecord → Type 0 = λ y. y.bits < bits in (subst P is few, tt)
past_one bits (suc place) (x ∷ done) d less is few past =
    (past.0, past_one bits place done d (omega (arith, less)) is few past.1)

pub past_more : (bits place : ℕ) (done : List StepRecord) (d : StepRecord) → place < length done →
    d ≡ get_or done place d →
    d.bits < bits → ArePast bits place done → ArePast bits (place + 1) done
past_more bits place done d less is few past =
    let one : suc place ≡ place + 1 = omega arith in
    let P : ℕ → Type 0 = λ p. ArePast bits p done in subst P one (past_one bits place done d less is few past)

-- none of them stands before the bit
none_left : (bit node n : ℕ) (steps : List Step) → steps_due false bit node n steps [] ≡ []
none_left bit node n [] = refl
none_left bit node n (s ∷ steps) = refl

not_due : (bit before : ℕ) (text : List ℕ) → (before ≡ bit → ⊥) → line_where (is_due false bit before) text ≡ []
not_due bit before text other = ap (λ b. line_where b text) (ne_eqb before bit other)

pub past_none : (bit node place n : ℕ) (steps : List Step) (done : List StepRecord) → ArePast bit place done →
    steps_due false bit node n steps done ≡ steps_due false bit node (place + n) (drop place steps) (drop place done)
past_none bit node zero n steps done past =
    let none : n ≡ zero + n = omega arith in ap (λ m. steps_due false bit node m steps done) none
past_none bit node (suc place) n [] done past = refl
past_none bit node (suc place) n (s ∷ steps) [] past =
    sym (none_left bit node (suc place + n) (drop place steps))
past_none bit node (suc place) n (s ∷ steps) (d ∷ done) past =
    let less = past.0 in
    let one : place + (n + 1) ≡ suc place + n = omega arith in
    ap (λ t. t ++ steps_due false bit node (n + 1) steps done)
    (not_due bit d.bits (step_line node n s d) (λ same. absurd (omega (arith, less, same))))
    ∙ past_none bit node place (n + 1) steps done past.1
    ∙ ap (λ m. steps_due false bit node m (drop place steps) (drop place done)) one

-- ---- those from a place on

-- they ascend
pub ascends_at : (least place : ℕ) (done : List StepRecord) (d : StepRecord) → place < length done →
    d ≡ get_or done place d →
    Ascends least done → Ascends d.bits (drop place done)
ascends_at least place [] d less is ascends = absurd (omega (arith, less))
ascends_at least zero (x ∷ done) d less is ascends =
    let same = ap (λ (y : StepRecord). y.bits) is in (omega (arith, same), ascends.1)
ascends_at least (suc place) (x ∷ done) d less is ascends =
    ascends_at x.bits place done d (omega (arith, less)) is ascends.1

-- none of them stands before a bit that is before the first one
none_ascends : (bit node n least : ℕ) (steps : List Step) (done : List StepRecord) → bit < least → Ascends least done →
    steps_due false bit node n steps done ≡ []
none_ascends bit node n least [] done early ascends = refl
none_ascends bit node n least (s ∷ steps) [] early ascends = refl
none_ascends bit node n least (s ∷ steps) (d ∷ done) early ascends =
    let most = ascends.0 in
    ap (λ t. t ++ steps_due false bit node (n + 1) steps done)
    (not_due bit d.bits (step_line node n s d) (λ same. absurd (omega (arith, early, most, same))))
    ∙ none_ascends bit node (n + 1) d.bits steps done (omega (arith, early, most)) ascends.1

-- ---- the loops

-- the text of those that aren't past is the whole
pub put_first : (bit node place : ℕ) (steps : List Step) (done : List StepRecord) (old : List ℕ) →
    ArePast bit place done →
    old ++ steps_due false bit node (place + 1) (drop place steps) (drop place done)
    ≡ old ++ steps_due false bit node 1 steps done
put_first bit node place steps done old past =
    ap (λ t. old ++ t) (sym (past_none bit node place 1 steps done past))

-- the step at hand has more bits before it than the bit, and so have those after it
pub put_early : (bit node place : ℕ) (steps : List Step) (done : List StepRecord) (d : StepRecord)
    (text whole : List ℕ) →
    place < length done → d ≡ get_or done place d → bit < d.bits → Ascends 0 done →
    text ++ steps_due false bit node (place + 1) (drop place steps) (drop place done) ≡ whole → text ≡ whole
put_early bit node place steps done d text whole less is early ascends so_far =
    sym (append-nil text)
    ∙ ap (λ t. text ++ t)
    (sym (none_ascends bit node (place + 1) d.bits (drop place steps) (drop place done) early
    (ascends_at 0 place done d less is ascends)))
    ∙ so_far

-- ---- bits without a step

-- before the next step
pub quiet_before : (bit i node place : ℕ) (steps : List Step) (done : List StepRecord) (d : StepRecord) →
    ArePast bit place done →
    bit ≤ i → place < length done → d ≡ get_or done place d → i < d.bits → Ascends 0 done →
    steps_due false i node 1 steps done ≡ []
quiet_before bit i node place steps done d past from less is early ascends =
    past_none i node place 1 steps done (past_later bit i place done from past)
    ∙ none_ascends i node (place + 1) d.bits (drop place steps) (drop place done) early
    (ascends_at 0 place done d less is ascends)

-- and behind the last one
pub quiet_end : (bit i node place : ℕ) (steps : List Step) (done : List StepRecord) → ArePast bit place done → bit ≤ i →
    length done ≤ place → steps_due false i node 1 steps done ≡ []
quiet_end bit i node place steps done past from all =
    past_none i node place 1 steps done (past_later bit i place done from past)
    ∙ ap (steps_due false i node (place + 1) (drop place steps)) (drop_of_length-le done all)
    ∙ none_left i node (place + 1) (drop place steps)

-- by the bits before the step at the next place
pub next_at : (place : ℕ) (done : List StepRecord) (d : StepRecord) → place < length done → d ≡ get_or done place d →
    IsNext d.bits place done
next_at zero [] d less is = tt
next_at zero (x ∷ done) d less is = let same = ap (λ (o : StepRecord). o.bits) is in omega (arith, same)
next_at (suc place) [] d less is = tt
next_at (suc place) (x ∷ done) d less is = next_at place done d (omega (arith, less)) is

pub next_none : (next place : ℕ) (done : List StepRecord) → length done ≤ place → IsNext next place done
next_none next zero [] past = tt
next_none next zero (x ∷ done) past = absurd (omega (arith, past))
next_none next (suc place) [] past = tt
next_none next (suc place) (x ∷ done) past = next_none next place done (omega (arith, past))

-- what stands behind a place that is past all of these
quiet_next : (bit node number least place next : ℕ) (steps : List Step) (done : List StepRecord) →
    ArePast bit place done →
    IsNext next place done → bit < next → Ascends least done → steps_due false bit node number steps done ≡ []
quiet_next bit node number least zero next [] done past is less ascends = refl
quiet_next bit node number least zero next (s ∷ steps) [] past is less ascends = refl
quiet_next bit node number least zero next (s ∷ steps) (d ∷ done) past is less ascends =
    none_ascends bit node number next (s ∷ steps) (d ∷ done) less (is, ascends.1)
quiet_next bit node number least (suc place) next [] done past is less ascends = refl
quiet_next bit node number least (suc place) next (s ∷ steps) [] past is less ascends = refl
quiet_next bit node number least (suc place) next (s ∷ steps) (d ∷ done) past is less ascends =
    let before = past.0 in
    ap (λ t. t ++ steps_due false bit node (number + 1) steps done)
    (not_due bit d.bits (step_line node number s d) (λ same. absurd (omega (arith, before, same))))
    ∙ quiet_next bit node (number + 1) d.bits place next steps done past.1 is less ascends.1

pub quiet_here : (bit bits node place next : ℕ) (steps : List Step) (done : List StepRecord) → ArePast bits place done →
    bits ≤ bit → IsNext next place done → bit < next → Ascends 0 done → steps_due false bit node 1 steps done ≡ []
quiet_here bit bits node place next steps done past from is less ascends =
    quiet_next bit node 1 0 place next steps done (past_later bits bit place done from past) is less ascends
