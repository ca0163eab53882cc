-- Plans that are read under names and then answered, as outcomes of files.
use Rattle.std.proofs.Common.{◌≡◌, ◌<◌, ◌++◌, ℕ, List, [], ◌∷◌, Option, Result, Ok, Err, IfOk, length, get_or, refl}
use Rattle.std.proofs.Common.{suc, sym, ap, subst, arith, inl, inr, ◌+◌, map, take}
use Rattle.std.proofs.lemmas.List.{append-nil, map_more}
use Rattle.std.specs.Borrow.{Bor}
use Rattle.std.specs.List.{AllZip}
use Rattle.sja_command_line.specs.declared.plan_question.PlanQuestion.{PlanQuestion}
use Rattle.sja_command_line.specs.declared.plan_question.PlanQuestion.TheVariants.{Candump, Check, Frames, Picture}
use Rattle.sja_command_line.specs.declared.plan_question.PlanQuestion.TheVariants.{Plan}
use Rattle.sja_command_line.specs.declared.plan_question.PlanQuestion.TheVariants.{Registers, Report, StruckPlan, Sweep}
use Rattle.sja_command_line.specs.declared.plan_question.PlanQuestion.TheVariants.{Trace, Wave}
use Rattle.text_codec.specs.declared.command_refusal.CommandRefusal.TheVariants.{OutOfMemory}
use Rattle.sja_run.specs.Files.{AreOutcomes, IsOutcome, IsUnanswered, IsUnread}
use Rattle.sja_run.specs.Inside.FileReads.{AreReads, ComeOf, ComesOf, IsReadOf, Settles, all_refused}
use Rattle.sja_run.specs.Inside.FileReads.{outcomes_in}
use Rattle.sja_run.specs.declared.file_outcome.FileOutcome.{FileOutcome}
use Rattle.sja_run.specs.declared.file_outcome.FileOutcome.TheVariants.{Printed, Told, Mistaken, Refused, Unreadable}
use Rattle.sja_program.proofs.BytesRead.FewBytes.{few_unchecked}

-- what stands under names
abbrev Holding : Type 1
Holding = List ℕ → Option (List ℕ) → Type 0

-- the names behind references
abbrev texts : List (Bor (List ℕ)) → List (List ℕ)
texts names = map (λ name. name.now) names

-- ---- one file

-- what comes of what was read is what comes of the file
outcome_from : {V : Type 0} (items : V → List ℕ) (Holds : Holding) (q : PlanQuestion) (name : List ℕ)
    (a b : Option (List ℕ)) (read : Result V FileOutcome) (outcome : FileOutcome) →
    IsReadOf items Holds name a b read → ComesOf items q read outcome → IsOutcome Holds q name a b outcome
outcome_from items Holds q name a b (Ok bytes) outcome had answers = inl (items bytes, had, answers)
outcome_from items Holds q name a b (Err given) outcome none is =
    inr (subst (λ (o : FileOutcome). IsUnread Holds name a b o) (sym is) none)

-- memory may be refused, whatever the bytes are
unanswered : (q : PlanQuestion) (bytes : List ℕ) → IsUnanswered q bytes OutOfMemory
unanswered (Report threads) bytes = tt
unanswered (Wave threads) bytes = tt
unanswered (Trace threads) bytes = tt
unanswered (Frames bits threads) bytes = tt
unanswered (Picture first last svg threads meant) bytes = tt
unanswered (Candump errors threads) bytes = tt
unanswered (Sweep w) bytes = tt
unanswered (StruckPlan node bit) bytes = tt
unanswered (Check strict) bytes = refl
unanswered (Registers bit) bytes = tt
unanswered Plan bytes = tt

-- and whatever was read
refused_anyway : {V : Type 0} (items : V → List ℕ) (Holds : Holding) (q : PlanQuestion) (name : List ℕ)
    (a b : Option (List ℕ)) (read : Result V FileOutcome) → IsReadOf items Holds name a b read →
    IsOutcome Holds q name a b (Refused OutOfMemory)
refused_anyway items Holds q name a b (Ok bytes) had =
    inl (items bytes, had, unanswered q (items bytes))
refused_anyway items Holds q name a b (Err Unreadable) none = inr (inr (refl, none.2))
refused_anyway items Holds q name a b (Err (Refused r)) (inl none) = inr (inl (none.0, few_unchecked a b r none.1))
refused_anyway items Holds q name a b (Err (Refused r)) (inr none) = inr (inr (refl, none.1))
refused_anyway items Holds q name a b (Err (Printed text)) none = absurd none
refused_anyway items Holds q name a b (Err (Told text)) none = absurd none
refused_anyway items Holds q name a b (Err (Mistaken text)) none = absurd none

-- ---- several files

-- what comes of what was read, one after another
pub outcomes_from : {V : Type 0} (items : V → List ℕ) (Holds : Holding) (q : PlanQuestion) (names : List (List ℕ))
    (a b : Option (List ℕ)) (reads : List (Result V FileOutcome)) (outcomes : List FileOutcome) →
    AreReads items Holds names a b reads → ComeOf items q reads outcomes → AreOutcomes Holds q names a b outcomes
outcomes_from items Holds q [] a b [] [] are come = are
outcomes_from items Holds q [] a b [] (o ∷ os) are come = absurd come
outcomes_from items Holds q [] a b (r ∷ rs) os are come = absurd are
outcomes_from items Holds q (n ∷ ns) a b [] os are come = absurd are
outcomes_from items Holds q (n ∷ ns) a b (r ∷ rs) [] are come = absurd come
outcomes_from items Holds q (n ∷ ns) a b (r ∷ rs) (o ∷ os) are come = (
  are.0,
  outcome_from items Holds q n a are.0 r o are.1 come.0,
  outcomes_from items Holds q ns are.0 b rs os are.2 come.1,
)

-- memory is refused for all of them
pub refused_reads : {V : Type 0} (items : V → List ℕ) (Holds : Holding) (q : PlanQuestion) (names : List (List ℕ))
    (a b : Option (List ℕ)) (reads : List (Result V FileOutcome)) → AreReads items Holds names a b reads →
    AreOutcomes Holds q names a b (all_refused names)
refused_reads items Holds q [] a b [] are = are
refused_reads items Holds q [] a b (r ∷ rs) are = absurd are
refused_reads items Holds q (n ∷ ns) a b [] are = absurd are
refused_reads items Holds q (n ∷ ns) a b (r ∷ rs) are = (
  are.0,
  refused_anyway items Holds q n a are.0 r are.1,
  refused_reads items Holds q ns are.0 b rs are.2,
)

-- and so it is before anything was read
pub refused_unread : (Holds : Holding) (q : PlanQuestion) (names : List (List ℕ)) (a b : Option (List ℕ)) → b ≡ a →
    AreOutcomes Holds q names a b (all_refused names)
refused_unread Holds q [] a b same = same
refused_unread Holds q (n ∷ ns) a b same = (a, inr (inr (refl, refl)), refused_unread Holds q ns a b same)

-- what comes of what was read, where memory isn't refused for all of them
pub outcomes_by : {V W E : Type 0} (items : V → List ℕ) (held : W → List FileOutcome) (Holds : Holding)
    (q : PlanQuestion) (names : List (List ℕ)) (a b : Option (List ℕ)) (reads : List (Result V FileOutcome))
    (came : Result W E) → AreReads items Holds names a b reads →
    IfOk came (λ outcomes. ComeOf items q reads (held outcomes)) →
    AreOutcomes Holds q names a b (outcomes_in held names came)
outcomes_by items held Holds q names a b reads (Ok outcomes) are come =
    outcomes_from items Holds q names a b reads (held outcomes) are come
outcomes_by items held Holds q names a b reads (Err refused) are come = refused_reads items Holds q names a b reads are

-- one more is read
pub reads_push : {V : Type 0} (items : V → List ℕ) (Holds : Holding) (names : List (List ℕ)) (name : List ℕ)
    (a b c : Option (List ℕ)) (reads : List (Result V FileOutcome)) (read : Result V FileOutcome) →
    AreReads items Holds names a b reads → IsReadOf items Holds name b c read →
    AreReads items Holds (names ++ name ∷ []) a c (reads ++ read ∷ [])
reads_push items Holds [] name a b c [] read are one =
    (c, subst (λ (i : Option (List ℕ)). IsReadOf items Holds name i c read) are one, refl)
reads_push items Holds [] name a b c (r ∷ rs) read are one = absurd are
reads_push items Holds (n ∷ ns) name a b c [] read are one = absurd are
reads_push items Holds (n ∷ ns) name a b c (r ∷ rs) read are one =
    (are.0, are.1, reads_push items Holds ns name are.0 b c rs read are.2 one)

-- one more, by its number
pub reads_more : {V : Type 0} (items : V → List ℕ) (Holds : Holding) (names : List (Bor (List ℕ))) (i : ℕ)
    (d : Bor (List ℕ)) (a b c : Option (List ℕ)) (reads : List (Result V FileOutcome)) (read : Result V FileOutcome) →
    i < length names → AreReads items Holds (texts (take i names)) a b reads →
    IsReadOf items Holds (get_or names i d).now b c read →
    AreReads items Holds (texts (take (i + 1) names)) a c (reads ++ read ∷ [])
reads_more items Holds names i d a b c reads read within so_far this =
    let more = map_more (λ (name : Bor (List ℕ)). name.now) names i d within in
    subst (λ (l : List (List ℕ)). AreReads items Holds l a c (reads ++ read ∷ [])) (sym more)
    (reads_push items Holds (texts (take i names)) (get_or names i d).now a b c reads read so_far this)

-- outcomes of some files, and then of others
pub outcomes_both : (Holds : Holding) (q : PlanQuestion) (ns ms : List (List ℕ)) (a b c : Option (List ℕ))
    (os ps : List FileOutcome) → AreOutcomes Holds q ns a b os → AreOutcomes Holds q ms b c ps →
    AreOutcomes Holds q (ns ++ ms) a c (os ++ ps)
outcomes_both Holds q [] ms a b c [] ps some more =
    subst (λ (i : Option (List ℕ)). AreOutcomes Holds q ms i c ps) some more
outcomes_both Holds q [] ms a b c (o ∷ os) ps some more = absurd some
outcomes_both Holds q (n ∷ ns) ms a b c [] ps some more = absurd some
outcomes_both Holds q (n ∷ ns) ms a b c (o ∷ os) ps some more =
    (some.0, some.1, outcomes_both Holds q ns ms some.0 b c os ps some.2 more)

-- there is one of each
pub as_many : (Holds : Holding) (q : PlanQuestion) (ns : List (List ℕ)) (a b : Option (List ℕ))
    (os : List FileOutcome) → AreOutcomes Holds q ns a b os → length os ≡ length ns
as_many Holds q [] a b [] are = refl
as_many Holds q [] a b (o ∷ os) are = absurd are
as_many Holds q (n ∷ ns) a b [] are = absurd are
as_many Holds q (n ∷ ns) a b (o ∷ os) are = ap suc (as_many Holds q ns are.0 b os are.2)

-- ---- what comes of them, one after another

-- whatever comes of the rest, this comes of all of them
abbrev pub ComeSoFar : {V : Type 0} → (V → List ℕ) → PlanQuestion → List (Result V FileOutcome) →
    List (Result V FileOutcome) → List FileOutcome → Type 0
ComeSoFar items q all rest done =
    (outcomes : List FileOutcome) → ComeOf items q rest outcomes → ComeOf items q all (done ++ outcomes)

-- none is left
pub come_all : {V : Type 0} (items : V → List ℕ) (q : PlanQuestion) (all rest : List (Result V FileOutcome))
    (done : List FileOutcome) → length rest ≡ 0 → ComeSoFar items q all rest done → ComeOf items q all done
come_all items q all [] done none so_far = subst (ComeOf items q all) (append-nil done) (so_far [] tt)
come_all items q all (r ∷ rs) done none so_far = absurd (omega (arith, none))

-- what comes of those that stand for them
pub come_settled : {V : Type 0} (items : V → List ℕ) (q : PlanQuestion) (before after : List (Result V FileOutcome))
    (outcomes : List FileOutcome) → AllZip (Settles items q) before after → ComeOf items q after outcomes →
    ComeOf items q before outcomes
come_settled items q [] [] [] settled come = tt
come_settled items q [] [] (o ∷ os) settled come = absurd come
come_settled items q [] (x ∷ xs) os settled come = absurd settled
come_settled items q (r ∷ rs) [] os settled come = absurd settled
come_settled items q (r ∷ rs) (x ∷ xs) [] settled come = absurd come
come_settled items q (r ∷ rs) (x ∷ xs) (o ∷ os) settled come =
    (settled.0 o come.0, come_settled items q rs xs os settled.1 come.1)

-- none of them came yet
pub settled_as : {V : Type 0} (items : V → List ℕ) (q : PlanQuestion)
    (all before after rest : List (Result V FileOutcome)) (done : List FileOutcome) → before ≡ all →
    rest ≡ after → done ≡ [] → AllZip (Settles items q) before after → ComeSoFar items q all rest done
settled_as {V} items q all before after rest done same is none settled os come =
    subst (λ (l : List FileOutcome). ComeOf items q all (l ++ os)) (sym none)
    (subst (λ (l : List (Result V FileOutcome)). ComeOf items q l os) same
    (come_settled items q before after os settled
    (subst (λ (l : List (Result V FileOutcome)). ComeOf items q l os) is come)))

-- each stands for itself
pub settled_alone : {V : Type 0} (items : V → List ℕ) (q : PlanQuestion) (reads : List (Result V FileOutcome)) →
    AllZip (Settles items q) reads reads
settled_alone items q [] = tt
settled_alone items q (r ∷ rs) = ((λ outcome come. come), settled_alone items q rs)

-- each stands for what is at its place
pub settled_from : {V : Type 0} (items : V → List ℕ) (q : PlanQuestion) (xs ys : List (Result V FileOutcome)) →
    length ys ≡ length xs →
    ((i : ℕ) (d : Result V FileOutcome) → i < length xs → (a b : Result V FileOutcome) × (a ≡ get_or xs i d)
    × (b ≡ get_or ys i d) × Settles items q a b) → AllZip (Settles items q) xs ys
settled_from items q [] [] len each = tt
settled_from items q [] (y ∷ ys) len each = absurd (omega (arith, len))
settled_from items q (x ∷ xs) [] len each = absurd (omega (arith, len))
settled_from {V} items q (x ∷ xs) (y ∷ ys) len each =
    let first = each 0 x (omega arith) in (
      (λ outcome come. subst (λ (r : Result V FileOutcome). ComesOf items q r outcome) first.2
          (first.4 outcome (subst (λ (r : Result V FileOutcome). ComesOf items q r outcome) (sym first.3) come))),
      settled_from items q xs ys (omega (arith, len)) (λ i d less. each (suc i) d (omega (arith, less))),
    )
