-- Words that are those of no step.
use Rattle.std.proofs.Common.{◌≡◌, ◌<◌, ◌≤◌, ◌⊎◌, inl, inr, ℕ, List, [], ◌∷◌, length, map, codes, ap, subst}
use Rattle.std.proofs.Common.{◌∙◌, sym, Bor, Option, Some, None, arith}
use Rattle.std.specs.Str.{bytes_eq}
use Rattle.std.proofs.lemmas.Bool.{false≢true}
use Rattle.std.proofs.lemmas.List.{length-map}
use Rattle.sja_plan_reading.specs.Words.{Text, SpellsMessage}
use Rattle.sja_plan_reading.specs.Accesses.{address_of, SpellsAddress, SpellsValue}
use Rattle.sja_plan_reading.specs.Messages.{SaysMessage, SpellsMessageIn}
use Rattle.sja_plan_reading.specs.StepTexts.{AreStepWords}
use Rattle.sja_plan_reading.specs.declared.text_fault.TextFault.{TextFault}
use Rattle.sja_plan_reading.specs.declared.text_fault.TextFault.TheVariants.{Bad, NoMemory}
use Rattle.sja_steps.specs.declared.step.Step.{Step}
use Rattle.sja_steps.specs.declared.step.Step.TheVariants.{Start, Stop, Window, Release, Read}
use Rattle.sja_steps.specs.declared.step.Step.TheVariants.{Write, Load, Command, Await, Sent, Interrupt, At}

-- neither bytes nor notation is no message
pub no_message : (version : ℕ) (word : Text) (e : TextFault) → ((m : List ℕ) → ¬ SpellsMessage word m) →
    (e ≡ Bad) × ((m : List ℕ) → ¬ SaysMessage word m) →
    (e ≡ NoMemory) ⊎ ((e ≡ Bad) × ((m : List ℕ) → ¬ SpellsMessageIn version word m))
no_message version word e digits (bad, notation) = inr (bad, by_case)
  where
    by_case : (m : List ℕ) → ¬ SpellsMessageIn version word m
    by_case m (inl h) = digits m h
    by_case m (inr h) = notation m h.1

no_both : codes "read" ≡ codes "load" → ⊥
no_both e = false≢true (ap (bytes_eq (codes "load")) e)

abbrev unwrap : ℕ → Option ℕ → ℕ
unwrap d None = d
unwrap d (Some n) = n

-- a read of no address
pub no_read : (version : ℕ) (name a : Text) → name ≡ codes "read" → ((n : ℕ) → ¬ SpellsAddress version a n) →
    (s : Step) → ¬ AreStepWords version (name ∷ a ∷ []) s
no_read version name a is none Start = λ h. cc
no_read version name a is none Stop = λ h. cc
no_read version name a is none Window = λ h. cc
no_read version name a is none Release = λ h. cc
no_read version name a is none Sent = λ h. cc
no_read version name a is none Interrupt = λ h. let e = h.1 in cc
no_read version name a is none (At n) = λ h. let e = h.2 in cc
no_read version name a is none (Read n) = λ h.
    let e = h.1 in let same : h.0 ≡ a = cc in none n (subst (λ x. SpellsAddress version x n) same h.2)
no_read version name a is none (Write n v) = λ h. let e = h.2 in cc
no_read version name a is none (Load m) = λ h. let e = h.1 in let same : name ≡ codes "load" = cc in
    no_both (sym is ∙ same)
no_read version name a is none (Command v) = λ h. let e = h.1 in cc
no_read version name a is none (Await n) = λ h. let e = h.1 in cc

-- a load of no message
pub no_load : (version : ℕ) (name w : Text) → name ≡ codes "load" → ((m : List ℕ) → ¬ SpellsMessageIn version w m) →
    (s : Step) → ¬ AreStepWords version (name ∷ w ∷ []) s
no_load version name w is none Start = λ h. cc
no_load version name w is none Stop = λ h. cc
no_load version name w is none Window = λ h. cc
no_load version name w is none Release = λ h. cc
no_load version name w is none Sent = λ h. cc
no_load version name w is none Interrupt = λ h. let e = h.1 in cc
no_load version name w is none (At n) = λ h. let e = h.2 in cc
no_load version name w is none (Load m) = λ h.
    let e = h.1 in let same : h.0 ≡ w = cc in none m (subst (λ x. SpellsMessageIn version x m) same h.2)
no_load version name w is none (Write n v) = λ h. let e = h.2 in cc
no_load version name w is none (Read n) = λ h. let e = h.1 in let same : name ≡ codes "read" = cc in
    no_both (sym same ∙ is)
no_load version name w is none (Command v) = λ h. let e = h.1 in cc
no_load version name w is none (Await n) = λ h. let e = h.1 in cc

-- a write of no address
pub no_write : (version : ℕ) (name a w : Text) → ((n : ℕ) → ¬ SpellsAddress version a n) →
    (s : Step) → ¬ AreStepWords version (name ∷ a ∷ w ∷ []) s
no_write version name a w none Start = λ h. cc
no_write version name a w none Stop = λ h. cc
no_write version name a w none Window = λ h. cc
no_write version name a w none Release = λ h. cc
no_write version name a w none Sent = λ h. cc
no_write version name a w none Interrupt = λ h. let e = h.1 in cc
no_write version name a w none (At n) = λ h. let e = h.2 in cc
no_write version name a w none (Write n v) = λ h.
    let e = h.2 in let same : h.0 ≡ a = cc in none n (subst (λ x. SpellsAddress version x n) same h.3)
no_write version name a w none (Load m) = λ h. let e = h.1 in cc
no_write version name a w none (Read n) = λ h. let e = h.1 in cc
no_write version name a w none (Command v) = λ h. let e = h.1 in cc
no_write version name a w none (Await n) = λ h. let e = h.1 in cc

-- a write of no value
pub no_written : (version : ℕ) (name a w : Text) (n : ℕ) → SpellsAddress version a n →
    ((v : ℕ) → ¬ SpellsValue version n w v) → (s : Step) → ¬ AreStepWords version (name ∷ a ∷ w ∷ []) s
no_written version name a w n is none Start = λ h. cc
no_written version name a w n is none Stop = λ h. cc
no_written version name a w n is none Window = λ h. cc
no_written version name a w n is none Release = λ h. cc
no_written version name a w n is none Sent = λ h. cc
no_written version name a w n is none Interrupt = λ h. let e = h.1 in cc
no_written version name a w n is none (At m) = λ h. let e = h.2 in cc
no_written version name a w n is none (Write m v) = λ h.
    let e = h.2 in let at : h.0 ≡ a = cc in let by : h.1 ≡ w = cc in
    let number = ap (unwrap n) (sym (subst (λ x. address_of version x ≡ Some m) at h.3.0) ∙ is.0) in
    none v (subst (λ x. SpellsValue version n x v) by (subst (λ k. SpellsValue version k h.1 v) number h.4))
no_written version name a w n is none (Load m) = λ h. let e = h.1 in cc
no_written version name a w n is none (Read m) = λ h. let e = h.1 in cc
no_written version name a w n is none (Command v) = λ h. let e = h.1 in cc
no_written version name a w n is none (Await m) = λ h. let e = h.1 in cc

-- a command of no value
pub no_command : (version : ℕ) (name w : Text) → name ≡ codes "command" → ((v : ℕ) → ¬ SpellsValue version 1 w v) →
    (s : Step) → ¬ AreStepWords version (name ∷ w ∷ []) s
no_command version name w is none Start = λ h. cc
no_command version name w is none Stop = λ h. cc
no_command version name w is none Window = λ h. cc
no_command version name w is none Release = λ h. cc
no_command version name w is none Sent = λ h. cc
no_command version name w is none Interrupt = λ h. let e = h.1 in cc
no_command version name w is none (At n) = λ h. let e = h.2 in cc
no_command version name w is none (Read n) = λ h. let e = h.1 in cc
no_command version name w is none (Write n v) = λ h. let e = h.2 in cc
no_command version name w is none (Load m) = λ h. let e = h.1 in cc
no_command version name w is none (Await n) = λ h. let e = h.1 in cc
no_command version name w is none (Command v) = λ h.
    let e = h.1 in let same : h.0 ≡ w = cc in none v (subst (λ x. SpellsValue version 1 x v) same h.2)

-- a step has one to three words
few_words : (version : ℕ) (ws : List Text) (s : Step) → AreStepWords version ws s →
    (1 ≤ length ws) × (length ws ≤ 3)
few_words version ws Start h = let n = ap length h in (omega arith, omega arith)
few_words version ws Stop h = let n = ap length h in (omega arith, omega arith)
few_words version ws Window h = let n = ap length h in (omega arith, omega arith)
few_words version ws Release h = let n = ap length h in (omega arith, omega arith)
few_words version ws Sent h = let n = ap length h in (omega arith, omega arith)
few_words version ws Interrupt h = let n = ap length h.1 in (omega arith, omega arith)
few_words version ws (At n) h = let m = ap length h.2 in (omega arith, omega arith)
few_words version ws (Read n) h = let m = ap length h.1 in (omega arith, omega arith)
few_words version ws (Load m) h = let n = ap length h.1 in (omega arith, omega arith)
few_words version ws (Command v) h = let n = ap length h.1 in (omega arith, omega arith)
few_words version ws (Await n) h = let m = ap length h.1 in (omega arith, omega arith)
few_words version ws (Write n v) h = let m = ap length h.2 in (omega arith, omega arith)

-- and no other number of words
pub no_step : (version : ℕ) (words : List (Bor Text)) → (length words < 1) ⊎ (3 < length words) →
    (s : Step) → ¬ AreStepWords version (map (λ w. w.now) words) s
no_step version words h s k = by_case h
  where
    by_case : (length words < 1) ⊎ (3 < length words) → ⊥
    by_case (inl none) =
        omega (arith, none, length-map words (λ (w : Bor Text). w.now), (few_words version _ s k).0)
    by_case (inr many) =
        omega (arith, many, length-map words (λ (w : Bor Text). w.now), (few_words version _ s k).1)
