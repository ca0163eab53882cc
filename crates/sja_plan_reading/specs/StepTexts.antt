-- What the text of a driver's step says (this project's own rule).
use Rattle.std.specs.Prelude.{◌≡◌, ◌≤◌, ℕ, List, [], ◌∷◌, codes}
use Rattle.sja_plan_reading.specs.Words.{Text, words, SpellsWithin}
use Rattle.sja_plan_reading.specs.Accesses.{SpellsAddress, SpellsValue}
use Rattle.sja_plan_reading.specs.Messages.{SpellsMessageIn}
use Rattle.sja_steps.specs.declared.step.Step.{Step}
use Rattle.sja_steps.specs.declared.step.Step.TheVariants.{Start, Stop, Window, Release, Read}
use Rattle.sja_steps.specs.declared.step.Step.TheVariants.{Write, Load, Command, Await, Sent, Interrupt, At}

-- in this version of the rules these are the words of this step. `command` writes CMR, which is at address 1. Only in
-- version 3 drivers have an interrupt line, and wait for a bit, of which a run has 2,000,000 at most
abbrev pub AreStepWords : ℕ → List Text → Step → Type 0
AreStepWords version ws Start = ws ≡ codes "start" ∷ []
AreStepWords version ws Stop = ws ≡ codes "stop" ∷ []
AreStepWords version ws Window = ws ≡ codes "window" ∷ []
AreStepWords version ws Release = ws ≡ codes "release" ∷ []
AreStepWords version ws (Read address) = (a : Text) × (ws ≡ codes "read" ∷ a ∷ []) × SpellsAddress version a address
AreStepWords version ws (Write address value) =
    (a v : Text) × (ws ≡ codes "write" ∷ a ∷ v ∷ []) × SpellsAddress version a address
    × SpellsValue version address v value
AreStepWords version ws (Load message) = (m : Text) × (ws ≡ codes "load" ∷ m ∷ []) × SpellsMessageIn version m message
AreStepWords version ws (Command value) = (v : Text) × (ws ≡ codes "command" ∷ v ∷ []) × SpellsValue version 1 v value
AreStepWords version ws (Await count) = (n : Text) × (ws ≡ codes "await" ∷ n ∷ []) × SpellsWithin 1 21 n count
AreStepWords version ws Sent = ws ≡ codes "sent" ∷ []
AreStepWords version ws Interrupt = (3 ≤ version) × (ws ≡ codes "interrupt" ∷ [])
AreStepWords version ws (At least) =
    (3 ≤ version) × (n : Text) × (ws ≡ codes "at" ∷ n ∷ []) × SpellsWithin 0 2000000 n least

-- in this version the text says this step
abbrev pub SaysStep : ℕ → Text → Step → Type 0
SaysStep version text step = AreStepWords version (words text) step
