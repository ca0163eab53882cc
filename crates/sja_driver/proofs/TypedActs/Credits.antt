-- A credit that a driver gives is right: of a message of 3 to 13 bytes that was stored and not paid for.
use Rattle.std.proofs.Common.{◌≡◌, ◌≢◌, ℕ, Bool, true, false, suc, ◌+◌, ◌<◌, ◌≤◌, ◌⊎◌, List, [], ◌∷◌, ◌++◌, length, map}
use Rattle.std.proofs.Common.{sym, ap, ◌∙◌, subst, arith, inl, inr}
use Rattle.std.specs.Prelude.{slice_index_or, if◌then◌else◌, Some, None}
use Rattle.can_node_rules.specs.declared.request.Request.{Request}
use Rattle.sja_journal.specs.declared.up.Up.TheVariants.{Credit}
use Rattle.sja_journal.specs.declared.entry.Entry.{Entry}
use Rattle.lemmas.specs.Gathering.{total}
use Rattle.sja_journal.specs.Lists.{messages}
use Rattle.sja_journal.specs.Accounts.{Account}
use Rattle.sja_link.specs.Deques.{Deques, Lies, down_on}
use Rattle.sja_journal.specs.Parts.{part}
use Rattle.sja_journal.specs.Carried.{taken_of, stored_of}
use Rattle.sja_journal.specs.Free.{credit_of, credit_in, bytes_in}
use Rattle.sja_link.specs.World.{bytes_of}
use Rattle.lemmas.specs.Picking.{EachAfter}
use Rattle.sja_journal.specs.Verdicts.{IsLawful}
use Rattle.lemmas.proofs.Gathered.{total_append, total_push}
use Rattle.sja_link.proofs.Ledger.Holding.{told_stored}
use Rattle.sja_regs.specs.declared.registers.Registers.{Registers}
use Rattle.sja_regs.specs.Commands.{command_of, requests}
use Rattle.sja_steps.specs.declared.step.Step.{Step}
use Rattle.sja_steps.specs.declared.step.Step.TheVariants.{Start, Stop, Window, Release, Read, Write, Load, Command}
use Rattle.sja_steps.specs.declared.step.Step.TheVariants.{Await, Sent, Interrupt, At}
use Rattle.sja_steps.specs.declared.step_answer.StepAnswer.{StepAnswer}
use Rattle.sja_steps.specs.declared.step_answer.StepAnswer.TheVariants.{Done, Released}
use Rattle.sja_driver.specs.declared.any_driver.AnyDriver.{AnyDriver}
use Rattle.sja_driver.specs.declared.work_log.WorkLog.{WorkLog}
use Rattle.sja_driver.specs.AnyDrivers.{held_of}
use Rattle.sja_driver.specs.Carried.{carried}
use Rattle.sja_driver.specs.Ports.{send_of}
use Rattle.sja_driver.specs.TypedActs.{TypedAct, opens_by, opened_by, Gives, length_in, given_in, released_lengths}
use Rattle.sja_driver.specs.TypedActs.{acts_of}
use Rattle.sja_driver.specs.Holding.{HoldsBy}
use Rattle.sja_driver.specs.Logs.{Traces, releases_in, left_in, released_of, leaves}
use Rattle.sja_driver.proofs.LogOfSteps.Sections.{acts_here}
use Rattle.sja_driver.proofs.Step.Few.{all_of, bytes_stored, credits_taken, credits_section, bytes_lengths}
use Rattle.sja_driver.proofs.Step.Few.{AllFit, fit_front, stored_fit}

-- the last of these lengths is that of a message
last_fits : (ms : List (List ℕ)) (ls : List ℕ) (n : ℕ) → map (λ (m : List ℕ). length m) ms ≡ ls ++ n ∷ [] → AllFit ms →
    (3 ≤ n) × (n ≤ 13)
last_fits [] [] n e h = absurd cc
last_fits [] (l ∷ ls) n e h = absurd cc
last_fits (m ∷ ms) [] n e h =
    let same : length m ≡ n = cc in let a = h.0.0 in let b = h.0.1 in (omega (arith, same, a), omega (arith, same, b))
last_fits (m ∷ ms) (l ∷ ls) n e h = last_fits ms ls n (cc) h.1

module _ (j : List Entry) (acts : List TypedAct) (d : TypedAct) (n : ℕ) (driver : AnyDriver) (log : WorkLog)
    (links : Deques) (lawful : IsLawful j) (given : (a : ℕ) → given_in (acts_of acts a) ≡ taken_of (part j a))
    (gives : EachAfter (λ b (x : TypedAct). Gives x.step x.answer x.gave) [] acts)
    {version : ℕ} (trace : Traces version driver log (acts ++ d ∷ []))
    (holds : HoldsBy Lies (acts ++ d ∷ []) driver log j links) (lengths : length_in d.step d.answer ≡ n ∷ [])
  where
    -- the credit of a release in this activation
    pub paid_right : (a : ℕ) → suc a ≡ opened_by acts + opens_by d →
        ((3 ≤ n) × (n ≤ 13)) × (total credit_in (part j (suc a)) + n ≤ total bytes_in (part j (suc a)))
    paid_right a at =
        let released = released_of (releases_in log) (suc a) in
        let held = slice_index_or (leaves (left_in log) (held_of driver)) a [] in
        let down = down_on links (suc a) in
        let account : Account = record { got = holds.got a; given = [] } in
        let all : released ++ (held ++ messages down) ≡ stored_of (part j (suc a)) =
        told_stored j (suc a) account down released held (holds.kept a).down (holds.told a) in
        let more : released_lengths (acts_of (acts ++ d ∷ []) (suc a)) ≡ released_lengths
        (acts_of acts (suc a)) ++ n
        ∷ [] =
        acts_here (λ (x : TypedAct). length_in x.step x.answer) acts d (suc a) (inl (sym at))
        ∙ ap (λ (l : List ℕ). released_lengths (acts_of acts (suc a)) ++ l) lengths in
        let long : map (λ (m : List ℕ). length m) released ≡ released_lengths (acts_of acts (suc a)) ++ n ∷ [] =
        trace.released (suc a) ∙ more in
        let fit : AllFit released = fit_front released (held ++ messages down)
        (subst (λ (l : List (List ℕ)). AllFit l) (sym all) (stored_fit j (suc a) lawful)) in
        let stored = bytes_stored (part j (suc a)) ∙ ap bytes_of (sym all)
        ∙ total_append (λ (m : List ℕ). length m) released (held ++ messages down) in
        let paid = credits_taken (part j (suc a)) ∙ ap (total credit_of) (sym (given (suc a)))
        ∙ credits_section 0 [] acts (suc a) gives in
        let let_go = bytes_lengths released ∙ ap all_of long
        ∙ total_push (λ (m : ℕ). m) (released_lengths (acts_of acts (suc a))) n in
        (last_fits released (released_lengths (acts_of acts (suc a))) n long fit, omega (arith, stored, paid, let_go))

    -- it isn't bad
    pub credit_right : (a : ℕ) → suc a ≡ opened_by acts + opens_by d → (free : ℕ) →
        free + total bytes_in (part j (suc a)) ≡ 64 + total credit_in (part j (suc a)) →
        (n < 3) ⊎ ((13 < n) ⊎ (64 < free + n)) → ⊥
    credit_right a at free is (inl short) = let r = (paid_right a at).0.0 in omega (arith, r, short)
    credit_right a at free is (inr (inl long)) = let r = (paid_right a at).0.1 in omega (arith, r, long)
    credit_right a at free is (inr (inr much)) = let r = (paid_right a at).1 in omega (arith, r, much, is)

-- ---- only a release gives a credit, of the length that it answers

no_credit : (asks : Bool) (request : Request) (n : ℕ) → send_of (if asks then Some request else None) ≢ Credit n ∷ []
no_credit true request n e = cc
no_credit false request n e = cc

pub credit_lengths : (p : Registers) (s : Step) (r : StepAnswer) (n : ℕ) → carried p s r ≡ Credit n ∷ [] →
    length_in s r ≡ n ∷ []
credit_lengths p Release (Released m) n e = let same : m ≡ n = cc in ap (λ x. x ∷ []) same
credit_lengths p (Command v) Done n e = absurd (no_credit (requests (command_of v)) _ n e)
credit_lengths p Start Done n e = absurd cc
credit_lengths p Stop Done n e = absurd cc
credit_lengths p Release other n e = absurd cc
credit_lengths p (Command v) other n e = absurd cc
credit_lengths p Start other n e = absurd cc
credit_lengths p Stop other n e = absurd cc
credit_lengths p Window r n e = absurd cc
credit_lengths p (Read a) r n e = absurd cc
credit_lengths p (Write a v) r n e = absurd cc
credit_lengths p (Load m) r n e = absurd cc
credit_lengths p (Await k) r n e = absurd cc
credit_lengths p Sent r n e = absurd cc
credit_lengths p Interrupt r n e = absurd cc
credit_lengths p (At bits) r n e = absurd cc
