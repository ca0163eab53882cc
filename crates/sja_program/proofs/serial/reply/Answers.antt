use Rattle.std.proofs.Common.{◌≡◌, ◌+◌, ℕ, List, length, ap, inl, inr, subst, sym, arith, rules}
use Rattle.std.proofs.lemmas.List.{length-append}
use Rattle.std.specs.Prelude.{◌⊎◌, Option, None, Some}
use Rattle.std.specs.Io.KnownBytes.{Appends}
use Rattle.sja_command_line.specs.Requests.{Request}
use Rattle.sja_program.specs.Answer.{AsksForRun, Shows}
use Rattle.sja_program.specs.Denials.{IsDenied, told_of}
use Rattle.sja_program.specs.declared.unanswered.Unanswered.{Unanswered}
use Rattle.sja_program.proofs.BytesRead.FewBytes.{few_printed}
use Rattle.sja_program.proofs.Denied.{few_denied, shows_denied}
use Rattle.sja_program.proofs.serial.reply.Goals as goal

-- whether it is known which bytes are held, and how many they are
abbrev known : Option (List ℕ) → ℕ
known None = 0
known (Some bytes) = 1

abbrev held : Option (List ℕ) → ℕ
held None = 0
held (Some bytes) = length bytes

grows : (old new : Option (List ℕ)) (text : List ℕ) → Appends old new text → known old ≡ 1 →
    held new ≡ held old + length text
grows None new text more is = absurd (omega (arith, is))
grows (Some x) None text more is = absurd more
grows (Some x) (Some y) text more is = omega (arith, ap length more, length-append x text)

-- the status is 1, and the error output has the bytes more that are told
told_shown : (request : Request) (before after out_old out_new err_old err_new : Option (List ℕ)) (status : ℕ)
    (why : Unanswered) → status ≡ 1 → (known err_old ≡ 1 → held err_new ≡ held err_old + length (told_of why)) →
    IsDenied request before after why → out_new ≡ out_old → Appends err_old err_new (told_of why) →
    Shows request (Some status) before after out_old out_new err_old err_new
told_shown request before after out_old out_new err_old err_new status why ended grown is same more =
    subst (λ o. Shows request (Some status) before after out_old o err_old err_new) (sym same)
    (shows_denied request before after out_old err_old err_new status why is ended more)

-- the task is `check`
pub returns-in-Some-clause-answered : goal.returns-in-Some-clause-answered
returns-in-Some-clause-answered g c = λ wrote told.
    rw c.in-Some.ensures.check (c.reply_check.ensures.answered wrote told)

pub returns-in-Some-clause-unread : goal.returns-in-Some-clause-unread
returns-in-Some-clause-unread g c = inl (subst AsksForRun (sym c.in-Some.ensures.check) tt)

or_right : {A B C : Type 0} → (B → C) → A ⊎ B → A ⊎ C
or_right f (inl a) = inl a
or_right f (inr b) = inr (f b)

-- by the status and those bytes a wrong body is refused with values
pub returns-in-Err-clause-answered : goal.returns-in-Err-clause-answered
returns-in-Err-clause-answered g c = λ wrote told.
    told_shown _ _ _ _ _ _ _ _ c.in-Err.why (omega (arith, c.deny.ensures.status))
    (λ is. omega (arith, is, grows _ _ _ (c.deny.ensures.written (search rules)).1)) (search rules) (search rules)
    (search rules)

-- its text was printed, or it was refused
pub returns-in-Ok-clause-few : goal.returns-in-Ok-clause-few
returns-in-Ok-clause-few g c =
    few_printed _ _ _ _ (or_right (λ same. ap (λ i. g.R.Read.remaining i) same) c.in-Ok.ensures.unread)
    c.in-Ok.ensures.ok

pub returns-in-Err-clause-few : goal.returns-in-Err-clause-few
returns-in-Err-clause-few g c =
    few_denied _ _ _ c.in-Err.why
    (or_right (λ same. ap (λ i. g.R.Read.remaining i) same) c.in-Err.ensures.unread) c.in-Err.ensures.err
