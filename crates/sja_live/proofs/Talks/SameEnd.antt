-- A session is without an end where its first line asked for one: what it is told changes neither its version nor how
-- many bits it has.
use Rattle.std.proofs.Common.{◌≡◌, ◌≤◌, ◌<◌, ◌^◌, ◌&&◌, ℕ, Bool, true, false, List, refl, sym, ap, ◌∙◌, subst, arith}
use Rattle.std.specs.Prelude.{◌==◌, Option, Some, None, nat_lt, replicate, if◌then◌else◌}
use Rattle.std.proofs.lemmas.Bool.{le-ltb, lt-ltb}
use Rattle.sja_driver.specs.StepRuns.{StepRun}
use Rattle.sja_plan.specs.Limits.{most_bits}
use Rattle.sja_plan.specs.Plan.{PlanValue}
use Rattle.sja_plan_reading.specs.Words.{Text}
use Rattle.sja_plan.proofs.PlanLimits.ByVersion.{bits_most}
use Rattle.sja_regs.specs.Registers.{at_power_on}
use Rattle.sja_steps.specs.declared.step.Step.{Step}
use Rattle.sja_steps.specs.declared.step_answer.StepAnswer.{StepAnswer}
use Rattle.sja_session.specs.Beginning.{endless_bits}
use Rattle.sja_session.specs.ByAddress.{DoesSteps}
use Rattle.sja_session.specs.ByAddress.DoesSteps.{none as no_steps, more as one_more}
use Rattle.sja_session.specs.Sessions.{SessionValue, written}
use Rattle.sja_session.specs.Watching.{NoneRose, Watches}
use Rattle.sja_session.specs.Watching.NoneRose.{none as no_bit, bit as one_bit}
use Rattle.sja_live.specs.Answering.{Answers}
use Rattle.sja_live.specs.Answering.Answers.{step, waits, no_step, read, no_read, write, no_write, rose, ran, spent}
use Rattle.sja_live.specs.Answering.Answers.{no_turn, rested, restless, no_rest, came, away, no_way, at, nowhere, line}
use Rattle.sja_live.specs.Answering.Answers.{strike, no_strike, answer, nothing, bits, plan, no_plan, no_end}
use Rattle.sja_live.specs.Answering.{all_watched}
use Rattle.sja_live.specs.Beginning.{IsNewOf, bits_of, is_endless}
use Rattle.sja_live.specs.Commands.{lacks_end}
use Rattle.sja_live.specs.Opening.{Opens}
use Rattle.sja_live.specs.Talking.{Replies}
use Rattle.sja_live.specs.Talking.Replies.{done, mistaken, no_text, long}
use Rattle.sja_live.specs.declared.live_answer.LiveAnswer.{LiveAnswer}
use Rattle.sja_live.specs.declared.live_command.LiveCommand.{LiveCommand}
use Rattle.sja_live.specs.declared.opening.Opening.{Opening}

-- ---- of one session after another

-- it has as many bits, and goes by the same version
record IsAsLong (was now : SessionValue) : Type 0 where
  pub version : now.plan.version ≡ was.plan.version
  pub bits : now.plan.bits ≡ was.plan.bits

by_plan : {was now : SessionValue} → now.plan ≡ was.plan → IsAsLong was now
by_plan is = record {
  version = ap (λ (p : PlanValue). p.version) is;
  bits = ap (λ (p : PlanValue). p.bits) is;
}

by_written : {was now : SessionValue} → written now ≡ written was → IsAsLong was now
by_written is = record {
  version = ap (λ (p : PlanValue). p.version) is;
  bits = ap (λ (p : PlanValue). p.bits) is;
}

by_itself : {was now : SessionValue} → now ≡ was → IsAsLong was now
by_itself is = by_plan (ap (λ (s : SessionValue). s.plan) is)

then_as_long : {was mid now : SessionValue} → IsAsLong was mid → IsAsLong mid now → IsAsLong was now
then_as_long first second =
    record { version = second.version ∙ first.version; bits = second.bits ∙ first.bits }

-- ---- of what a line asks for

by_steps : {node : ℕ} {was now : SessionValue} {step_runs after : List (List StepRun)} {steps : List Step}
    {answers : List StepAnswer} → DoesSteps node was step_runs steps answers now after → IsAsLong was now
by_steps no_steps = by_itself refl
by_steps (one_more does rest) = then_as_long (by_plan does.plan) (by_steps rest)

by_bits : {watched : List Bool} {nodes : ℕ} {step_runs : List (List StepRun)} {was now : SessionValue} {n : ℕ} →
    NoneRose watched nodes step_runs was now n → IsAsLong was now
by_bits (no_bit still) = by_written still.wrote
by_bits (one_bit {was} {before} {after} {now} {n} earlier runs quiet still) =
    let bit : IsAsLong before after = by_plan runs.plan in let end : IsAsLong after now = by_written still.wrote in
    then_as_long (by_bits earlier) (then_as_long bit end)

by_watch : (was now : SessionValue) (count run : ℕ) (told : Option ℕ) (step_runs : List (List StepRun)) →
    Watches was now count all_watched run told step_runs → IsAsLong was now
by_watch was now count run None step_runs w = by_bits w.0
by_watch was now count run (Some node) step_runs w =
    let last = w.0 in let bit : IsAsLong last.before last.after = by_plan last.bit.plan in
    let end : IsAsLong last.after now = by_written last.still.wrote in
    then_as_long (by_bits last.earlier) (then_as_long bit end)

by_answer : {was now : SessionValue} {step_runs after : List (List StepRun)} {command : LiveCommand}
    {told : LiveAnswer} → Answers was now step_runs command told after → IsAsLong was now
by_answer (step may does) = by_plan does.plan
by_answer (waits may has) = by_plan has.plan
by_answer (no_step fault why same) = by_itself same
by_answer (read may reads) = by_plan reads.does.plan
by_answer (no_read fault why same) = by_itself same
by_answer (write may writes) = by_steps (writes.does (at_power_on 1))
by_answer (no_write fault why same) = by_itself same
by_answer {was} {now} {step_runs} (rose {count} {run} {lines} mid node may w still are) =
    let end : IsAsLong mid now = by_written still.wrote in
    then_as_long (by_watch was mid count run (Some node) step_runs w) end
by_answer {was} {now} {step_runs} (ran {count} may w) = by_watch was now count count None step_runs w
by_answer {was} {now} {step_runs} (spent {count} {run} may w less) = by_watch was now count run None step_runs w
by_answer (no_turn lacks same) = by_itself same
by_answer (rested may rests) = by_plan rests.plan
by_answer (restless may rests) = by_plan rests.plan
by_answer (no_rest lacks same) = by_itself same
by_answer (came may runs) = by_plan runs.plan
by_answer (away may runs) = by_plan runs.plan
by_answer (no_way fault why same) = by_itself same
by_answer (at is same) = by_itself same
by_answer (nowhere is same) = by_itself same
by_answer (line still are) = by_written still.wrote
by_answer {was} (strike may struck) =
    subst (λ (s : SessionValue). IsAsLong was s) (sym struck.is) (record { version = refl; bits = refl })
by_answer (no_strike fault why is same) = by_itself same
by_answer (answer is same) = by_itself same
by_answer (nothing is same) = by_itself same
by_answer (bits same) = by_itself same
by_answer (plan end text same) = by_itself same
by_answer (no_plan end text same) = by_itself same
by_answer (no_end endless same) = by_itself same

by_reply : {was now : SessionValue} {step_runs after : List (List StepRun)} {said : Text} {told : LiveAnswer} →
    Replies was now step_runs said told after → IsAsLong was now
by_reply (done readable asks answers) = by_answer answers
by_reply (mistaken readable wrong same) = by_itself same
by_reply (no_text short other same) = by_itself same
by_reply (long more same) = by_itself same

-- ---- whether it has an end

-- a reply changes that not
pub same_end : (was now : SessionValue) (step_runs after : List (List StepRun)) (said : Text) (told : LiveAnswer) →
    Replies was now step_runs said told after → lacks_end now.plan ≡ lacks_end was.plan
same_end was now step_runs after said told replies =
    let same = by_reply replies in λ i. nat_lt (most_bits (same.version i)) (same.bits i)

-- as it begins it has one, or none, as its first line asked
pub begins_as_opened : (s : SessionValue) (o : Opening) (said : Text) → Opens said o → IsNewOf s o →
    lacks_end s.plan ≡ is_endless o
begins_as_opened s o said opens new = by (is_endless o) refl
  where
    of_version : s.plan.version ≡ o.version
    of_version = ap (λ (p : PlanValue). p.version) new.wrote

    of_bits : s.plan.bits ≡ bits_of o
    of_bits = ap (λ (p : PlanValue). p.bits) new.wrote

    reckoned : (n : ℕ) → bits_of o ≡ n → lacks_end s.plan ≡ nat_lt (most_bits o.version) n
    reckoned n is = let all = of_bits ∙ is in λ i. nat_lt (most_bits (of_version i)) (all i)

    by : (b : Bool) → is_endless o ≡ b → lacks_end s.plan ≡ is_endless o
    by true is =
        let many : most_bits o.version < 2 ^ 62 = let few = bits_most o.version in omega (arith, few) in
        reckoned endless_bits (ap (λ (b : Bool). if b then endless_bits else o.bits) is)
        ∙ lt-ltb (most_bits o.version) endless_bits many ∙ sym is
    by false is =
        reckoned o.bits (ap (λ (b : Bool). if b then endless_bits else o.bits) is)
        ∙ le-ltb (most_bits o.version) o.bits opens.bits.2 ∙ sym is
