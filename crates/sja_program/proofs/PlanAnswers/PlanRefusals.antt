-- Why there is no text of a plan, from why there is none of the plan on the input; and that there is one.
use Rattle.std.proofs.Common.{◌≡◌, ◌≤◌, ◌<◌, List, ℕ, Option, length, inl, inr, subst}
use Rattle.std.specs.Prelude.{IfOk, IfErr, Result, Ok, Err, String, string_bytes}
use Rattle.std.specs.Global.{Global}
use Rattle.sja_placed_strikes.specs.PlanRead.{IsRunPlan}
use Rattle.sja_plan.specs.Limits.{most_strikes}
use Rattle.sja_plan.specs.Plan.{PlanValue, times_in}
use Rattle.sja_plan.specs.Struck.{struck_at}
use Rattle.sja_plan_text.specs.Written.{IsPlanText, IsTooLong}
use Rattle.text_codec.specs.declared.sweep_refusal.SweepRefusal.{SweepRefusal}
use Rattle.text_codec.specs.declared.sweep_refusal.SweepRefusal.TheVariants.{NoNode, TooMany, StrikeCount, Bit, TooLong}
use Rattle.text_codec.specs.declared.sweep_refusal.SweepRefusal.TheVariants.{NoBit}
use Rattle.text_codec.specs.declared.command_refusal.CommandRefusal.{CommandRefusal}
use Rattle.text_codec.specs.declared.command_refusal.CommandRefusal.TheVariants as refusal
use Rattle.sja_program.specs.PlanTexts.{RefusesTextFor}
use Rattle.sja_program.specs.Input.{ReadsFew, RefusesInput}
use Rattle.sja_program.specs.Run.{RefusesRun, RefusesRunPlan}
use Rattle.sja_program.specs.RunRefusals.{HoldsPlan}
use Rattle.sja_program.specs.Sweep.{IsStruck, RefusesOfPlan, RefusesStruck}
use Rattle.sja_program.specs.PlanRefusals.{IsLong, RefusesDocument, RefusesPlan}
use Rattle.sja_program.specs.PlanDocument.{RefusesSpelling, RefusesInputSpelled}

-- there is no plan, or memory was refused
pub of_plan_refused : (May : PlanValue → SweepRefusal → Type 0) (before after : Option (List ℕ)) (r : CommandRefusal) →
    RefusesRun before after r → RefusesOfPlan May before after r
of_plan_refused May before after refusal.OutOfMemory h = h
of_plan_refused May before after refusal.Read h = h
of_plan_refused May before after (refusal.Plan fault) h = h
of_plan_refused May before after (refusal.Place number) h = h
of_plan_refused May before after refusal.Strikes h = h
of_plan_refused May before after (refusal.Run fault) h = h
of_plan_refused May before after refusal.NotHexadecimal h = absurd h
of_plan_refused May before after refusal.NotALine h = absurd h
of_plan_refused May before after (refusal.Layout fault) h = absurd h
of_plan_refused May before after (refusal.Line fault) h = absurd h
of_plan_refused May before after (refusal.Notation fault) h = absurd h
of_plan_refused May before after (refusal.Sweep why) h = absurd h
of_plan_refused May before after (refusal.Drawing levels) h = absurd h

-- there is a plan
pub plan_refused : (May : PlanValue → SweepRefusal → Type 0) (before after : Option (List ℕ)) (plan : PlanValue)
    (r : CommandRefusal) → HoldsPlan before after plan → RefusesPlan May plan r → RefusesOfPlan May before after r
plan_refused May before after plan refusal.OutOfMemory holds h = (holds.0, holds.1.0, holds.1.1)
plan_refused May before after plan (refusal.Sweep why) holds h = (holds.0, plan, holds.1, holds.2, h)
plan_refused May before after plan refusal.Read holds h = absurd h
plan_refused May before after plan (refusal.Plan fault) holds h = absurd h
plan_refused May before after plan (refusal.Place number) holds h = absurd h
plan_refused May before after plan refusal.Strikes holds h = absurd h
plan_refused May before after plan (refusal.Run fault) holds h = absurd h
plan_refused May before after plan refusal.NotHexadecimal holds h = absurd h
plan_refused May before after plan refusal.NotALine holds h = absurd h
plan_refused May before after plan (refusal.Layout fault) holds h = absurd h
plan_refused May before after plan (refusal.Line fault) holds h = absurd h
plan_refused May before after plan (refusal.Notation fault) holds h = absurd h
plan_refused May before after plan (refusal.Drawing levels) holds h = absurd h

-- of the plan that some bytes are
pub text_refused : (May : PlanValue → SweepRefusal → Type 0) (bytes : List ℕ) (plan : PlanValue) (r : CommandRefusal) →
    IsRunPlan bytes plan → RefusesPlan May plan r → RefusesTextFor May bytes r
text_refused May bytes plan refusal.OutOfMemory holds h = tt
text_refused May bytes plan (refusal.Sweep why) holds h = (plan, holds, h)
text_refused May bytes plan refusal.Read holds h = absurd h
text_refused May bytes plan (refusal.Plan fault) holds h = absurd h
text_refused May bytes plan (refusal.Place number) holds h = absurd h
text_refused May bytes plan refusal.Strikes holds h = absurd h
text_refused May bytes plan (refusal.Run fault) holds h = absurd h
text_refused May bytes plan refusal.NotHexadecimal holds h = absurd h
text_refused May bytes plan refusal.NotALine holds h = absurd h
text_refused May bytes plan (refusal.Layout fault) holds h = absurd h
text_refused May bytes plan (refusal.Line fault) holds h = absurd h
text_refused May bytes plan (refusal.Notation fault) holds h = absurd h
text_refused May bytes plan (refusal.Drawing levels) holds h = absurd h

-- of bytes that are no plan to run
pub no_text : (May : PlanValue → SweepRefusal → Type 0) (bytes : List ℕ) (r : CommandRefusal) → RefusesRunPlan bytes r →
    RefusesTextFor May bytes r
no_text May bytes refusal.OutOfMemory h = tt
no_text May bytes (refusal.Plan fault) h = h
no_text May bytes (refusal.Place number) h = h
no_text May bytes refusal.Strikes h = h
no_text May bytes refusal.Read h = absurd h
no_text May bytes (refusal.Run fault) h = absurd h
no_text May bytes refusal.NotHexadecimal h = absurd h
no_text May bytes refusal.NotALine h = absurd h
no_text May bytes (refusal.Layout fault) h = absurd h
no_text May bytes (refusal.Line fault) h = absurd h
no_text May bytes (refusal.Notation fault) h = absurd h
no_text May bytes (refusal.Sweep why) h = absurd h
no_text May bytes (refusal.Drawing levels) h = absurd h

-- whatever of both it is, few bytes were read
pub few_of_plan : (May : PlanValue → SweepRefusal → Type 0) (before after : Option (List ℕ)) (r : CommandRefusal) →
    (RefusesRun before after r → ReadsFew before after) → RefusesOfPlan May before after r → ReadsFew before after
few_of_plan May before after (refusal.Sweep why) few h = (h.0, h.2.0, h.2.1)
few_of_plan May before after refusal.OutOfMemory few h = few h
few_of_plan May before after refusal.Read few h = few h
few_of_plan May before after (refusal.Plan fault) few h = few h
few_of_plan May before after (refusal.Place number) few h = few h
few_of_plan May before after refusal.Strikes few h = few h
few_of_plan May before after (refusal.Run fault) few h = few h
few_of_plan May before after refusal.NotHexadecimal few h = few h
few_of_plan May before after refusal.NotALine few h = few h
few_of_plan May before after (refusal.Layout fault) few h = few h
few_of_plan May before after (refusal.Line fault) few h = few h
few_of_plan May before after (refusal.Notation fault) few h = few h
few_of_plan May before after (refusal.Drawing levels) few h = few h

-- the document of a plan with a strike more is too long, and nothing else is wrong
long_refused : (node bit : ℕ) (plan struck : PlanValue) (r : CommandRefusal) → node < length plan.nodes →
    bit ≤ 9999999 → times_in plan.strikes < most_strikes plan.version → struck ≡ struck_at plan node bit →
    RefusesPlan IsLong struck r → RefusesPlan (RefusesStruck node bit) plan r
long_refused node bit plan struck refusal.OutOfMemory there low room is h = h
long_refused node bit plan struck (refusal.Sweep TooLong) there low room is h =
    ((there, low), room, subst IsTooLong is h)
long_refused node bit plan struck (refusal.Sweep NoNode) there low room is h = absurd h
long_refused node bit plan struck (refusal.Sweep (TooMany runs bits)) there low room is h = absurd h
long_refused node bit plan struck (refusal.Sweep StrikeCount) there low room is h = absurd h
long_refused node bit plan struck (refusal.Sweep Bit) there low room is h = absurd h
long_refused node bit plan struck (refusal.Sweep (NoBit bits)) there low room is h = absurd h
long_refused node bit plan struck refusal.Read there low room is h = absurd h
long_refused node bit plan struck (refusal.Plan fault) there low room is h = absurd h
long_refused node bit plan struck (refusal.Place number) there low room is h = absurd h
long_refused node bit plan struck refusal.Strikes there low room is h = absurd h
long_refused node bit plan struck (refusal.Run fault) there low room is h = absurd h
long_refused node bit plan struck refusal.NotHexadecimal there low room is h = absurd h
long_refused node bit plan struck refusal.NotALine there low room is h = absurd h
long_refused node bit plan struck (refusal.Layout fault) there low room is h = absurd h
long_refused node bit plan struck (refusal.Line fault) there low room is h = absurd h
long_refused node bit plan struck (refusal.Notation fault) there low room is h = absurd h
long_refused node bit plan struck (refusal.Drawing levels) there low room is h = absurd h

pub long_refused_if : (r : Result (String Global) CommandRefusal) (node bit : ℕ) (plan struck : PlanValue) →
    node < length plan.nodes → bit ≤ 9999999 → times_in plan.strikes < most_strikes plan.version →
    struck ≡ struck_at plan node bit → IfErr r (RefusesPlan IsLong struck) →
    IfErr r (RefusesPlan (RefusesStruck node bit) plan)
long_refused_if (Ok text) node bit plan struck there low room is h = tt
long_refused_if (Err e) node bit plan struck there low room is h =
    long_refused node bit plan struck e there low room is h

-- the text of the plan with a strike more
pub struck_text_is : (r : Result (String Global) CommandRefusal) (node bit : ℕ) (plan struck : PlanValue) →
    node < length plan.nodes → struck ≡ struck_at plan node bit → IfOk r (λ text. IsPlanText struck (string_bytes text))
    → IfOk r (λ text. IsStruck node bit plan (string_bytes text))
struck_text_is (Ok text) node bit plan struck there is h =
    (there, subst (λ p. IsPlanText p (string_bytes text)) is h)
struck_text_is (Err e) node bit plan struck there is h = tt

-- there is no text of the plan that bytes are
pub unspelled : (bytes : List ℕ) (plan : PlanValue) (r : CommandRefusal) → IsRunPlan bytes plan →
    RefusesDocument plan r → RefusesSpelling bytes r
unspelled bytes plan refusal.OutOfMemory holds h = tt
unspelled bytes plan (refusal.Plan fault) holds h = inr (h.0, plan, holds, h.1)
unspelled bytes plan refusal.Read holds h = absurd h
unspelled bytes plan (refusal.Place number) holds h = absurd h
unspelled bytes plan refusal.Strikes holds h = absurd h
unspelled bytes plan (refusal.Run fault) holds h = absurd h
unspelled bytes plan refusal.NotHexadecimal holds h = absurd h
unspelled bytes plan refusal.NotALine holds h = absurd h
unspelled bytes plan (refusal.Layout fault) holds h = absurd h
unspelled bytes plan (refusal.Line fault) holds h = absurd h
unspelled bytes plan (refusal.Notation fault) holds h = absurd h
unspelled bytes plan (refusal.Sweep why) holds h = absurd h
unspelled bytes plan (refusal.Drawing levels) holds h = absurd h

-- there is no plan to run
pub no_spelling : (bytes : List ℕ) (r : CommandRefusal) → RefusesRunPlan bytes r → RefusesSpelling bytes r
no_spelling bytes refusal.OutOfMemory h = tt
no_spelling bytes (refusal.Plan fault) h = inl h
no_spelling bytes (refusal.Place number) h = h
no_spelling bytes refusal.Strikes h = h
no_spelling bytes refusal.Read h = absurd h
no_spelling bytes (refusal.Run fault) h = absurd h
no_spelling bytes refusal.NotHexadecimal h = absurd h
no_spelling bytes refusal.NotALine h = absurd h
no_spelling bytes (refusal.Layout fault) h = absurd h
no_spelling bytes (refusal.Line fault) h = absurd h
no_spelling bytes (refusal.Notation fault) h = absurd h
no_spelling bytes (refusal.Sweep why) h = absurd h
no_spelling bytes (refusal.Drawing levels) h = absurd h

-- nor is there one where there are no bytes
pub no_input : (before after : Option (List ℕ)) (r : CommandRefusal) → RefusesInput before after r →
    RefusesInputSpelled before after r
no_input before after r h = inl h
