-- A plan that was read and then run: why there is no text, from why there is none of its run.
use Rattle.std.proofs.Common.{Bool, true, false, List, ℕ, Option}
use Rattle.sja_plan.specs.Plan.{PlanValue}
use Rattle.sja_placed_strikes.specs.PlanRead.{IsRunPlan}
use Rattle.text_codec.specs.declared.command_refusal.CommandRefusal.{CommandRefusal}
use Rattle.text_codec.specs.declared.command_refusal.CommandRefusal.TheVariants as refusal
use Rattle.sja_program.specs.Replies.{IsChecked, IsSaidOf}
use Rattle.sja_program.specs.PlanTexts.{RefusesTextIn}
use Rattle.sja_program.specs.Input.{IsRead}
use Rattle.sja_log.specs.Log.{RunValue}
use Rattle.sja_program.specs.RunRefusals.{IsPlain, RefusesRunOf, HoldsPlan}
use Rattle.sja_program.specs.Run.{RefusesBy, RefusesRun, RefusesRunPlan, RefusesText}
use Rattle.sja_program.specs.RunText.{IsTooLarge, MayFault}
use Rattle.sja_program.specs.declared.run_text.RunText.{RunText}
use Rattle.sja_program.specs.declared.run_text.RunText.TheVariants.{Report, Wave, Trace, Frames, Picture, Drawing}
use Rattle.sja_program.specs.declared.run_text.RunText.TheVariants.{Candump}
use Rattle.sja_program.specs.declared.plan_check.PlanCheck.{PlanCheck}
use Rattle.sja_program.specs.declared.plan_check.PlanCheck.TheVariants.{Hints, Mistake}

-- what is no drawing isn't too large
none_large : (what : RunText) (plan : PlanValue) (log : RunValue) (levels : ℕ) → IsPlain what →
    ¬ IsTooLarge what plan log levels
none_large Report plan log levels plain large = large
none_large Wave plan log levels plain large = large
none_large Trace plan log levels plain large = large
none_large (Frames bits) plan log levels plain large = large
none_large (Picture first last meant) plan log levels plain large = large
none_large (Drawing first last meant) plan log levels plain large = absurd plain
none_large (Candump errors) plan log levels plain large = large

-- of the plan that some bytes are
pub bytes_refused : (threads : Bool) (what : RunText) (bytes : List ℕ) (plan : PlanValue) (r : CommandRefusal) →
    IsRunPlan bytes plan → RefusesRunOf threads what plan r → RefusesTextIn threads what bytes r
bytes_refused threads what bytes plan refusal.OutOfMemory holds h = tt
bytes_refused threads what bytes plan (refusal.Run fault) holds h = (plan, holds, h)
bytes_refused threads what bytes plan (refusal.Drawing levels) holds h = (plan, h.0, holds, h.1, h.2)
bytes_refused threads what bytes plan refusal.Read holds h = absurd h
bytes_refused threads what bytes plan (refusal.Plan fault) holds h = absurd h
bytes_refused threads what bytes plan (refusal.Place number) holds h = absurd h
bytes_refused threads what bytes plan refusal.Strikes holds h = absurd h
bytes_refused threads what bytes plan refusal.NotHexadecimal holds h = absurd h
bytes_refused threads what bytes plan refusal.NotALine holds h = absurd h
bytes_refused threads what bytes plan (refusal.Layout fault) holds h = absurd h
bytes_refused threads what bytes plan (refusal.Line fault) holds h = absurd h
bytes_refused threads what bytes plan (refusal.Notation fault) holds h = absurd h
bytes_refused threads what bytes plan (refusal.Sweep why) holds h = absurd h

-- of bytes that are no plan to run
pub document_bytes : (threads : Bool) (what : RunText) (bytes : List ℕ) (r : CommandRefusal) →
    RefusesRunPlan bytes r → RefusesTextIn threads what bytes r
document_bytes threads what bytes refusal.OutOfMemory h = tt
document_bytes threads what bytes (refusal.Plan fault) h = h
document_bytes threads what bytes (refusal.Place number) h = h
document_bytes threads what bytes refusal.Strikes h = h
document_bytes threads what bytes (refusal.Run fault) h = absurd h
document_bytes threads what bytes refusal.Read h = absurd h
document_bytes threads what bytes refusal.NotHexadecimal h = absurd h
document_bytes threads what bytes refusal.NotALine h = absurd h
document_bytes threads what bytes (refusal.Layout fault) h = absurd h
document_bytes threads what bytes (refusal.Line fault) h = absurd h
document_bytes threads what bytes (refusal.Notation fault) h = absurd h
document_bytes threads what bytes (refusal.Sweep why) h = absurd h
document_bytes threads what bytes (refusal.Drawing levels) h = absurd h

-- where they were read from the input
pub document_refused : (before after : Option (List ℕ)) (bytes : List ℕ) (r : CommandRefusal) →
    IsRead before after bytes → RefusesRunPlan bytes r → RefusesRun before after r
document_refused before after bytes refusal.OutOfMemory read h = (bytes, read.0, read.1)
document_refused before after bytes (refusal.Plan fault) read h = (bytes, read, h)
document_refused before after bytes (refusal.Place number) read h = (bytes, read, h)
document_refused before after bytes refusal.Strikes read h = (bytes, read, h)
document_refused before after bytes (refusal.Run fault) read h = absurd h
document_refused before after bytes refusal.Read read h = absurd h
document_refused before after bytes refusal.NotHexadecimal read h = absurd h
document_refused before after bytes refusal.NotALine read h = absurd h
document_refused before after bytes (refusal.Layout fault) read h = absurd h
document_refused before after bytes (refusal.Line fault) read h = absurd h
document_refused before after bytes (refusal.Notation fault) read h = absurd h
document_refused before after bytes (refusal.Sweep why) read h = absurd h
document_refused before after bytes (refusal.Drawing levels) read h = absurd h

-- of the plan on the input
refused_by : (threads : Bool) (what : RunText) (before after : Option (List ℕ)) (plan : PlanValue)
    (r : CommandRefusal) → HoldsPlan before after plan → RefusesRunOf threads what plan r →
    RefusesText threads what before after r
refused_by threads what before after plan refusal.OutOfMemory holds h = (holds.0, holds.1.0, holds.1.1)
refused_by threads what before after plan (refusal.Run fault) holds h = (holds.0, plan, holds.1, holds.2, h)
refused_by threads what before after plan (refusal.Drawing levels) holds h =
    (holds.0, plan, h.0, holds.1, holds.2, h.1, h.2)
refused_by threads what before after plan refusal.Read holds h = absurd h
refused_by threads what before after plan (refusal.Plan fault) holds h = absurd h
refused_by threads what before after plan (refusal.Place number) holds h = absurd h
refused_by threads what before after plan refusal.Strikes holds h = absurd h
refused_by threads what before after plan refusal.NotHexadecimal holds h = absurd h
refused_by threads what before after plan refusal.NotALine holds h = absurd h
refused_by threads what before after plan (refusal.Layout fault) holds h = absurd h
refused_by threads what before after plan (refusal.Line fault) holds h = absurd h
refused_by threads what before after plan (refusal.Notation fault) holds h = absurd h
refused_by threads what before after plan (refusal.Sweep why) holds h = absurd h

-- in one thread
pub run_refused : (what : RunText) (before after : Option (List ℕ)) (plan : PlanValue) (r : CommandRefusal) →
    HoldsPlan before after plan → RefusesRunOf false what plan r → RefusesText false what before after r
run_refused = refused_by false

-- and in threads
pub threads_refused : (what : RunText) (before after : Option (List ℕ)) (plan : PlanValue) (r : CommandRefusal) →
    HoldsPlan before after plan → RefusesRunOf true what plan r → RefusesText true what before after r
threads_refused = refused_by true

-- what is no drawing is refused as any run
pub plain_refused : (threads : Bool) (what : RunText) (before after : Option (List ℕ)) (r : CommandRefusal) →
    IsPlain what → RefusesText threads what before after r → RefusesBy (MayFault threads) before after r
plain_refused threads what before after (refusal.Drawing levels) plain h =
    absurd (none_large what h.1 h.2 levels plain h.6)
plain_refused threads what before after refusal.OutOfMemory plain h = h
plain_refused threads what before after refusal.Read plain h = h
plain_refused threads what before after (refusal.Plan fault) plain h = h
plain_refused threads what before after (refusal.Place number) plain h = h
plain_refused threads what before after refusal.Strikes plain h = h
plain_refused threads what before after (refusal.Run fault) plain h = h
plain_refused threads what before after refusal.NotHexadecimal plain h = h
plain_refused threads what before after refusal.NotALine plain h = h
plain_refused threads what before after (refusal.Layout fault) plain h = h
plain_refused threads what before after (refusal.Line fault) plain h = h
plain_refused threads what before after (refusal.Notation fault) plain h = h
plain_refused threads what before after (refusal.Sweep why) plain h = h

-- what is said of the bytes that were read is what is said of the input
pub said_of_input : (before after : Option (List ℕ)) (bytes : List ℕ) (said : PlanCheck) → IsRead before after bytes →
    IsSaidOf bytes said → IsChecked before after said
said_of_input before after bytes (Hints text) read is = (bytes, read, is)
said_of_input before after bytes (Mistake text) read is = (bytes, read, is)
