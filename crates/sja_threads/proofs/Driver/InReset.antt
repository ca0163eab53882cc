-- The port of a driver that is in reset.
use Rattle.std.proofs.Common.{◌≡◌, Bool, true, false, List, refl, sym, ◌∙◌, ap}
use Rattle.std.specs.Prelude.{◌||◌, not}
use Rattle.sja_link.specs.Showing.{seen_of}
use Rattle.sja_regs.specs.declared.registers.Registers.{Registers}
use Rattle.sja_regs.specs.DriverSettings.{SettingsValue}
use Rattle.sja_steps.specs.declared.step.Step.{Step}
use Rattle.sja_steps.specs.declared.step.Step.TheVariants.{Start}
use Rattle.sja_steps.specs.declared.step_answer.StepAnswer.{StepAnswer}
use Rattle.sja_steps.specs.declared.step_answer.StepAnswer.TheVariants.{Done}
use Rattle.sja_driver.specs.TypedActs.{TypedAct, opened, active_after, is_active}
use Rattle.sja_driver.proofs.LogOfSteps.Sections.{active_push}
use Rattle.sja_driver.proofs.Step.Modes.{rm_step}
use Rattle.sja_thread_promises.specs.Setting.{LeadToSettings}
use Rattle.sja_thread_promises.specs.Setting.LeadToSettings.{nothing_done, step_done}

-- a step after which a driver is in reset opened no activation
none_opened : (active : Bool) (step : Step) (answer : StepAnswer) → active_after active step answer ≡ false →
    opened step answer ≡ 0
none_opened active Start Done e = absurd cc
none_opened active this answer e = refl

-- where the registers are in reset mode for a driver in reset, they are after its step too
after_step : (b : Bool) (p : Registers) (step : Step) (answer : StepAnswer) → (b ≡ false → p.mode.rm ≡ true) →
    p.mode.rm ≡ (not b || p.mode.rm)
after_step true p this answer h = refl
after_step false p this answer h = h refl

pub reset_kept : (first : SettingsValue) (acts : List TypedAct) (s : SettingsValue) → LeadToSettings first acts s →
    first.mode.rm ≡ true → is_active acts ≡ false → s.mode.rm ≡ true
reset_kept first acts s nothing_done rm out = rm
reset_kept first acts s (step_done before d was p l has done) rm out =
    let ends : active_after (is_active before) d.step d.answer ≡ false = sym (active_push false before d) ∙ out in
    (rm_step p d.step d.answer (is_active before) (is_active before) (seen_of done.off done.window) p.mode.rm done.tells
    (after_step (is_active before) p d.step d.answer (λ e. has.reset (reset_kept first before was l rm e)))).0
    (none_opened (is_active before) d.step d.answer ends) ∙ ap (λ (b : Bool). not b || p.mode.rm) ends
