-- TBS is 1 in reset mode, and 0 as long as an abort stands: a step and a turn of the bus keep that.
use Rattle.std.proofs.Common.{◌≡◌, ℕ, Bool, true, false, refl, sym, ap, ◌∙◌, inl, inr}
use Rattle.std.specs.Prelude.{◌||◌, ◌&&◌, not}
use Rattle.can_frame.specs.declared.buffer_view.BufferView.{BufferView}
use Rattle.sja_regs.specs.declared.bus_turn.BusTurn.{BusTurn}
use Rattle.sja_regs.specs.declared.registers.Registers.{Registers}
use Rattle.sja_regs.specs.Commands.{command_of, requests}
use Rattle.sja_regs.specs.Turns.{ends, goes_off, after_turn}
use Rattle.sja_steps.specs.declared.step.Step.{Step}
use Rattle.sja_steps.specs.declared.step.Step.TheVariants.{Start, Stop, Window, Release, Read}
use Rattle.sja_steps.specs.declared.step.Step.TheVariants.{Write, Load, Command, Await, Sent, Interrupt, At}
use Rattle.sja_steps.specs.declared.step_answer.StepAnswer.{StepAnswer}
use Rattle.sja_steps.specs.declared.step_answer.StepAnswer.TheVariants.{Done, Released}
use Rattle.sja_driver.specs.Carried.{Tells, carried, ported, asks_abort}
use Rattle.sja_driver.specs.TypedActs.{FitsState, opened, active_after}
use Rattle.sja_driver.proofs.Step.Modes.{rm_step, abort_step}
use Rattle.sja_driver.proofs.Registers.TransmitBuffer.{tbs_by, tbs_step, accepted_out}

pub record TbsIsRight (p : Registers) : Type 0 where
  pub in_reset : p.mode.rm ≡ true → p.tbs ≡ true
  pub in_abort : p.abort ≡ true → p.tbs ≡ false

-- ---- a step

-- one that neither enters nor leaves reset mode, touches no TBS and asks for no abort
quiet : (p : Registers) (s : Step) (r : StepAnswer) (active : Bool) (seen : BufferView) → Tells s active p seen r →
    opened s r ≡ 0 → active_after true s r ≡ true → tbs_by p.tbs (carried p s r) ≡ p.tbs → asks_abort s r ≡ false →
    TbsIsRight p → TbsIsRight (ported p s r)
quiet p s r active seen tells none still same asks h = record {
  in_reset = λ e. tbs ∙ h.in_reset (sym rm ∙ e);
  in_abort = λ e. tbs ∙ h.in_abort (elim (abort_step p s r e) [
    | inl stood ↦ stood
    | inr asked ↦ let no : false ≡ true = sym asks ∙ asked in absurd cc
  ]);
}
  where
    tbs : (ported p s r).tbs ≡ p.tbs
    tbs = tbs_step p s r ∙ same

    rm : (ported p s r).mode.rm ≡ p.mode.rm
    rm = (rm_step p s r true active seen p.mode.rm tells refl).0 none ∙ ap (λ b. not b || p.mode.rm) still

-- an abort stands after a command only where a request is under way
under_way : (was at asks tbs : Bool) → (was ≡ true → tbs ≡ false) → (was || at && not asks && not tbs) ≡ true →
    (tbs && not asks) ≡ false
under_way was at asks false h e = refl
under_way true at asks true h e = absurd (let no = h refl in cc)
under_way false at true true h e = refl
under_way false true false true h e = absurd cc
under_way false false false true h e = absurd cc

pub tbs_after_step : (version : ℕ) (p : Registers) (n : ℕ) (s : Step) (r : StepAnswer) (active : Bool)
    (seen : BufferView) →
    FitsState version active n s r → Tells s active p seen r → TbsIsRight p → TbsIsRight (ported p s r)
tbs_after_step version p n Start Done active seen fits tells h = record {
  in_reset = λ e. let no = (rm_step p Start Done true active seen p.mode.rm tells refl).1 refl in absurd cc;
  in_abort = λ e. tbs_step p Start Done ∙ h.in_abort (elim (abort_step p Start Done e) [
    | inl stood ↦ stood
    | inr asked ↦ absurd cc
  ]);
}
tbs_after_step version p n Stop Done active seen fits tells h =
    record { in_reset = λ e. refl; in_abort = λ e. absurd cc }
tbs_after_step version p n (Command v) Done true seen fits tells h = record {
  in_reset = λ e. let out = accepted_out p v tells in absurd cc;
  in_abort = under_way p.abort (command_of v).at (requests (command_of v)) p.tbs h.in_abort;
}
tbs_after_step version p n (Command v) Done false seen fits tells h = absurd cc
tbs_after_step version p n Release (Released k) active seen fits tells h =
    quiet p Release (Released k) active seen tells refl refl refl refl h
tbs_after_step version p n Start r active seen fits tells h = h
tbs_after_step version p n Stop r active seen fits tells h = h
tbs_after_step version p n (Command v) r active seen fits tells h = h
tbs_after_step version p n Release r active seen fits tells h = h
tbs_after_step version p n Window r active seen fits tells h = h
tbs_after_step version p n (Read a) r active seen fits tells h =
    quiet p (Read a) r active seen tells refl refl refl refl h
tbs_after_step version p n (Write a v) r active seen fits tells h =
    quiet p (Write a v) r active seen tells refl refl refl refl h
tbs_after_step version p n (Load m) r active seen fits tells h =
    quiet p (Load m) r active seen tells refl refl refl refl h
tbs_after_step version p n (Await k) r active seen fits tells h = h
tbs_after_step version p n Sent r active seen fits tells h = h
tbs_after_step version p n Interrupt r active seen fits tells h = h
tbs_after_step version p n (At bits) r active seen fits tells h = h

-- ---- a turn of the bus

turned_reset : (ended off rm tbs : Bool) → (rm ≡ true → tbs ≡ true) → (off || rm) ≡ true →
    (ended || off || tbs) ≡ true
turned_reset true off rm tbs h e = refl
turned_reset false true rm tbs h e = refl
turned_reset false false rm tbs h e = h e

turned_abort : (ended off abort tbs : Bool) → (abort ≡ true → tbs ≡ false) → (not (ended || off) && abort) ≡ true →
    (ended || off || tbs) ≡ false
turned_abort true off abort tbs h e = absurd cc
turned_abort false true abort tbs h e = absurd cc
turned_abort false false abort tbs h e = h e

pub tbs_after_turn : (p : Registers) (turn : BusTurn) → TbsIsRight p → TbsIsRight (after_turn p turn)
tbs_after_turn p turn h = record {
  in_reset = turned_reset (ends p turn) (goes_off p turn) p.mode.rm p.tbs h.in_reset;
  in_abort = turned_abort (ends p turn) (goes_off p turn) p.abort p.tbs h.in_abort;
}
