-- A try of a write: what the port answers and leaves, with the link as it was.
use Rattle.std.proofs.Common.{◌≡◌, ◌+◌, ℕ, Bool, true, false, List, [], ◌++◌, refl, sym, ap, ◌∙◌, subst, add-zero}
use Rattle.std.proofs.Common.{append-nil}
use Rattle.std.specs.Prelude.{Result, Ok, Err}
use Rattle.sja_journal.specs.Lists.{Lists}
use Rattle.sja_regs.specs.declared.reg_fault.RegFault.{RegFault}
use Rattle.sja_regs.specs.declared.registers.Registers.{Registers}
use Rattle.sja_regs.specs.Refusals.{fault_of}
use Rattle.sja_steps.specs.declared.step.Step.TheVariants.{Write}
use Rattle.sja_steps.specs.declared.step_answer.StepAnswer.{StepAnswer}
use Rattle.sja_driver.specs.declared.any_driver.AnyDriver.{AnyDriver}
use Rattle.sja_driver.specs.declared.any_driver.AnyDriver.TheVariants.{InReset, InActive}
use Rattle.sja_driver.specs.Acting.{Acts, Does, IfOut}
use Rattle.sja_driver.specs.AnyDrivers.{IsDriverOf, is_out, held_of, off_of, opened_of}
use Rattle.sja_driver.specs.Answers.{done_unless}
use Rattle.sja_driver.specs.Inside.Attempts.{done_answer}
use Rattle.sja_driver.specs.Calls.{Writes}
use Rattle.sja_driver.specs.Carried.{ported}
use Rattle.sja_driver.specs.TypedActs.{FitsState}
use Rattle.sja_driver.specs.Giving.{IsGiven}
use Rattle.sja_driver.specs.Tries.{IsQuiet}
use Rattle.sja_driver.specs.Tries.Tried.{Answered}

-- a write leaves what its answer says
left : {A : Type 0} (p q : Registers) (address value : ℕ) (result : Result A RegFault) →
    Writes p q address value result → q ≡ ported p (Write address value) (done_answer result)
left p q address value (Ok x) w = w.written
left p q address value (Err fault) w = w.unchanged

answered : {A : Type 0} (result : Result A RegFault) → done_answer result ≡ done_unless (fault_of result)
answered (Ok x) = refl
answered (Err fault) = refl

-- an end that was left alone
gives_none : {E : Type 0} (stands : E → Lists → Type 0) (e : E) → IsGiven stands e e []
gives_none stands e l h =
    subst (λ xs. stands e (record l { given = xs })) (sym (append-nil l.given)) h

pub does_none : {E : Type 0} (stands : E → Lists → Type 0) (e : E) (held : List (List ℕ)) (off : _) →
    Does stands e e held held off off [] []
does_none stands e held off = record {
  got = [];
  lists = λ l h. subst (λ xs. stands e (record l { got = xs; given = l.given ++ [] })) (sym (append-nil l.got))
      (gives_none stands e l h);
  told = sym (append-nil held);
  off_is = refl;
}

same_place : (d : AnyDriver) (node n : ℕ) → IsDriverOf node n d → IsDriverOf node (n + 0) d
same_place d node n h = subst (λ (k : ℕ). IsDriverOf node k d) (sym (add-zero n)) h

-- in reset, and out of it
pub if_out : (d : AnyDriver) (P : Type 0) → P → IfOut d P
if_out (InReset d) P h = tt
if_out (InActive d) P h = h

module _ {E : Type 0} (alike : E → E → Type 0) (stands : E → Lists → Type 0) (dry full : E → Type 0) (e : E)
    (p q : Registers) (address value : ℕ) {A : Type 0} (result : Result A RegFault)
    (w : Writes p q address value result) where
  quiet_write : (d : AnyDriver) → IsQuiet p (Write address value) d (Answered (done_answer result))
  quiet_write (InReset d) = refl
  quiet_write (InActive d) = tt

  fits_write : (version opened : ℕ) (active : Bool) (answer : StepAnswer) →
      FitsState version active opened (Write address value) answer
  fits_write version opened true answer = tt
  fits_write version opened false answer = tt

  pub wrote_acts : (d : AnyDriver) →
      Acts alike stands dry full e e p q (Write address value) d d (Answered (done_answer result))
  wrote_acts d = record {
    does = does_none stands e (held_of d) (off_of d);
    still = (gives_none stands e, refl, refl);
    port = left p q address value result w;
    fits = fits_write p.version (opened_of d) (is_out d) (done_answer result);
    sees = if_out d _ tt;
    tells = answered result ∙ ap done_unless w.refused;
    looks = if_out d _ tt;
    waits = tt;
    kind = refl;
    out = refl;
    opens = sym (add-zero (opened_of d));
    place = same_place d;
    quiet = quiet_write d;
  }
