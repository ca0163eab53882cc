-- A driver, its end and the activations that have ended.
use Rattle.std.proofs.Common.{◌≡◌, ◌+◌, ◌<◌, ◌≤◌, ℕ, suc, List, [], ◌∷◌, ◌++◌, length, refl, sym, ap, ◌∙◌, arith}
use Rattle.std.proofs.Common.{add-zero}
use Rattle.sja_link.specs.declared.link_id.LinkId.{LinkId}
use Rattle.sja_link.specs.declared.driver_ledger.DriverLedger.{DriverLedger}
use Rattle.sja_regs.specs.declared.registers.Registers.{Registers}
use Rattle.sja_steps.specs.declared.step.Step.{Step}
use Rattle.sja_driver.specs.declared.any_driver.AnyDriver.{AnyDriver}
use Rattle.sja_driver.specs.declared.any_driver.AnyDriver.TheVariants.{InReset, InActive}
use Rattle.sja_driver.specs.AnyDrivers.{IsDriverOf, link_used, opened_of}
use Rattle.sja_driver.specs.Drivers.{started_in, link_in}
use Rattle.sja_driver.specs.Inside.Entering.{IsAmong}
use Rattle.sja_driver.specs.Logs.{left_by}
use Rattle.sja_driver.specs.Tries.{Tried, ended_by, opened_after, IsQuiet}
use Rattle.sja_driver.specs.Tries.Tried.{Unmet, Answered, Released, Ended}

next_of : (a n : ℕ) → a ≡ n → a + 1 ≡ suc n
next_of a n e = omega (arith, e)

-- it uses the link of the activation after those that have ended
pub used_next : (node n : ℕ) (driver : AnyDriver) → IsDriverOf node n driver → link_used driver ≡ suc n
used_next node n (InReset d) h = next_of (started_in d) n h.1
used_next node n (InActive d) h = ap (λ (l : LinkId). l.activation) h ∙ next_of n n refl

pub left_count : (xs : List DriverLedger) (o : Tried) → length (xs ++ left_by o) ≡ length xs + ended_by o
left_count [] Unmet = refl
left_count [] (Answered a) = refl
left_count [] (Released m) = refl
left_count [] (Ended l) = refl
left_count (x ∷ xs) o = let e = left_count xs o in omega (arith, e)

among : (a opened n room : ℕ) → a ≡ (n + 0) + 1 → a ≡ opened → opened ≤ room → n < room
among a opened n room i o few = omega (arith, i, o, few)

-- where a message was released or an activation ended, it is one that the driver opened
pub is_among : (p : Registers) (step : Step) (node n room : ℕ) (was now : AnyDriver) (o : Tried) →
    opened_of was ≤ room → opened_of now ≡ opened_after (opened_of was) step o →
    IsDriverOf node (n + ended_by o) now → IsQuiet p step now o → IsAmong n room o
is_among p this node n room was now Unmet few opens own quiet = tt
is_among p this node n room was now (Answered answer) few opens own quiet = tt
is_among p this node n room was (InReset d) (Released m) few opens own quiet = absurd quiet
is_among p this node n room was (InActive d) (Released m) few opens own quiet =
    among (link_in d).activation (opened_of was) n room (ap (λ (l : LinkId). l.activation) own) opens few
is_among p this node n room was (InReset d) (Ended ledger) few opens own quiet =
    among (started_in d) (opened_of was) n room (own.1 ∙ ap (λ m. m + 1) (sym (add-zero n))) opens few
is_among p this node n room was (InActive d) (Ended ledger) few opens own quiet = absurd quiet
