-- Commands as bytes, and what a port says of what can be done.
use Rattle.std.proofs.Common.{◌≡◌, Bool, true, false, None, [], ◌∷◌, refl, ap, ◌∙◌}
use Rattle.std.specs.Prelude.{◌||◌, ◌&&◌, not}
use Rattle.sja_regs.specs.declared.command.Command.{Command}
use Rattle.sja_regs.specs.declared.reg_fault.RegFault.TheVariants.{ActiveOnly, UseTyped}
use Rattle.sja_regs.specs.declared.reg_fault.RegFault.TheVariants.{NotInVersion, ListenOnly, Locked}
use Rattle.sja_regs.specs.declared.registers.Registers.{Registers}
use Rattle.sja_regs.specs.Commands.{command_of, command_faults}
use Rattle.sja_regs.specs.Refusals.{first_fault}
use Rattle.sja_regs.specs.Writing.{is_first_version}
use Rattle.sja_driver.specs.CommandWrites.{command_byte, permitted_part}

back_of : (tr at rrb cdo srr : Bool) →
    command_of (command_byte (record { tr = tr; at = at; rrb = rrb; cdo = cdo; srr = srr }))
    ≡ record { tr = tr; at = at; rrb = rrb; cdo = cdo; srr = srr }
back_of true true true true true = refl
back_of true true true true false = refl
back_of true true true false true = refl
back_of true true true false false = refl
back_of true true false true true = refl
back_of true true false true false = refl
back_of true true false false true = refl
back_of true true false false false = refl
back_of true false true true true = refl
back_of true false true true false = refl
back_of true false true false true = refl
back_of true false true false false = refl
back_of true false false true true = refl
back_of true false false true false = refl
back_of true false false false true = refl
back_of true false false false false = refl
back_of false true true true true = refl
back_of false true true true false = refl
back_of false true true false true = refl
back_of false true true false false = refl
back_of false true false true true = refl
back_of false true false true false = refl
back_of false true false false true = refl
back_of false true false false false = refl
back_of false false true true true = refl
back_of false false true true false = refl
back_of false false true false true = refl
back_of false false true false false = refl
back_of false false false true true = refl
back_of false false false true false = refl
back_of false false false false true = refl
back_of false false false false false = refl

-- a command's byte says all of it
pub command_back : (c : Command) → command_of (command_byte c) ≡ c
command_back c = back_of c.tr c.at c.rrb c.cdo c.srr

abbrev may : Bool → Bool → Bool → Bool → Bool
may tr first lom tbs = (tr || not first) && (not lom && tbs)

-- by TR and SRR as they are left in, none of the five reasons holds
none_holds : (rm tr srr first lom tbs : Bool) → rm ≡ false →
    first_fault ((rm, ActiveOnly)
    ∷ (false, UseTyped)
    ∷ ((srr && not first && may tr first lom tbs) && first, NotInVersion)
    ∷ (((tr && may tr first lom tbs) || (srr && not first && may tr first lom tbs)) && lom, ListenOnly)
    ∷ (((tr && may tr first lom tbs) || (srr && not first && may tr first lom tbs)) && not tbs, Locked)
    ∷ []) ≡ None
none_holds true tr srr first lom tbs e = absurd cc
none_holds false false false first lom tbs e = refl
none_holds false false true true lom tbs e = refl
none_holds false false true false true tbs e = refl
none_holds false false true false false true e = refl
none_holds false false true false false false e = refl
none_holds false true false first true tbs e = refl
none_holds false true false first false true e = refl
none_holds false true false first false false e = refl
none_holds false true true true true tbs e = refl
none_holds false true true true false true e = refl
none_holds false true true true false false e = refl
none_holds false true true false true tbs e = refl
none_holds false true true false false true e = refl
none_holds false true true false false false e = refl

-- out of reset mode a port refuses nothing that can be done
pub none_refused : (p : Registers) (c : Command) → p.mode.rm ≡ false →
    first_fault (command_faults p (command_of (command_byte (permitted_part p c)))) ≡ None
none_refused p c rm = ap (λ (d : Command). first_fault (command_faults p d)) (command_back (permitted_part p c))
    ∙ none_holds p.mode.rm c.tr c.srr (is_first_version p) p.mode.lom p.tbs rm
