-- The steps of a typed driver that a write of CMR is (SJA1000 data sheet, 6.4.4).
use Rattle.std.specs.Prelude.{◌==◌, ◌||◌, ◌&&◌, ◌++◌, not, ℕ, Bool, false, if◌then◌else◌, List, [], ◌∷◌}
use Rattle.sja_regs.specs.declared.command.Command.{Command as CommandBits}
use Rattle.sja_regs.specs.declared.registers.Registers.{Registers}
use Rattle.sja_regs.specs.Bits.{byte}
use Rattle.sja_regs.specs.Commands.{requests}
use Rattle.sja_regs.specs.Writing.{is_first_version}
use Rattle.sja_steps.specs.declared.step.Step.{Step}
use Rattle.sja_steps.specs.declared.step.Step.TheVariants.{Release, Command}

-- the byte with these bits
abbrev pub command_byte : CommandBits → ℕ
command_byte c = byte (c.tr ∷ c.at ∷ c.rrb ∷ c.cdo ∷ c.srr ∷ [])

-- a request can be made where TBS is 1 and the mode isn't listen only; with SRR alone from version 2 on
abbrev pub may_request : Registers → CommandBits → Bool
may_request p c = (c.tr || not (is_first_version p)) && (not p.mode.lom && p.tbs)

-- of a command what can be done, but for RRB, which is a step of its own: each bit does its own. A request that can't
-- be made is left out with its AT, which is no abort then (this project's own rule); CDO is always done
abbrev pub permitted_part : Registers → CommandBits → CommandBits
permitted_part p c =
    record {
      tr = c.tr && may_request p c;
      at = c.at && (may_request p c || not (requests c));
      rrb = false;
      cdo = c.cdo;
      srr = c.srr && not (is_first_version p) && may_request p c;
    }

-- a command with at least one bit
abbrev pub commands : ℕ → List Step
commands value = if value == 0 then [] else Command value ∷ []

-- a release, where RRB is set
abbrev pub releases : Bool → List Step
releases rrb = if rrb then Release ∷ [] else []

-- in reset mode every write is ignored (this project's own rule: of the data sheet the reset values of the bits alone
-- speak of it, "absent" and "no action", 6.4.2). Out of it the command comes first, and then the release
abbrev pub command_steps : Registers → CommandBits → List Step
command_steps p c = if p.mode.rm then [] else commands (command_byte (permitted_part p c)) ++ releases c.rrb
