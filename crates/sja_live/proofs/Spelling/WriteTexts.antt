-- The steps that a write by address is have texts.
use Rattle.std.proofs.Common.{ℕ, ◌+◌, ◌*◌, ◌<◌, Bool, true, false, List, [], ◌∷◌, ◌++◌, All, arith}
use Rattle.std.specs.Prelude.{if◌then◌else◌, ◌==◌, ◌||◌}
use Rattle.std.proofs.lemmas.List.Elements.{All-nil, All-cons, All-append}
use Rattle.sja_plan_text.specs.HasTexts.{HasStepText}
use Rattle.sja_driver.specs.CommandWrites.{command_byte, command_steps, commands, permitted_part, releases}
use Rattle.sja_driver.specs.ModeWrites.{closing, leaving, mode_steps, reset_byte, taking}
use Rattle.sja_driver.specs.Writes.{write_steps}
use Rattle.sja_regs.specs.Bits.{byte}
use Rattle.sja_regs.specs.Commands.{command_of}
use Rattle.sja_regs.specs.Modes.{mode_of}
use Rattle.sja_regs.specs.Registers.{is_forced}
use Rattle.sja_regs.specs.Writing.{is_other_mode}
use Rattle.sja_regs.specs.declared.command.Command.{Command as CommandBits}
use Rattle.sja_regs.specs.declared.mode.Mode.{Mode}
use Rattle.sja_regs.specs.declared.registers.Registers.{Registers}
use Rattle.sja_steps.specs.declared.step.Step.{Step}
use Rattle.sja_steps.specs.declared.step.Step.TheVariants.{Start, Stop, Release, Write, Command}
use Rattle.sja_session.specs.ByAddress.{steps_by}

-- ---- bytes

byte_more : (b : Bool) (bits : List Bool) (most : ℕ) → byte bits < most → byte (b ∷ bits) < 2 * most
byte_more true bits most few = omega (arith, few)
byte_more false bits most few = omega (arith, few)

three : (a b c : Bool) → byte (a ∷ b ∷ c ∷ []) < 8
three a b c = byte_more a (b ∷ c ∷ []) 4 (byte_more b (c ∷ []) 2 (byte_more c [] 1 (omega arith)))

command_few : (c : CommandBits) → command_byte c < 256
command_few c =
    let few = byte_more c.tr (c.at ∷ c.rrb ∷ c.cdo ∷ c.srr ∷ []) 16
    (byte_more c.at (c.rrb ∷ c.cdo ∷ c.srr ∷ []) 8 (three c.rrb c.cdo c.srr)) in omega (arith, few)

reset_few : (m : Mode) → reset_byte m < 256
reset_few m =
    let rest = false ∷ false ∷ false ∷ false ∷ [] in
    let none : byte rest < 1 = omega arith in
    let few = byte_more true (m.lom ∷ m.stm ∷ m.afm ∷ rest) 8
    (byte_more m.lom (m.stm ∷ m.afm ∷ rest) 4 (byte_more m.stm (m.afm ∷ rest) 2 (byte_more m.afm rest 1 none))) in
    omega (arith, few)

-- ---- steps

module _ (version : ℕ) where
  abbrev Texts : List Step → Type 0
  Texts steps = All (HasStepText version) steps

  no_text : Texts []
  no_text = All-nil (HasStepText version)

  one_text : (s : Step) → HasStepText version s → Texts (s ∷ [])
  one_text s h = All-cons (HasStepText version) s [] h no_text

  joined : (some more : List Step) → Texts some → Texts more → Texts (some ++ more)
  joined some more s m = All-append (HasStepText version) some more s m

  leaving_texts : (now new : Mode) → Texts (leaving now new)
  leaving_texts now new = joined (taking now new) (Start ∷ []) (by (is_other_mode now new)) (one_text Start tt)
    where
      by : (b : Bool) → Texts (if b then Write 0 (reset_byte new) ∷ [] else [])
      by true = one_text (Write 0 (reset_byte new)) (omega arith, reset_few new)
      by false = no_text

  closing_texts : (out : Bool) → Texts (closing out)
  closing_texts true = one_text Stop tt
  closing_texts false = no_text

  mode_texts : (now : Mode) (forced out : Bool) (value : ℕ) → value < 256 → Texts (mode_steps now forced out value)
  mode_texts now forced out value v = by now.rm ((mode_of value).rm || forced) (mode_of value).rm
    where
      one : Texts (Write 0 value ∷ [])
      one = one_text (Write 0 value) (omega arith, v)

      by : (rm either new : Bool) → Texts (if rm
          then if either then Write 0 value ∷ [] else closing out ++ leaving now (mode_of value)
          else if new then Stop ∷ [] else Write 0 value ∷ [])
      by true true new = one
      by true false new = joined (closing out) (leaving now (mode_of value)) (closing_texts out)
          (leaving_texts now (mode_of value))
      by false either true = one_text Stop tt
      by false either false = one

  command_texts : (p : Registers) (c : CommandBits) → Texts (command_steps p c)
  command_texts p c = by p.mode.rm
    where
      some : (b : Bool) → Texts (if b then [] else Command (command_byte (permitted_part p c)) ∷ [])
      some true = no_text
      some false = one_text (Command (command_byte (permitted_part p c))) (command_few (permitted_part p c))

      released : (b : Bool) → Texts (releases b)
      released true = one_text Release tt
      released false = no_text

      by : (b : Bool) → Texts (if b then [] else commands (command_byte (permitted_part p c)) ++ releases c.rrb)
      by true = no_text
      by false = joined (commands (command_byte (permitted_part p c))) (releases c.rrb)
          (some (command_byte (permitted_part p c) == 0)) (released c.rrb)

  typed_texts : (p : Registers) (out : Bool) (address value : ℕ) → address < 256 → value < 256 →
      Texts (write_steps p out address value)
  typed_texts p out address value a v = by (address == 0) (address == 1)
    where
      by : (zero one : Bool) → Texts (if zero then mode_steps p.mode (is_forced p) out value
          else if one then command_steps p (command_of value) else Write address value ∷ [])
      by true one = mode_texts p.mode (is_forced p) out value v
      by false true = command_texts p (command_of value)
      by false false = one_text (Write address value) (a, v)

  -- the steps that it is by bytes, or by typed steps
  pub write_texts : (bytes : Bool) (p : Registers) (out : Bool) (address value : ℕ) → address < 256 → value < 256 →
      Texts (steps_by bytes p out address value)
  write_texts true p out address value a v = one_text (Write address value) (a, v)
  write_texts false p out address value a v = typed_texts p out address value a v
