-- A driver opens no more activations than it does steps: each step is one start at most.
use Rattle.std.proofs.Common.{◌≡◌, ◌+◌, ◌<◌, ◌≤◌, ◌++◌, ℕ, Bool, true, false, cond, List, [], ◌∷◌, length, map, refl}
use Rattle.std.proofs.Common.{ap, ◌∙◌, arith}
use Rattle.std.proofs.lemmas.List.{length-append}
use Rattle.std.specs.Prelude.{◌==◌, ◌||◌}
use Rattle.lemmas.specs.Gathering.{total}
use Rattle.lemmas.proofs.Gathered.{total_append}
use Rattle.sja_journal.specs.declared.entry.Entry.{Entry}
use Rattle.sja_regs.specs.declared.mode.Mode.{Mode}
use Rattle.sja_regs.specs.declared.registers.Registers.{Registers}
use Rattle.sja_regs.specs.Commands.{command_of}
use Rattle.sja_regs.specs.Modes.{mode_of}
use Rattle.sja_regs.specs.Registers.{is_forced}
use Rattle.sja_regs.specs.Writing.{is_other_mode}
use Rattle.sja_steps.specs.declared.step.Step.{Step}
use Rattle.sja_steps.specs.declared.step.Step.TheVariants.{Start, Stop, Window, Release, Read, Write, Load, Command}
use Rattle.sja_steps.specs.declared.step.Step.TheVariants.{Await, Sent, Interrupt, At}
use Rattle.sja_steps.specs.declared.step_answer.StepAnswer.{StepAnswer}
use Rattle.sja_steps.specs.declared.step_answer.StepAnswer.TheVariants.{Done as DoneAnswer, NoMessage, Shown, Released}
use Rattle.sja_steps.specs.declared.step_answer.StepAnswer.TheVariants.{Value, Refused, Ignored}
use Rattle.sja_driver.specs.declared.unmodelled_registers.UnmodelledRegisters.{UnmodelledRegisters}
use Rattle.sja_driver.specs.StepRuns.{StepRun, by_bytes, act_steps, acts_in}
use Rattle.sja_driver.specs.CommandWrites.{command_byte, commands, command_steps, permitted_part, releases}
use Rattle.sja_driver.specs.TypedActs.{TypedAct, is_active, opened, opened_by}
use Rattle.sja_driver.specs.ModeWrites.{closing, leaving, mode_steps, reset_byte, taking}
use Rattle.sja_driver.specs.Writes.{write_steps}
use Rattle.sja_promises.specs.Registering.{StepRunsLeadTo}
use Rattle.sja_promises.specs.Registering.StepRunsLeadTo.{power_on, step_run, bit}
use Rattle.sja_promises.proofs.Trace.StepRunActs.{acts_push}

-- ---- starts among steps

-- a start counts as one, whatever it is answered
abbrev is_start : Step → Bool
is_start Start = true
is_start other = false

abbrev starts_by : Step → ℕ
starts_by s = cond (is_start s) 1 0

-- how many of these are
abbrev starts_in : List Step → ℕ
starts_in = total starts_by

-- whether an act tried one
abbrev tried_by : TypedAct → ℕ
tried_by d = starts_by d.step

-- no step is more than one
one_at_most : (s : Step) → starts_by s ≤ 1
one_at_most s = by (is_start s)
  where
    by : (b : Bool) → cond b 1 0 ≤ 1
    by true = omega arith
    by false = omega arith

-- a step that opens an activation is one
opened_started : (s : Step) (r : StepAnswer) → opened s r ≤ starts_by s
opened_started Start DoneAnswer = omega arith
opened_started Start NoMessage = omega arith
opened_started Start (Shown m) = omega arith
opened_started Start (Released n) = omega arith
opened_started Start (Value n) = omega arith
opened_started Start (Refused why) = omega arith
opened_started Start (Ignored cause) = omega arith
opened_started Stop r = omega arith
opened_started Window r = omega arith
opened_started Release r = omega arith
opened_started (Read address) r = omega arith
opened_started (Write address value) r = omega arith
opened_started (Load m) r = omega arith
opened_started (Command value) r = omega arith
opened_started (Await count) r = omega arith
opened_started Sent r = omega arith
opened_started Interrupt r = omega arith
opened_started (At bits) r = omega arith

-- so no more activations are opened than starts are tried
opened_tried : (acts : List TypedAct) → opened_by acts ≤ total tried_by acts
opened_tried [] = omega arith
opened_tried (d ∷ acts) =
    let one = opened_started d.step d.answer in let rest = opened_tried acts in omega (arith, one, rest)

-- acts are as many tries as their steps are starts
tried_steps : (acts : List TypedAct) → total tried_by acts ≡ starts_in (map (λ (d : TypedAct). d.step) acts)
tried_steps [] = refl
tried_steps (d ∷ acts) = ap (λ n. starts_by d.step + n) (tried_steps acts)

-- ---- of the steps that a write is one at most is a start

-- a step that is there or isn't, and is no start
none_if : (b : Bool) (s : Step) → starts_by s ≡ 0 → starts_in (cond b (s ∷ []) []) ≡ 0
none_if true s none = omega (arith, none)
none_if false s none = refl

none_or : (b : Bool) (s : Step) → starts_by s ≡ 0 → starts_in (cond b [] (s ∷ [])) ≡ 0
none_or true s none = refl
none_or false s none = omega (arith, none)

-- leaving reset mode is one
leaves_once : (now new : Mode) → starts_in (leaving now new) ≡ 1
leaves_once now new =
    let none = none_if (is_other_mode now new) (Write 0 (reset_byte new)) refl in
    let both = total_append starts_by (taking now new) (Start ∷ []) in omega (arith, none, both)

-- so a write of MOD is one or none
mode_once : (now : Mode) (forced out : Bool) (value : ℕ) → starts_in (mode_steps now forced out value) ≤ 1
mode_once now forced out value = by now.rm ((mode_of value).rm || forced) ((mode_of value).rm)
  where
    by : (rm same new : Bool) → starts_in (cond rm (cond same (Write 0 value ∷ []) (closing out ++ leaving now
        (mode_of value)))
        (cond new (Stop ∷ []) (Write 0 value ∷ []))) ≤ 1
    by true true new = omega arith
    by true false new =
        let none = none_if out Stop refl in let once = leaves_once now (mode_of value) in
        let both = total_append starts_by (closing out) (leaving now (mode_of value)) in omega (arith, none, once, both)
    by false same true = omega arith
    by false same false = omega arith

-- a write of CMR is none
command_never : (p : Registers) (value : ℕ) → starts_in (command_steps p (command_of value)) ≡ 0
command_never p value = by p.mode.rm
  where
    byte : ℕ
    byte = command_byte (permitted_part p (command_of value))

    by : (rm : Bool) → starts_in (cond rm [] (commands byte ++ releases (command_of value).rrb)) ≡ 0
    by true = refl
    by false =
        let first = none_or (byte == 0) (Command byte) refl in
        let second = none_if (command_of value).rrb Release refl in
        let both = total_append starts_by (commands byte) (releases (command_of value).rrb) in
        omega (arith, first, second, both)

-- nor is one of another address
write_once : (p : Registers) (active : Bool) (address value : ℕ) →
    starts_in (write_steps p active address value) ≤ 1
write_once p active address value = by (address == 0) (address == 1)
  where
    by : (first second : Bool) → starts_in (cond first (mode_steps p.mode (is_forced p) active value)
        (cond second (command_steps p (command_of value)) (Write address value ∷ []))) ≤ 1
    by true second = mode_once p.mode (is_forced p) active value
    by false true = let none = command_never p value in omega (arith, none)
    by false false = omega arith

-- no step is more starts than one, of the acts that it is
starts_once : (bytes : Bool) (p : Registers) (active : Bool) (s : Step) → starts_in (act_steps bytes p active s) ≤ 1
starts_once true p active (Write address value) = write_once p active address value
starts_once true p active Start = omega arith
starts_once true p active Stop = omega arith
starts_once true p active Window = omega arith
starts_once true p active Release = omega arith
starts_once true p active (Read address) = omega arith
starts_once true p active (Load m) = omega arith
starts_once true p active (Command value) = omega arith
starts_once true p active (Await count) = omega arith
starts_once true p active Sent = omega arith
starts_once true p active Interrupt = omega arith
starts_once true p active (At n) = omega arith
starts_once false p active s = let one = one_at_most s in omega (arith, one)

-- ---- of all steps of a driver

-- so a driver tries no more starts than it does steps
tried_few : (version : ℕ) (j : List Entry) (step_runs : List StepRun) (kept : UnmodelledRegisters) (p : Registers) →
    StepRunsLeadTo version j step_runs kept p → total tried_by (acts_in step_runs) ≤ length step_runs
tried_few version j _ _ _ power_on = omega arith
tried_few version j step_runs kept p (bit before _ _ _ was _ led _) =
    tried_few version before step_runs kept was led
tried_few version k _ _ _ (step_run j _ before a was _ p _ led now is on) =
    let so_far = tried_few version j before was p led in
    let all = ap (total tried_by) (acts_push before a) ∙ total_append tried_by (acts_in before) a.acts in
    let long = length-append before (a ∷ []) in
    let steps = tried_steps a.acts ∙ ap starts_in is.steps in
    let one = starts_once (by_bytes version) p (is_active (acts_in before)) a.step in
    omega (arith, so_far, all, long, steps, one)

-- before a start fewer activations have been opened than steps are done
pub opened_before : (version : ℕ) (j : List Entry) (step_runs : List StepRun) (kept : UnmodelledRegisters)
    (p : Registers) →
    StepRunsLeadTo version j step_runs kept p → (before after : List TypedAct) (d : TypedAct) →
    acts_in step_runs ≡ before ++ d ∷ after → d.step ≡ Start → opened_by before < length step_runs
opened_before version j step_runs kept p led before after d split start =
    let few = tried_few version j step_runs kept p led in
    let all = ap (total tried_by) split ∙ total_append tried_by before (d ∷ after) in
    let one : tried_by d ≡ 1 = ap starts_by start in
    let less = opened_tried before in omega (arith, few, all, one, less)
