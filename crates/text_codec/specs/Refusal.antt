-- What the program says where it refuses (this project's own rule). Faults have numbers, and places count from 0.
use Rattle.std.specs.Prelude.{ℕ, List, [], ◌∷◌, ◌++◌, codes, decimal}
use Rattle.can_frame.specs.declared.layout_fault.LayoutFault.{LayoutFault}
use Rattle.can_frame.specs.declared.layout_fault.LayoutFault.TheVariants.{Short, Long, UnusedBit, RtrDisagrees}
use Rattle.can_levels.specs.declared.line_fault.LineFault.{LineFault}
use Rattle.can_levels.specs.declared.line_fault.LineFault.TheVariants.{Stuff, Form, Crc, NoAck, Truncated, Trailing}
use Rattle.can_notation.specs.declared.notation_fault.NotationFault.{NotationFault}
use Rattle.can_notation.specs.declared.notation_fault.NotationFault.TheVariants as notation
use Rattle.sja_plan_reading.specs.declared.plan_fault.PlanFault.{PlanFault}
use Rattle.sja_plan_reading.specs.declared.plan_fault.PlanFault.TheVariants as plan
use Rattle.sja_log.specs.declared.run_fault.RunFault.{RunFault}
use Rattle.sja_log.specs.declared.run_fault.RunFault.TheVariants as run
use Rattle.text_codec.specs.declared.sweep_refusal.SweepRefusal.{SweepRefusal}
use Rattle.text_codec.specs.declared.sweep_refusal.SweepRefusal.TheVariants as sweep
use Rattle.text_codec.specs.declared.command_refusal.CommandRefusal.{CommandRefusal}
use Rattle.text_codec.specs.declared.command_refusal.CommandRefusal.TheVariants as refusal

-- what is wrong with the layout of a message
abbrev pub layout_fault_text : LayoutFault → List ℕ
layout_fault_text Short = codes "layout fault 1 Short"
layout_fault_text Long = codes "layout fault 2 Long"
layout_fault_text UnusedBit = codes "layout fault 3 UnusedBit"
layout_fault_text RtrDisagrees = codes "layout fault 4 RtrDisagrees"

-- what is wrong with a line, with its place where it has one
abbrev pub line_fault_text : LineFault → List ℕ
line_fault_text (Stuff at) = codes "line fault 1 Stuff at " ++ decimal at
line_fault_text (Form at) = codes "line fault 2 Form at " ++ decimal at
line_fault_text Crc = codes "line fault 3 Crc"
line_fault_text NoAck = codes "line fault 4 NoAck"
line_fault_text Truncated = codes "line fault 5 Truncated"
line_fault_text (Trailing at) = codes "line fault 6 Trailing at " ++ decimal at

-- what is wrong with a text in can-utils' notation
abbrev pub notation_fault_text : NotationFault → List ℕ
notation_fault_text notation.NoHash = codes "notation fault 1 NoHash"
notation_fault_text notation.Identifier = codes "notation fault 2 Identifier"
notation_fault_text notation.Data = codes "notation fault 3 Data"

-- what is wrong with a plan. Nodes count from 0, steps, turns and strikes from 1
abbrev pub plan_fault_text : PlanFault → List ℕ
plan_fault_text plan.TooLong = codes "plan fault 1 TooLong"
plan_fault_text plan.NotText = codes "plan fault 2 NotText"
plan_fault_text plan.Toml = codes "plan fault 3 Toml"
plan_fault_text plan.Key = codes "plan fault 4 Key"
plan_fault_text plan.Version = codes "plan fault 5 Version"
plan_fault_text plan.Bits = codes "plan fault 6 Bits"
plan_fault_text plan.NodeCount = codes "plan fault 7 NodeCount"
plan_fault_text plan.StepCount = codes "plan fault 8 StepCount"
plan_fault_text (plan.Step node number) = codes "plan fault 9 Step " ++ decimal node ++ 32 ∷ decimal number
plan_fault_text plan.TurnCount = codes "plan fault 10 TurnCount"
plan_fault_text (plan.Turn number) = codes "plan fault 11 Turn " ++ decimal number
plan_fault_text plan.StrikeCount = codes "plan fault 12 StrikeCount"
plan_fault_text (plan.Strike number) = codes "plan fault 13 Strike " ++ decimal number
plan_fault_text plan.Memory = codes "out of memory"

-- why a run has no log
abbrev pub run_fault_text : RunFault → List ℕ
run_fault_text run.Memory = codes "out of memory"
run_fault_text run.GateCount = codes "run fault 2 GateCount"
run_fault_text (run.Bus fault) = codes "run fault 3 Bus"
run_fault_text run.Thread = codes "run fault 4 Thread"
run_fault_text run.Unsettled = codes "run fault 5 Unsettled"

-- why there is no sweep, or no plan with a strike more: of too many runs, how many they are, and how many bits they may
-- come to. Or why there are no registers after a bit: how many bits the plan has
abbrev pub sweep_refusal_text : SweepRefusal → List ℕ
sweep_refusal_text sweep.NoNode = codes "sweep fault 1 NoNode"
sweep_refusal_text (sweep.TooMany runs bits) =
    codes "sweep fault 2 TooMany: " ++ (decimal runs ++ (codes " runs, " ++ (decimal bits
    ++ codes " bits, which --yes makes")))
sweep_refusal_text sweep.StrikeCount = codes "sweep fault 3 StrikeCount"
sweep_refusal_text sweep.Bit = codes "sweep fault 4 Bit"
sweep_refusal_text sweep.TooLong = codes "sweep fault 5 TooLong"
sweep_refusal_text (sweep.NoBit bits) =
    codes "registers fault 1 NoBit: the plan has " ++ (decimal bits ++ codes " bits")

-- each refusal's own text
abbrev pub refusal_text : CommandRefusal → List ℕ
refusal_text refusal.OutOfMemory = codes "out of memory"
refusal_text refusal.NotHexadecimal = codes "not hexadecimal"
refusal_text refusal.NotALine = codes "not a line"
refusal_text refusal.Read = codes "read fault"
refusal_text (refusal.Layout fault) = layout_fault_text fault
refusal_text (refusal.Line fault) = line_fault_text fault
refusal_text (refusal.Notation fault) = notation_fault_text fault
refusal_text (refusal.Plan fault) = plan_fault_text fault
refusal_text (refusal.Run fault) = run_fault_text fault
refusal_text (refusal.Place number) = codes "run fault 6 Place " ++ decimal number
refusal_text refusal.Strikes = codes "run fault 7 Strikes"
refusal_text (refusal.Sweep why) = sweep_refusal_text why
refusal_text (refusal.Drawing levels) =
    codes "picture fault 1 TooMany: " ++ (decimal levels ++ codes " levels, which --yes draws")

-- its line: the program's name before it, a line feed after it
abbrev pub refusal_line : CommandRefusal → List ℕ
refusal_line given = codes "sja: " ++ refusal_text given ++ 10 ∷ []
