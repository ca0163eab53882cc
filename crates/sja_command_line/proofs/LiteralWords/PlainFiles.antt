-- What some words with names of files ask for, by computing the parser's answer.
use Rattle.std.proofs.Common.{ℕ, List, [], ◌∷◌, Some, None, codes, refl, false, true}
use Rattle.sja_command_line.specs.Requests.{Request, expected, files, registers, spelled_plan}
use Rattle.sja_command_line.specs.Words.{ParsesAs, asked, faults}
use Rattle.sja_command_line.specs.declared.plan_question.PlanQuestion.TheVariants.{Candump, Frames, Plan, Report}
use Rattle.sja_command_line.specs.declared.plan_question.PlanQuestion.TheVariants.{StruckPlan}
use Rattle.sja_command_line.specs.declared.plan_question.PlanQuestion.TheVariants.{Registers, Sweep, Trace, Wave}
use Rattle.sja_command_line.specs.Sweeping.{all_swept}
use Rattle.sja_command_line.proofs.LiteralWords.OnWords.{sja_on_literals}

-- three names, of which one is the input, and the number of threads among them
pub run_jobs : (name : List ℕ) →
    ParsesAs (name ∷ codes "run" ∷ codes "a" ∷ codes "-" ∷ codes "--jobs" ∷ codes "3" ∷ codes "b" ∷ [])
    (files (Report false) 3 (codes "a" ∷ codes "-" ∷ codes "b" ∷ []))
unfolding sja_on_literals asked faults
run_jobs name = record { taken = refl; asks = refl }

-- `trace` and one name
pub trace_file : (name : List ℕ) →
    ParsesAs (name ∷ codes "trace" ∷ codes "a" ∷ []) (files (Trace false) 1 (codes "a" ∷ []))
unfolding sja_on_literals asked faults
trace_file name = record { taken = refl; asks = refl }

-- `wave` and one name
pub wave_file : (name : List ℕ) →
    ParsesAs (name ∷ codes "wave" ∷ codes "a" ∷ []) (files (Wave false) 1 (codes "a" ∷ []))
unfolding sja_on_literals asked faults
wave_file name = record { taken = refl; asks = refl }

-- `frames`, two names, and the number of threads
pub frames_jobs : (name : List ℕ) →
    ParsesAs (name ∷ codes "frames" ∷ codes "a" ∷ codes "b" ∷ codes "--jobs" ∷ codes "2" ∷ [])
    (files (Frames false false) 2 (codes "a" ∷ codes "b" ∷ []))
unfolding sja_on_literals asked faults
frames_jobs name = record { taken = refl; asks = refl }

-- `candump`, a flag and one name
pub candump_file : (name : List ℕ) →
    ParsesAs (name ∷ codes "candump" ∷ codes "--errors" ∷ codes "a" ∷ [])
    (files (Candump true false) 1 (codes "a" ∷ []))
unfolding sja_on_literals asked faults
candump_file name = record { taken = refl; asks = refl }

-- `sweep`, a flag and one name
pub sweep_file : (name : List ℕ) →
    ParsesAs (name ∷ codes "sweep" ∷ codes "--changed" ∷ codes "a" ∷ [])
    (files (Sweep (record all_swept { changed = true })) 1 (codes "a" ∷ []))
unfolding sja_on_literals asked faults
sweep_file name = record { taken = refl; asks = refl }

-- `sweep --plan`, two numbers and one name
pub struck_file : (name : List ℕ) →
    ParsesAs (name ∷ codes "sweep" ∷ codes "--plan" ∷ codes "1" ∷ codes "59" ∷ codes "a" ∷ [])
    (files (StruckPlan 1 59) 1 (codes "a" ∷ []))
unfolding sja_on_literals asked faults
struck_file name = record { taken = refl; asks = refl }

-- `trace` and two names
pub trace_files : (name : List ℕ) (r : Request) → ¬ ParsesAs (name ∷ codes "trace" ∷ codes "a" ∷ codes "b" ∷ []) r
unfolding sja_on_literals faults
trace_files name r parses = cc (parses.taken)

-- `run --expect` and one name
pub expected_input : (name : List ℕ) →
    ParsesAs (name ∷ codes "run" ∷ codes "--expect" ∷ codes "r" ∷ []) (expected false (codes "-") (codes "r"))
unfolding sja_on_literals asked faults
expected_input name = record { taken = refl; asks = refl }

-- with the name of a plan before it
pub expected_file : (name : List ℕ) →
    ParsesAs (name ∷ codes "run" ∷ codes "a" ∷ codes "--threads" ∷ codes "--expect" ∷ codes "r" ∷ [])
    (expected true (codes "a") (codes "r"))
unfolding sja_on_literals asked faults
expected_file name = record { taken = refl; asks = refl }

-- with two
pub expected_files : (name : List ℕ) (r : Request) →
    ¬ ParsesAs (name ∷ codes "run" ∷ codes "a" ∷ codes "b" ∷ codes "--expect" ∷ codes "r" ∷ []) r
unfolding sja_on_literals asked
expected_files name r parses = cc (parses.asks)

-- `registers`, with a bit or without
pub registers_alone : (name : List ℕ) → ParsesAs (name ∷ codes "registers" ∷ []) (registers None)
unfolding sja_on_literals asked faults
registers_alone name = record { taken = refl; asks = refl }

pub registers_bit : (name : List ℕ) → ParsesAs (name ∷ codes "registers" ∷ codes "75" ∷ []) (registers (Some 75))
unfolding sja_on_literals asked faults
registers_bit name = record { taken = refl; asks = refl }

-- and one name
pub registers_file : (name : List ℕ) →
    ParsesAs (name ∷ codes "registers" ∷ codes "75" ∷ codes "a" ∷ []) (files (Registers (Some 75)) 1 (codes "a" ∷ []))
unfolding sja_on_literals asked faults
registers_file name = record { taken = refl; asks = refl }

-- `registers` and a bit that is none
pub registers_past : (name : List ℕ) (r : Request) → ¬ ParsesAs (name ∷ codes "registers" ∷ codes "10000000" ∷ []) r
unfolding sja_on_literals faults
registers_past name r parses = cc (parses.taken)

-- `plan`
pub plan_alone : (name : List ℕ) → ParsesAs (name ∷ codes "plan" ∷ []) spelled_plan
unfolding sja_on_literals asked faults
plan_alone name = record { taken = refl; asks = refl }

-- `plan` and one name
pub plan_file : (name : List ℕ) →
    ParsesAs (name ∷ codes "plan" ∷ codes "a" ∷ []) (files Plan 1 (codes "a" ∷ []))
unfolding sja_on_literals asked faults
plan_file name = record { taken = refl; asks = refl }

-- `plan` and two names
pub plan_files : (name : List ℕ) (r : Request) → ¬ ParsesAs (name ∷ codes "plan" ∷ codes "a" ∷ codes "b" ∷ []) r
unfolding sja_on_literals faults
plan_files name r parses = cc (parses.taken)
