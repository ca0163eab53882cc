-- Where a report isn't the expected one (this project's own rule).
use Rattle.std.specs.Prelude.{◌≡◌, ◌==◌, ◌+◌, ◌-◌, ◌||◌, ℕ, Bool, false, if◌then◌else◌, Option, Some, None}
use Rattle.std.specs.Prelude.{List, [], ◌∷◌, ◌++◌, length, take, fold, codes, decimal, slice_get}
use Rattle.std.specs.List.{slice_split, starts_with}
use Rattle.sja_plan.specs.Plan.{PlanValue, steps_at}
use Rattle.sja_plan_text.specs.Texts.{spelled_step}
use Rattle.sja_steps.specs.declared.step.Step.{Step}
use Rattle.sja_run.specs.declared.report_place.ReportPlace.{ReportPlace}

-- the lines of a text: what line feeds part, and what stands behind the last one
abbrev pub lines_in : List ℕ → List (List ℕ)
lines_in text = slice_split (λ b. b == 10) text

-- ---- the step of a line

-- where a report is before any line, behind one line more, and behind some lines
abbrev pub start_place : ReportPlace
start_place = record { nodes = 0; lines = 0 }

abbrev pub place_behind : ReportPlace → List ℕ → ReportPlace
place_behind p line =
    if starts_with ◌==◌ line (codes "node ") then record { nodes = p.nodes + 1; lines = 0 }
    else record { nodes = p.nodes; lines = p.lines + 1 }

abbrev pub place_of : List (List ℕ) → ReportPlace
place_of lines = fold place_behind start_place lines

-- the step whose answer stands in the next line, where a step's does
abbrev pub step_at : PlanValue → ReportPlace → Option Step
step_at plan p =
    if p.nodes == 0 then None else slice_get (steps_at plan (p.nodes - 1)) p.lines

-- its line: the node, the number of the step and its text, as a plan of this version is written
abbrev pub step_said : PlanValue → ReportPlace → Option Step → List ℕ
step_said plan p None = []
step_said plan p (Some s) =
    codes "node " ++ (decimal (p.nodes - 1) ++ (codes " step " ++ (decimal (p.lines + 1)
    ++ (codes ": " ++ (spelled_step (plan.version == 3) s ++ 10 ∷ [])))))

-- ---- what is said

-- a line that is there, or that there is none
abbrev pub line_said : List ℕ → Option (List ℕ) → List ℕ
line_said word None = word ++ codes "no line\n"
line_said word (Some line) = word ++ (line ++ 10 ∷ [])

-- whether a line is that of a step
abbrev pub is_step : Option (List ℕ) → Bool
is_step None = false
is_step (Some line) = starts_with ◌==◌ line (codes "step ")

-- the step of a line behind others, where what is printed or what is expected is that of a step
abbrev pub step_behind : PlanValue → List (List ℕ) → Option (List ℕ) → Option (List ℕ) → List ℕ
step_behind plan before printed expected =
    if is_step printed || is_step expected then step_said plan (place_of before) (step_at plan (place_of before))
    else []

-- of the line at this place, counted from 0: its number, counted from 1, both lines, and the step
abbrev pub said_at : PlanValue → List (List ℕ) → List (List ℕ) → ℕ → List ℕ
said_at plan printed expected n =
    (codes "line " ++ (decimal (n + 1) ++ codes " isn't the expected one\n"))
    ++ line_said (codes "expected: ") (slice_get expected n) ++ line_said (codes "printed:  ") (slice_get printed n)
    ++ step_behind plan (take n printed) (slice_get printed n) (slice_get expected n)

-- so many lines are the same in both, and the next one isn't: this text says so
abbrev pub IsDifference : PlanValue → List ℕ → List ℕ → List ℕ → Type 0
IsDifference plan report expected text =
    (n : ℕ) × (take n (lines_in report) ≡ take n (lines_in expected))
    × (¬ (slice_get (lines_in report) n ≡ slice_get (lines_in expected) n))
    × (text ≡ said_at plan (lines_in report) (lines_in expected) n)

-- nothing is said of the expected report, and else the first difference
abbrev pub IsCompared : PlanValue → List ℕ → List ℕ → Option (List ℕ) → Type 0
IsCompared plan report expected None = report ≡ expected
IsCompared plan report expected (Some text) = IsDifference plan report expected text
