-- What is written of a run of a plan (this project's own rule).
use Rattle.std.specs.Prelude.{◌≡◌, ◌<◌, ◌≤◌, ◌*◌, ◌-◌, ℕ, Bool, true, false, List, Option, length}
use Rattle.text_candump.specs.CandumpText.{IsCandump}
use Rattle.text_frames.specs.FramesText.{IsFrameList}
use Rattle.sja_log.specs.Log.{RunValue}
use Rattle.sja_promises.specs.Runs.{IsSerialRun}
use Rattle.sja_log.specs.declared.run_fault.RunFault.{RunFault}
use Rattle.sja_log.specs.declared.run_fault.RunFault.TheVariants.{Memory}
use Rattle.text_picture.specs.PictureText.{IsPicture, end_after}
use Rattle.sja_plan.specs.Plan.{PlanValue}
use Rattle.text_report.specs.ReportLines.{report_text}
use Rattle.text_svg.specs.DrawingText.{IsDrawing}
use Rattle.sja_thread_promises.specs.Stopping.{IsFaultOf}
use Rattle.sja_thread_promises.specs.Threads.{IsThreadedRun}
use Rattle.text_trace.specs.TraceText.{IsTrace}
use Rattle.text_wave.specs.WaveText.{IsWave}
use Rattle.sja_program.specs.declared.run_text.RunText.{RunText}
use Rattle.sja_program.specs.declared.run_text.RunText.TheVariants.{Report, Wave, Trace, Frames, Picture, Drawing}
use Rattle.sja_program.specs.declared.run_text.RunText.TheVariants.{Candump}

-- how many levels a drawing of these bits has: one of each node in each bit
abbrev pub levels_drawn : PlanValue → RunValue → ℕ → Option ℕ → ℕ
levels_drawn plan log first last = length plan.nodes * (end_after last log.bits - first)

-- a drawing has at most so many, some 20 MB, unless it is said that more are meant
abbrev pub most_levels : ℕ
most_levels = 150000

abbrev pub MayBeWritten : RunText → PlanValue → RunValue → Type 0
MayBeWritten (Drawing first last false) plan log = levels_drawn plan log first last ≤ most_levels
MayBeWritten other plan log = Unit {0}

-- so many levels would be drawn, which are too many, and it isn't said that they are meant
abbrev pub IsTooLarge : RunText → PlanValue → RunValue → ℕ → Type 0
IsTooLarge (Drawing first last false) plan log levels =
    (levels ≡ levels_drawn plan log first last) × (most_levels < levels)
IsTooLarge other plan log levels = ⊥

-- the text is this one of the run of a plan with this log
abbrev pub IsTextOf : RunText → PlanValue → RunValue → List ℕ → Type 0
IsTextOf Report plan log text = text ≡ report_text log
IsTextOf Wave plan log text = IsWave log text
IsTextOf Trace plan log text = IsTrace plan log text
IsTextOf (Frames bits) plan log text = IsFrameList bits log text
IsTextOf (Picture first last meant) plan log text = IsPicture log first last text
IsTextOf (Drawing first last meant) plan log text = IsDrawing log first last text
IsTextOf (Candump errors) plan log text = IsCandump log errors text

-- a run of the plan by the rules of its version has this log: with each driver in a thread of its own (`true`), where
-- the gates may quit, or with all in one
abbrev pub IsRunOf : Bool → PlanValue → RunValue → Type 0
IsRunOf true plan log = IsThreadedRun plan log true
IsRunOf false plan log = IsSerialRun plan log

-- and such a run may have this fault: in one thread memory is refused, in threads it has any fault that a run in
-- threads of this plan has
abbrev pub MayFault : Bool → PlanValue → RunFault → Type 0
MayFault true plan fault = IsFaultOf plan fault
MayFault false plan fault = fault ≡ Memory

-- the text is this one of a run of the plan
abbrev pub IsTextOfRun : Bool → RunText → PlanValue → List ℕ → Type 0
IsTextOfRun threads what plan text =
    (log : RunValue) × IsRunOf threads plan log × MayBeWritten what plan log × IsTextOf what plan log text
