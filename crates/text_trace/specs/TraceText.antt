-- The text of a trace, line by line (this project's own rule).
use Rattle.std.specs.Prelude.{◌≡◌, ◌==◌, ◌+◌, ℕ, zero, suc, Bool, true, false, nat_le, Option, Some, None}
use Rattle.std.specs.Prelude.{List, [], ◌∷◌, ◌++◌, map, codes, decimal, slice_get}
use Rattle.can_levels.specs.declared.level.Level.{Level}
use Rattle.can_levels.specs.declared.level.Level.TheVariants.{Recessive}
use Rattle.can_node_rules.specs.declared.counters.Counters.{Counters}
use Rattle.sja_log.specs.Log.{NodeValue, RunValue}
use Rattle.sja_plan.specs.Plan.{PlanValue, steps_at}
use Rattle.sja_steps.specs.StepText.{step_text}
use Rattle.sja_replay.specs.declared.bit_event.BitEvent.{BitEvent}
use Rattle.sja_replay.specs.Happened.{Happened}
use Rattle.text_report.specs.ReportLines.{numbered}
use Rattle.text_report.specs.ReportWords.{answer_words}
use Rattle.text_report.specs.Spacing.{all_spaced}
use Rattle.sja_steps.specs.declared.step_record.StepRecord.{StepRecord}
use Rattle.sja_steps.specs.declared.ignored.Ignored.{Ignored}
use Rattle.sja_steps.specs.declared.step.Step.{Step}
use Rattle.sja_steps.specs.Ignoring.{ignored_in}
use Rattle.can_levels.specs.BusLevel.{wired}
use Rattle.text_trace.specs.BitEvents.{counters_after}
use Rattle.text_trace.specs.Causes.{all_said}
use Rattle.text_trace.specs.Names.{ignored_name}
use Rattle.text_trace.specs.Telling.{bit_before}

-- ---- lines

abbrev pub line : List ℕ → List ℕ
line text = text ++ 10 ∷ []

-- events behind others, and events: `; ` between two
abbrev pub behind : List (List ℕ) → List ℕ
behind [] = []
behind (e ∷ es) = codes "; " ++ e ++ behind es

abbrev pub joined : List (List ℕ) → List ℕ
joined [] = []
joined (e ∷ es) = e ++ behind es

-- the line of a bit and a node
abbrev pub told_line : ℕ → ℕ → List ℕ → List ℕ
told_line bit node told =
    codes "bit " ++ (decimal bit ++ (codes " node " ++ (decimal node ++ (codes ": " ++ (told ++ 10 ∷ [])))))

-- what is said of a bit; no line where nothing is said of it
abbrev pub bit_line : ℕ → ℕ → List (List ℕ) → List ℕ
bit_line bit node [] = []
bit_line bit node (e ∷ es) = told_line bit node (joined (e ∷ es))

-- the line of a step, whose number counts from 1: its text, its answer as a report has it, and why the controller
-- ignored it, if it did
abbrev pub step_head : ℕ → ℕ → ℕ → List ℕ → List ℕ
step_head bits node number text =
    codes "bit " ++ (decimal bits ++ (codes " node " ++ (decimal node ++ (codes " step " ++ (decimal number
    ++ (codes ": " ++ (text ++ codes " ->")))))))

abbrev pub ignored_said : Option Ignored → List ℕ
ignored_said None = []
ignored_said (Some cause) = codes "; ignored: " ++ ignored_name cause

abbrev pub step_line : ℕ → ℕ → Step → StepRecord → List ℕ
step_line node number step d =
    line (step_head d.bits node number (step_text step) ++ (all_spaced (answer_words d.answer)
    ++ ignored_said (ignored_in step d.answer)))

-- a step stands right before the line of the bit that came after it. After the last bit come those that had as many
-- bits before them as were run, or more
abbrev pub is_due : Bool → ℕ → ℕ → Bool
is_due false bit before = before == bit
is_due true bit before = nat_le bit before

abbrev pub line_where : Bool → List ℕ → List ℕ
line_where true text = text
line_where false text = []

-- the lines of those that are due, one after another; a step without an answer wasn't done
abbrev pub steps_due : Bool → ℕ → ℕ → ℕ → List Step → List StepRecord → List ℕ
steps_due late bit node number [] done = []
steps_due late bit node number (s ∷ steps) [] = []
steps_due late bit node number (s ∷ steps) (d ∷ done) =
    line_where (is_due late bit d.bits) (step_line node number s d)
    ++ steps_due late bit node (number + 1) steps done

-- ---- a node in a bit

-- a node: whether its plan is of version 3, its steps, what they came to, and what its bits brought
pub record NodeStory : Type 0 where
  pub by_bytes : Bool
  pub steps : List Step
  pub done : List StepRecord
  pub bits : List BitEvent

-- what bit b brought, which the bits before it came to with these counters
abbrev pub event_line : Bool → Level → ℕ → ℕ → Counters → Option BitEvent → List ℕ
event_line by_bytes bus b node left None = []
event_line by_bytes bus b node left (Some h) = bit_line b node (all_said by_bytes bus left h)

-- the counters as the bits before bit b left them
abbrev pub counters_left : ℕ → List BitEvent → Counters
counters_left b bits = counters_after (bit_before b bits)

-- the steps right before bit b, and then the bit
abbrev pub node_lines : Level → ℕ → ℕ → NodeStory → List ℕ
node_lines bus b node s =
    steps_due false b node 1 s.steps s.done
    ++ event_line s.by_bytes bus b node (counters_left b s.bits) (slice_get s.bits b)

-- ---- all nodes

-- the level that a node drives in bit b, and the one that all drive together
abbrev pub driven_in : Option BitEvent → Level
driven_in None = Recessive
driven_in (Some h) = h.driven

abbrev pub bus_in : ℕ → List NodeStory → Level
bus_in b stories = wired (map (λ (s : NodeStory). driven_in (slice_get s.bits b)) stories)

abbrev pub bit_lines : ℕ → List NodeStory → List ℕ
bit_lines b stories = numbered (node_lines (bus_in b stories) b) 0 stories

-- the bits before bit n, in order
abbrev pub lines_to : ℕ → List NodeStory → List ℕ
lines_to zero stories = []
lines_to (suc b) stories = lines_to b stories ++ bit_lines b stories

-- the steps that come after so many bits
abbrev pub late_steps : ℕ → ℕ → NodeStory → List ℕ
late_steps bits node s = steps_due true bits node 1 s.steps s.done

-- the whole
abbrev pub stories_text : ℕ → List NodeStory → List ℕ
stories_text bits stories = lines_to bits stories ++ numbered (late_steps bits) 0 stories

-- ---- of a plan and a log

-- the story of a node: its steps in the plan, what they came to, and the bit events of its journal
pub record IsStory (by_bytes : Bool) (steps : List Step) (n : NodeValue) (s : NodeStory) : Type 0 where
  pub by_bytes_is : s.by_bytes ≡ by_bytes
  pub steps_are : s.steps ≡ steps
  pub done_are : s.done ≡ n.done
  pub bits_are : Happened [] n.journal s.bits

-- those of all nodes, the first one having this number
abbrev pub AreStories : ℕ → PlanValue → List NodeValue → List NodeStory → Type 0
AreStories k plan [] [] = Unit {0}
AreStories k plan [] (s ∷ stories) = ⊥
AreStories k plan (n ∷ nodes) [] = ⊥
AreStories k plan (n ∷ nodes) (s ∷ stories) =
    IsStory (plan.version == 3) (steps_at plan k) n s × AreStories (k + 1) plan nodes stories

-- the text is the trace of the run of a plan: that of the stories of its nodes
pub record IsTrace (plan : PlanValue) (log : RunValue) (text : List ℕ) : Type 0 where
  pub stories : List NodeStory
  pub are : AreStories 0 plan log.nodes stories
  pub whole : text ≡ stories_text log.bits stories
