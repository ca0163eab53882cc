-- What `sweep` asks for, by the values of its arguments (this project's own rule).
use Rattle.std.specs.Prelude.{◌&&◌, ℕ, Bool, false, List, Option, Some, None, codes, option_map, if◌then◌else◌, not}
use Rattle.std.specs.Prelude.{is_some, option_and_then}
use Rattle.clap.specs.Words.{Row, Text, first_of}
use Rattle.sja_command_line.specs.declared.sweep_words.SweepWords.{SweepWords}
use Rattle.sja_command_line.specs.Values.{flag_in, number_in, number_or, optional_in, second_of}
use Rattle.sja_command_line.specs.declared.plan_question.PlanQuestion.{PlanQuestion}
use Rattle.sja_command_line.specs.declared.plan_question.PlanQuestion.TheVariants.{Sweep, StruckPlan}

-- a sweep of each node in each bit, one bit a run, of which every line is told, in one thread
abbrev pub all_swept : SweepWords
all_swept = record {
  node = None;
  first = 0;
  last = 4294967295;
  pairs = None;
  changed = false;
  twice = false;
  lost = false;
  stuck = false;
  rows = false;
  meant = false;
  jobs = 1;
}

-- what `sweep` asks for, by its node, its first and its last bit, how far two bits are apart, the number of threads,
-- and the flags among the values of its arguments
abbrev pub words_by : Option (Option ℕ) → Option ℕ → Option ℕ → Option (Option ℕ) → Option ℕ → List Row
    → Option SweepWords
words_by (Some only) (Some first) (Some last) (Some pairs) (Some jobs) rows = Some (record {
  node = only;
  first = first;
  last = last;
  pairs = pairs;
  changed = flag_in (first_of (codes "changed") rows);
  twice = flag_in (first_of (codes "twice") rows);
  lost = flag_in (first_of (codes "lost") rows);
  stuck = flag_in (first_of (codes "stuck") rows);
  rows = flag_in (first_of (codes "rows") rows);
  meant = flag_in (first_of (codes "yes") rows);
  jobs = jobs;
})
words_by (Some only) (Some first) (Some last) (Some pairs) None rows = None
words_by (Some only) (Some first) (Some last) None jobs rows = None
words_by (Some only) (Some first) None pairs jobs rows = None
words_by (Some only) None last pairs jobs rows = None
words_by None first last pairs jobs rows = None

-- by the values of its arguments
abbrev pub words_in : List Row → Option SweepWords
words_in rows =
    words_by (optional_in 7 (first_of (codes "only") rows)) (number_or 0 0 9999999 (first_of (codes "from") rows))
    (number_or 4294967295 0 9999999 (first_of (codes "to") rows))
    (optional_in 9999999 (first_of (codes "pairs") rows)) (number_or 1 1 64 (first_of (codes "jobs") rows)) rows

-- no option with a number stands beside `--plan`
abbrev pub has_no_number : List Row → Bool
has_no_number rows =
    not (is_some (first_of (codes "only") rows)) && not (is_some (first_of (codes "from") rows))
    && not (is_some (first_of (codes "to") rows)) && not (is_some (first_of (codes "pairs") rows))
    && not (is_some (first_of (codes "jobs") rows))

-- none does that asks for a kind of outcome
abbrev pub has_no_kind : List Row → Bool
has_no_kind rows =
    not (flag_in (first_of (codes "changed") rows)) && not (flag_in (first_of (codes "twice") rows))
    && not (flag_in (first_of (codes "lost") rows)) && not (flag_in (first_of (codes "stuck") rows))

-- no flag does
abbrev pub has_no_flag : List Row → Bool
has_no_flag rows =
    has_no_kind rows && not (flag_in (first_of (codes "rows") rows)) && not (flag_in (first_of (codes "yes") rows))

-- no option stands beside it
abbrev pub is_alone : List Row → Bool
is_alone rows = has_no_number rows && has_no_flag rows

-- what `--plan K B` asks for, where both are numbers
abbrev pub struck_by : Option ℕ → Option ℕ → Option PlanQuestion
struck_by (Some node) (Some bit) = Some (StruckPlan node bit)
struck_by (Some node) None = None
struck_by None bit = None

-- what `sweep` asks for, by the first value of `--plan` and the values of its arguments
abbrev pub sweep_by : Option Text → List Row → Option PlanQuestion
sweep_by None rows = option_map Sweep (words_in rows)
sweep_by (Some node) rows =
    if is_alone rows then struck_by (number_in 0 9999999 node)
    (option_and_then (number_in 0 9999999) (second_of (codes "plan") rows))
    else None

-- by the values of its arguments alone
abbrev pub sweep_in : List Row → Option PlanQuestion
sweep_in rows = sweep_by (first_of (codes "plan") rows) rows
