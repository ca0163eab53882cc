use Rattle.std.proofs.Common.{◌≡◌, ◌++◌, map, drop, string_bytes}
use Rattle.lemmas.specs.Gathering.{gathered}
use Rattle.sja_sweep.specs.Spans.{before_all, spans}
use Rattle.sja_sweep.specs.SweepText.{shown_line}
use Rattle.sja_sweep.specs.Inside.Reaching.{outcome_value, span_value}
use Rattle.sja_sweep.proofs.spans.put_spans.Given as goal

-- what was written, and the lines of the open one with the rest, are the whole
abbrev pub invariant-loop-told : goal.invariant-loop-told
invariant-loop-told l =
    string_bytes l.text ++ gathered (shown_line l.asked)
    (before_all (span_value l.open) (spans (map outcome_value (drop l.told-index l.rest))))
    ≡ string_bytes l.fn.text ++ gathered (shown_line l.asked) (spans (map outcome_value l.tolds))
