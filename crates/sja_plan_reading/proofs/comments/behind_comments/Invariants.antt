use Rattle.std.proofs.Common.{◌≡◌, false, true, drop}
use Rattle.toml_parser.specs.Lexical.{skip_from}
use Rattle.sja_plan_reading.proofs.comments.behind_comments.Given as goal

-- what is left is skipped as all was
abbrev pub invariant-loop-place : goal.invariant-loop-place
invariant-loop-place l = skip_from true l.inside (drop l.place l.bytes) ≡ skip_from true false l.bytes
