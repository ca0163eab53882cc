use Rattle.std.proofs.Common.{◌≤◌, length}
use denote.Text.{Utf8}
use denote.Shadow.{shadow}
use Rattle.sja_plan_reading.specs.FaultyLines.{IsBehindLines}
use Rattle.sja_plan_reading.specs.Inside.Rooms.{IsSound}
use Rattle.sja_plan_reading.proofs.tables.faulty.faulty_line.Given as goal

abbrev pub invariant-lines : goal.invariant-lines
invariant-lines l = shadow (Utf8 l.rest) × IsSound l.room × IsBehindLines l.fn.text l.rest

abbrev pub decreases-lines : goal.decreases-lines
decreases-lines l = length l.rest
