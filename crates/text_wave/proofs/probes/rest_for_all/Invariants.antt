use Rattle.std.proofs.Common.{◌<◌, ◌≤◌, ℕ}
use Rattle.std.specs.Prelude.{slice_index_or}
use Rattle.text_wave.specs.declared.probe.Probe.{Probe}
use Rattle.text_wave.specs.Inside.WaveRest.{ProbeRests}
use Rattle.text_wave.proofs.probes.rest_for_all.Given as goal

-- those so far rest for so many bits
abbrev pub invariant-loop-probe : goal.invariant-loop-probe
invariant-loop-probe l = record {
  most : l.count ≤ l.most;
  rests : 0 < l.count → (k : ℕ) (p : Probe) → k < l.probe-index →
      ProbeRests l.count (slice_index_or l.probes k p);
}
