use Rattle.std.proofs.Common.{◌-◌, ◌≤◌, List, string_bytes}
use Rattle.lemmas.specs.Related.{EachRelated}
use Rattle.text_wave.specs.Stories.{NodeStory}
use Rattle.text_wave.specs.Inside.Probes.{IsAtBit, HaveGone}
use Rattle.text_wave.proofs.wave_text.put_bits.Given as goal

-- what changed up to this bit was written, and the probes stand there
abbrev pub invariant-loop-bit : goal.invariant-loop-bit
invariant-loop-bit l = record {
  within : l.bit ≤ l.last;
  gone : (parts : List NodeStory) → EachRelated (IsAtBit 0) l.fn.probes parts →
      HaveGone l.bit parts l.probes (string_bytes l.fn.text) (string_bytes l.text);
}

abbrev pub decreases-loop-bit : goal.decreases-loop-bit
decreases-loop-bit l = l.last - l.bit
