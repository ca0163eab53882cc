use Rattle.std.proofs.Common.{◌≡◌, take}
use Rattle.text_codec.specs.Arbitrate.{places_text}
use Rattle.text_codec.proofs.arbitrate.text_of.Given as goal

-- the lines so far
abbrev pub invariant-loop-place : goal.invariant-loop-place
invariant-loop-place l = l.text.items ≡ places_text (take l.place-index l.places)
