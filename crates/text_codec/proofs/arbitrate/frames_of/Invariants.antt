use Rattle.std.proofs.Common.{◌≡◌, ◌≤◌, length, map, take, vec_len, vec_capacity}
use Rattle.std.specs.List.{AllZip}
use Rattle.text_codec.specs.Given.{Gives}
use Rattle.text_codec.proofs.arbitrate.frames_of.Given as goal

-- the frames so far
abbrev pub invariant-loop-given : goal.invariant-loop-given
invariant-loop-given l = record {
  spelled : AllZip Gives (map (λ given. given.now) (take l.given-index l.messages)) l.frames.items;
  count : vec_len l.frames ≡ l.given-index;
  room : length l.messages ≤ vec_capacity l.frames;
}
