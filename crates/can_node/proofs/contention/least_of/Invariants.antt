use Rattle.std.proofs.Common.{◌≡◌, ◌<◌, length, take, Some}
use Rattle.std.specs.List.{slice_get}
use Rattle.can_frame.specs.Frame.{FrameValue}
use Rattle.can_node_rules.specs.Contending.{IsLeast}
use Rattle.can_node.proofs.contention.least_of.Given as goal

-- the least of the frames so far
abbrev pub invariant-loop-i : goal.invariant-loop-i
invariant-loop-i l = record {
  within : l.least < length l.frames;
  is_least : (f : FrameValue) → slice_get l.frames l.least ≡ Some f → IsLeast (take l.i l.frames) f;
}
