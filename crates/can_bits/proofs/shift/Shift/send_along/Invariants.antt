use Rattle.std.proofs.Common.{◌≡◌, ◌≤◌, ◌+◌, ◌-◌, ◌%◌, None, length, take, drop, slice_range}
use Rattle.can_bits.specs.declared.frame_part.FramePart.TheVariants.{Stuffed}
use Rattle.can_bits.specs.Sending.{SendsAlong, place_of}
use Rattle.can_bits.proofs.Reader.Along.{inside}
use Rattle.can_bits.proofs.Reader.Chosen.{Shows}
use Rattle.can_bits.proofs.shift.Shift.send_along.Given as goal

-- the levels so far were sent and taken, but for the count
abbrev pub invariant-loop-level : goal.invariant-loop-level
invariant-loop-level l = record {
  sends : SendsAlong l.fn.body l.fn.self (slice_range l.levels l.from l.place)
      (inside l.shift.gathered ((l.fn.self.count + (l.place - l.from)) % 256) l.shift.last l.shift.run);
  no_fault : l.shift.wrong ≡ None;
  in_part : l.shift.frame_part ≡ Stuffed;
  count : l.shift.count ≡ l.fn.self.count;
  begun : 1 ≤ l.shift.run;
  most : l.shift.run ≤ 5;
  mark : l.shift.gathered.mark ≡ l.fn.self.gathered.mark;
  grown : place_of l.fn.self ≤ place_of l.shift;
  shows : Shows l.fn.body (place_of l.shift) l.digits (place_of l.fn.self + 64);
  more : l.from ≤ l.place;
  few : l.from ≤ length l.levels → l.place ≤ length l.levels;
  front : take l.from l.levels ≡ take l.from l.fn.levels;
  rest : drop l.place l.levels ≡ drop l.place l.fn.levels;
}

abbrev pub decreases-loop-level : goal.decreases-loop-level
decreases-loop-level l = length l.levels - l.place
