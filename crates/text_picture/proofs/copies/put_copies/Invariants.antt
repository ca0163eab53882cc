use Rattle.std.proofs.Common.{◌≡◌, ◌++◌, string_bytes}
use Rattle.std.specs.List.{repeat}
use Rattle.text_picture.proofs.copies.put_copies.Given as goal

-- what was written, and those that are left, are all
abbrev pub invariant-loop-left : goal.invariant-loop-left
invariant-loop-left l =
    string_bytes l.text ++ repeat l.left l.one ≡ string_bytes l.fn.text ++ repeat l.count l.one

abbrev pub decreases-loop-left : goal.decreases-loop-left
decreases-loop-left l = l.left

abbrev pub invariant-loop-left-2 : goal.invariant-loop-left-2
invariant-loop-left-2 l =
    string_bytes l.text ++ repeat l.left l.one ≡ string_bytes l.fn.text ++ repeat l.count l.one

abbrev pub decreases-loop-left-2 : goal.decreases-loop-left-2
decreases-loop-left-2 l = l.left
