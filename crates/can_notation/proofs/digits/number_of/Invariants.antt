use Rattle.std.proofs.Common.{◌≡◌, ◌<◌, ◌^◌, take}
use Rattle.can_notation.specs.Digits.{digits_of, capitals}
use Rattle.can_notation.proofs.digits.number_of.Given as goal

-- the number is that of the digits so far
abbrev pub invariant-loop-digit : goal.invariant-loop-digit
invariant-loop-digit l =
    record {
      small : l.n < 16 ^ l.digit-index;
      said : capitals (take l.digit-index l.digits) ≡ digits_of l.digit-index l.n;
    }
