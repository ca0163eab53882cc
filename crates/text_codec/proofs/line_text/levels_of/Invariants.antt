use Rattle.std.proofs.Common.{◌≡◌, ◌≤◌, length, map, take, vec_len, vec_capacity}
use Rattle.text_codec.specs.LineText.{symbol}
use Rattle.text_codec.proofs.line_text.levels_of.Given as goal

-- the digits so far were read
abbrev pub invariant-loop-digit : goal.invariant-loop-digit
invariant-loop-digit l = record {
  read : take l.digit-index l.digit-items ≡ map symbol l.levels.items;
  count : vec_len l.levels ≡ l.digit-index;
  room : length l.digit-items ≤ vec_capacity l.levels;
}
