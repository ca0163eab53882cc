use Rattle.std.proofs.Common.{◌≡◌, ◌-◌, ◌%◌, ◌<◌, ◌≤◌, codes, string_bytes}
use Rattle.text_picture.specs.Pages.{ten_of}
use Rattle.text_picture.proofs.WholePage.RulerNumbers.{ruled}
use Rattle.text_picture.proofs.ruler.put_ruler.Given as goal

-- the columns so far; where the next one begins no ten, the number of its ten is there
abbrev pub invariant-loop-number : goal.invariant-loop-number
invariant-loop-number l = record {
  text : string_bytes l.text ≡ ruled (string_bytes l.fn.text) (codes "bit     ") l.bit l.number;
  ten : 0 < l.number % 10 → string_bytes l.ten ≡ ten_of l.number;
  within : l.number - l.bit ≤ l.number-end - l.bit;
}
