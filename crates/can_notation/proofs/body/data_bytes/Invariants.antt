use Rattle.std.proofs.Common.{◌≡◌, ◌*◌, ◌<◌, take, All}
use Rattle.arrayvec.specs.ArrayVec.{array_vec_len}
use Rattle.can_notation.specs.Digits.{capitals}
use Rattle.can_notation.specs.Text.{data_text}
use Rattle.can_notation.proofs.body.data_bytes.Given as goal

-- these are the bytes so far
abbrev pub invariant-loop-i : goal.invariant-loop-i
invariant-loop-i l =
    record {
      len : array_vec_len l.bytes ≡ l.i;
      fit : All (λ byte. byte < 256) l.bytes.items;
      said : capitals (take (2 * l.i) l.digits) ≡ data_text l.bytes.items;
    }
