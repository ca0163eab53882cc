use Rattle.std.proofs.Common.{◌≡◌, ◌+◌, ◌*◌, ◌++◌, take}
use Rattle.arrayvec.specs.ArrayVec.{array_vec_len}
use Rattle.can_notation.specs.Text.{data_text}
use Rattle.can_notation.proofs.writing.push_data.Given as goal

-- the bytes so far are written
abbrev pub invariant-loop-byte : goal.invariant-loop-byte
invariant-loop-byte l =
    record {
      items : l.text.items ≡ l.fn.text.items ++ data_text (take l.byte-index l.bytes);
      len : array_vec_len l.text ≡ array_vec_len l.fn.text + 2 * l.byte-index;
    }
