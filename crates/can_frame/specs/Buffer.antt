-- The transmit buffer (SJA1000 data sheet, 6.4.13), whatever its 13 bytes are.
use Rattle.std.specs.Prelude.{◌+◌, ◌-◌, ◌*◌, ◌/◌, ℕ, Bool, true, false, List}
use Rattle.std.specs.Prelude.{◌++◌, slice_index, take, drop, replicate, length}
use Rattle.can_frame.specs.Frame.{FrameValue, data_count}
use Rattle.can_frame.specs.Layout.{said_ext, said_rtr, said_dlc, head_count}

-- the identifier in it, by the format: flush left in bytes 1 and 2, or 1 to 4
abbrev pub id_in : Bool → List ℕ → ℕ
id_in false b = slice_index b 1 * 8 + slice_index b 2 / 32
id_in true b = slice_index b 1 * 2097152 + slice_index b 2 * 8192 + slice_index b 3 * 32 + slice_index b 4 / 8

-- the frame in it: format, kind and length code are those of byte 0, and the data stand after the head. Unused bits and
-- the second remote bit are ignored (this project's own rule)
abbrev pub frame_in : List ℕ → FrameValue
frame_in b =
    record {
      ext = said_ext b;
      id = id_in (said_ext b) b;
      rtr = said_rtr b;
      dlc = said_dlc b;
      bytes = take (data_count (said_rtr b) (said_dlc b)) (drop (head_count (said_ext b)) b);
    }

-- the buffer with a message at its beginning, and 0 in the bytes after it (this project's own rule)
abbrev pub buffer_of : List ℕ → List ℕ
buffer_of m = m ++ replicate (13 - length m) 0
