-- A line of the log format of can-utils (candump -l, as log2asc and canplayer read it): the time in seconds and
-- microseconds, the device, and the frame. That a bit is a microsecond, and that the device of node K is canK, is this
-- project's own rule.
use Rattle.std.specs.Prelude.{◌-◌, ◌/◌, ◌%◌, ℕ, List, ◌++◌, length, replicate, codes, decimal}
use Rattle.text_trace.specs.TraceText.{line}

-- a number in decimal, with zeros before it up to so many digits
abbrev pub zero_padded : ℕ → ℕ → List ℕ
zero_padded digits number = replicate (digits - length (decimal number)) 48 ++ decimal number

-- ten digits of seconds, and six of microseconds; and then the device
abbrev pub head_text : ℕ → ℕ → List ℕ
head_text bit node =
    codes "(" ++ (zero_padded 10 (bit / 1000000) ++ (codes "." ++ (zero_padded 6 (bit % 1000000) ++ (codes ") can"
    ++ (decimal node ++ codes " ")))))

-- the line of a frame in a bit of a node
abbrev pub frame_line : ℕ → ℕ → List ℕ → List ℕ
frame_line bit node frame = line (head_text bit node ++ frame)
