-- Where the parts of a drawing lie (this project's own rule). Lengths are in pixels, from the left and from the top.
use Rattle.std.specs.Prelude.{◌+◌, ◌-◌, ◌*◌, ℕ, min, max}
use Rattle.can_levels.specs.declared.level.Level.{Level}
use Rattle.can_levels.specs.declared.level.Level.TheVariants.{Dominant, Recessive}

-- ---- across: the names of the lanes have 72 pixels, and behind them each bit has eight

abbrev pub bits_width : ℕ → ℕ
bits_width many = 8 * many

-- where a bit begins in a lane, if this is the first one that is drawn
abbrev pub place_in : ℕ → ℕ → ℕ
place_in first bit = bits_width (bit - first)

-- of all; the legend has to find room
abbrev pub whole_width : ℕ → ℕ
whole_width many = max 704 (bits_width many + 104)

-- ---- down: the ruler and the bus have 64 pixels, each node 208, and the legend what is left

abbrev pub node_top : ℕ → ℕ
node_top node = 208 * node + 64

abbrev pub whole_height : ℕ → ℕ
whole_height nodes = node_top nodes + 120

-- the lines through all lanes at each tenth bit
abbrev pub line_height : ℕ → ℕ
line_height nodes = 208 * nodes + 34

-- ---- in a lane

-- a level: recessive above, dominant below
abbrev pub level_line : Level → ℕ
level_line Recessive = 5
level_line Dominant = 19

-- a counter, on a scale from 256 above to 0 below; what is more than 256 lies there too
abbrev pub counter_line : ℕ → ℕ
counter_line value = 256 - min 256 value
