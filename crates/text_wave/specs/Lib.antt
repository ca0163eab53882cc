-- ---- what a node shows: by its journal, and by what its bits brought
pub mod Through
pub mod Signals
pub mod Views
pub mod Stories
-- ---- the signals, each a function of the bit
pub mod Wires
pub mod Numbers
pub mod AllSignals
-- ---- the text
pub mod WaveText
-- ---- how the writer of a wave goes on from bit to bit: definitions of private contracts alone
pub mod Inside
