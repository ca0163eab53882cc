-- A journal that the bus goes on with: its order, what was taken, aborts, bits, bus-off, and the links beside it.
pub mod Moving
pub mod Ordered
