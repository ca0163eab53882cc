-- A journal that the bus goes on with: its order, what was taken, aborts, bits, bus-off, and the links beside it.
pub mod Aborts
pub mod Activations
pub mod AskingOff
pub mod Begins
pub mod BitRecords
pub mod Items
pub mod Taking
