-- The parts of a journal, and the level on the bus, added up.
pub mod PartTallies
pub mod BusLevels
