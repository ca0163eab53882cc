-- Bits of all nodes in which nothing happens: those in which each is at rest, and those in which one node sends and the
-- others go on with it.
pub mod QuietRows
pub mod Ending
pub mod IdleRows
pub mod Places
pub mod LedBits
pub mod Fewer
pub mod LedRows
pub mod LedBusNodes
pub mod StrayRows
