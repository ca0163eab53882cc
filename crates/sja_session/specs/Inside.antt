-- Definitions of private contracts alone.
-- ---- steps that accesses do
pub mod Accessing
-- ---- bits in which no port is told anything
pub mod UntilTold
-- ---- lines that rose, as they were looked at
pub mod Risen
-- ---- what is written of a plan and of turns
pub mod Written
