-- Definitions of private contracts alone.
pub mod Rooms
