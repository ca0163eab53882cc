-- The bytes that are free, and the messages that are shown.
pub mod LongMessages
pub mod Pullings
pub mod Holding
