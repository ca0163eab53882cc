pub mod Transmission
pub mod Waiting
pub mod Machine
pub mod CutRecords
