-- What holds of a bus, and what it leaves.
pub mod Lawfuls
pub mod Marking
pub mod Logs
pub mod Striking
pub mod Broken
pub mod Laters
