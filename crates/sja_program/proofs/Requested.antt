-- What words ask for, and what becomes of it.
pub mod RefusedMemory
pub mod Requests
pub mod Showing
