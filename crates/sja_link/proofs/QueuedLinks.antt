-- The links of a node in one thread.
pub mod Left
pub mod Among
pub mod Hand
pub mod Lying
pub mod Moved
pub mod Ends
