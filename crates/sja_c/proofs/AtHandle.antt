-- What is done at a handle.
pub mod EachHandle
pub mod LentCall
pub mod NoHandle
