-- A node before and after one bit.
pub mod BitAsked
pub mod BitCounted
pub mod BitPort
