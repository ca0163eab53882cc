-- A function of C with a handle and numbers.
pub mod NumberCall
pub mod NumberCode
pub mod NumberContract
pub mod NumberLocals
