-- A function of C with a handle and a text.
pub mod TextCall
pub mod TextCode
