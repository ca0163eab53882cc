-- What private contracts speak of: the views of private types, and parts of the texts.
pub mod Asking
pub mod Reaching
pub mod Tried
