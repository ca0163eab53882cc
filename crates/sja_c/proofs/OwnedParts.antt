-- What is owned, as its machine values.
pub mod LooseParts
pub mod MadeParts
