pub mod EndWord
pub mod Log
pub mod LogWith
