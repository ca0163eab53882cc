-- What texts are read as: messages of frames, levels of a line, and frames in the notation.
pub mod Spelled
pub mod Symbols
pub mod Translations
