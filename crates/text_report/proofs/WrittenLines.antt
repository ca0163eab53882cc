-- Texts that are written word by word and line by line.
pub mod Texts
pub mod Written
pub mod Numbered
