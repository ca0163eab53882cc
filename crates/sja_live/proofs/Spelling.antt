-- What a session wrote has texts.
pub mod TurnTexts
pub mod WriteTexts
pub mod Spelled
pub mod SpelledSteps
pub mod BitWords
