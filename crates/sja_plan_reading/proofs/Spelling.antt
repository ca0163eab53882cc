-- Words, keys and items of a document, and what they spell.
pub mod Words
pub mod Numbers
pub mod Searches
pub mod Parts
pub mod Items
pub mod Keys
pub mod Texts
pub mod StepWords
pub mod StrikeWords
pub mod StrikeCounts
