pub mod Words
pub mod RegisterNames
pub mod BitNames
pub mod Accesses
pub mod Messages
pub mod StepTexts
pub mod TurnTexts
pub mod StrikeTexts
pub mod PlaceNames
pub mod PlacedTexts
pub mod Texts
pub mod Document
pub mod DocumentLimits
pub mod Checks
pub mod Faults
pub mod PlacedPlans
pub mod FaultyLines
pub mod Inside
pub use Rattle.toml.specs.Data
pub use Rattle.toml.specs.Parse

-- ---- the face: the lemmas that proofs of other crates cite
-- face: proofs.OneReading.OneMessage.{is_message}
-- face: proofs.Spelling.Numbers.{own}
