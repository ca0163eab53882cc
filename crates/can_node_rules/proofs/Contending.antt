-- frames that start together
pub mod FieldLevels
pub mod LostFields
pub mod Winning
