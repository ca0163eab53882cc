-- lists of bits: what was seen and driven, the segment of the next one, places of a frame
pub mod DrivenAlike
pub mod FramePlaces
pub mod FrameSites
pub mod Seen
pub mod SentParts
pub mod Slots
