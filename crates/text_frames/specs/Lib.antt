-- ---- the fields of a frame
pub mod Fields
pub mod FieldNames
-- ---- the bits of a frame, and how it ended
pub mod FrameBits
pub mod FrameEnds
pub mod FrameStories
-- ---- the text
pub mod FieldTexts
pub mod FramesText
pub mod Passing
-- ---- how a list of frames is made bit by bit: definitions of private contracts alone
pub mod Inside
