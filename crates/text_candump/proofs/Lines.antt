-- The numbers in a line, as they are written.
pub mod FrameTexts
