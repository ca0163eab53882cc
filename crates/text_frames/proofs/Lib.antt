pub mod Fields
pub mod FrameLines
